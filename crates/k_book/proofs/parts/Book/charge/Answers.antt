use Rattle.std.proofs.Common.{◌≡◌, ◌<◌, ◌+◌, ap, sym, ◌∙◌, subst, Some, None, slice_index, slice_set}
use Rattle.k_limits.specs.Limits.{ChargedLimits, full_at}
use Rattle.k_limits.proofs.Making.{handed_on}
use Rattle.k_book.specs.Books.{BookRecord, book_by}
use Rattle.k_book.proofs.Resized.{count_seen, limits_seen}
use Rattle.k_book.proofs.parts.Book.charge.Goals as goal

pub charge-requires : goal.charge-requires
charge-requires c = subst (λ n. c.args.at.0 < n) (count_seen c.self.inside.limits c.self.inside.entered c.self.inside.table c.self.inside.journal c.self.inside.of_process.items c.self.inside.ceiling c.self.inside.closed _ c.self.view_is) c.requires

pub returns-clause-charged : goal.returns-clause-charged
returns-clause-charged c =
    let done = c.in_ok-charge.ensures.charged in
    let seen = limits_seen c.self.inside.limits c.self.inside.entered c.self.inside.table c.self.inside.journal c.self.inside.of_process.items c.self.inside.ceiling c.self.inside.closed _ c.self.view_is in
    let shown = λ (limits : ChargedLimits). book_by limits c.self.inside.entered c.self.inside.table c.self.inside.journal c.self.inside.of_process.items c.self.inside.ceiling c.self.inside.closed in (
      ap shown done.0 ∙ ap (λ (b : BookRecord). record b { value = record b.value { direct = slice_set b.value.direct c.args.at.0 (slice_index b.value.direct c.args.at.0 + c.args.n) } }) c.self.view_is,
      subst (λ (limits : ChargedLimits). full_at limits c.args.at.0 c.args.n ≡ None) (sym seen) done.1,
    )

pub returns-in_err-charge-clause-full : goal.returns-in_err-charge-clause-full
returns-in_err-charge-clause-full c =
    let kept = c.in_err-charge.ensures.full in
    let seen = limits_seen c.self.inside.limits c.self.inside.entered c.self.inside.table c.self.inside.journal c.self.inside.of_process.items c.self.inside.ceiling c.self.inside.closed _ c.self.view_is in
    let shown = λ (limits : ChargedLimits). book_by limits c.self.inside.entered c.self.inside.table c.self.inside.journal c.self.inside.of_process.items c.self.inside.ceiling c.self.inside.closed in
    handed_on _ c.from_residual.result c.in_err-charge.field-0.0 c.from_residual.ensures.1 (
      ap shown kept.0 ∙ c.self.view_is,
      subst (λ (limits : ChargedLimits). full_at limits c.args.at.0 c.args.n ≡ Some c.in_err-charge.field-0.0.0) (sym seen) kept.1,
    )
