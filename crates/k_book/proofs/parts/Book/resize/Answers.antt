use Rattle.std.proofs.Common.{◌≡◌, ◌<◌, ◌≤◌, ap, ap₂, sym, ◌∙◌, subst, None, List, length, slice_set, is_some, replicate}
use Rattle.k_types.specs.declared.setup.LimitRow.{LimitRow}
use Rattle.k_types.specs.Trace.{row_of}
use Rattle.k_types.proofs.Maxima.{parent_in}
use Rattle.k_limits.specs.Limits.{ChargedLimits, use_at}
use Rattle.k_limits.specs.Resizes.{ExplainsResize, full_for_at, with_max_at}
use Rattle.k_limits.proofs.Making.{handed_on}
use Rattle.k_book.specs.Books.{BookRecord, book_by}
use Rattle.k_book.proofs.Resized.{bare_set, count_seen, limits_seen, maxima_set, rows_seen}
use Rattle.k_book.proofs.parts.Book.resize.Goals as goal

pub resize-requires-clause-there : goal.resize-requires-clause-there
resize-requires-clause-there c = subst (λ n. c.args.at.0 < n) (count_seen c.self.inside.limits c.self.inside.entered c.self.inside.table c.self.inside.journal c.self.inside.of_process.items c.self.inside.ceiling c.self.inside.closed _ c.self.view_is) c.requires.there

pub resize-requires-clause-below : goal.resize-requires-clause-below
resize-requires-clause-below c =
    sym (ap is_some (parent_in c.self.inside.limits.rows (replicate (length c.self.inside.limits.rows) 0) c.args.at.0))
    ∙ sym (ap (λ (rows : List LimitRow). is_some (row_of rows c.args.at.0).parent) (rows_seen c.self.inside.limits c.self.inside.entered c.self.inside.table c.self.inside.journal c.self.inside.of_process.items c.self.inside.ceiling c.self.inside.closed _ c.self.view_is))
    ∙ c.requires.below

pub returns-clause-resized : goal.returns-clause-resized
returns-clause-resized c =
    let done = c.in_ok-resize.ensures.resized in
    let seen = limits_seen c.self.inside.limits c.self.inside.entered c.self.inside.table c.self.inside.journal c.self.inside.of_process.items c.self.inside.ceiling c.self.inside.closed _ c.self.view_is in
    let shown = λ (limits : ChargedLimits). book_by limits c.self.inside.entered c.self.inside.table c.self.inside.journal c.self.inside.of_process.items c.self.inside.ceiling c.self.inside.closed in
    let was = shown (with_max_at c.args.at.0 c.args.max c.self.inside.limits) in (
      ap shown done.0
          ∙ ap₂ (λ rows maxima. record was { value = record was.value { maxima = maxima }; rows = rows }) (bare_set c.self.inside.limits.rows c.args.at.0 c.args.max)
          (maxima_set c.self.inside.limits.rows c.args.at.0 c.args.max)
          ∙ ap (λ (b : BookRecord). record b { value = record b.value { maxima = slice_set b.value.maxima c.args.at.0 c.args.max } }) c.self.view_is,
      subst (λ (limits : ChargedLimits). use_at limits c.args.at.0 ≤ c.args.max) (sym seen) done.1,
      subst (λ (limits : ChargedLimits). full_for_at limits c.args.at.0 c.args.max ≡ None) (sym seen) done.2,
    )

pub returns-in_err-resize-clause-refused : goal.returns-in_err-resize-clause-refused
returns-in_err-resize-clause-refused c =
    let kept = c.in_err-resize.ensures.refused in
    let seen = limits_seen c.self.inside.limits c.self.inside.entered c.self.inside.table c.self.inside.journal c.self.inside.of_process.items c.self.inside.ceiling c.self.inside.closed _ c.self.view_is in
    let shown = λ (limits : ChargedLimits). book_by limits c.self.inside.entered c.self.inside.table c.self.inside.journal c.self.inside.of_process.items c.self.inside.ceiling c.self.inside.closed in
    handed_on _ c.from_residual.result c.in_err-resize.field-0.0 c.from_residual.ensures.1 (
      ap shown kept.0 ∙ c.self.view_is,
      subst (λ (limits : ChargedLimits). ExplainsResize limits c.args.at.0 c.args.max c.in_err-resize.field-0.0) (sym seen) kept.1,
    )
