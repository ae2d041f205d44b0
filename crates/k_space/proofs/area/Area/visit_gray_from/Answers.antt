use Rattle.std.proofs.Common.{◌≡◌, length, slice_get, ap, ◌∙◌, arith, inl, inr}
use Rattle.std.proofs.lemmas.Bool.{cases_lt}
use Rattle.k_space.specs.Areas.{AreaValue}
use Rattle.k_space.proofs.Segs.{no_grays, if_none}
use Rattle.k_space.proofs.area.Area.visit_gray_from.Goals as goal

pub returns-clause-none : goal.returns-clause-none
returns-clause-none c =
    let whole : length c.self.inside.segments.items ≡ length c.args.self.now.segments = ap (λ (a : AreaValue). length a.segments) c.self.view_is in
    if_none c.visit_gray_between-2.result (λ below n.
    no_grays c.args.self.now.segments n (λ k s within e serial.
    elim (cases_lt k c.min-from.result) [
      | inl low ↦ below k s serial (omega arith) low (ap (λ (a : AreaValue). slice_get a.segments k) c.in_default.ensures.kept ∙ e)
      | inr high ↦ c.in_default.ensures.none k s serial high (omega (arith, within, whole, c.self.inside.segments.ok.0, c.len-len.ensures)) e
    ])) c.visit_gray_between-2.ensures.none
