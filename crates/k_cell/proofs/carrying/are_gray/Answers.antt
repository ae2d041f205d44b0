use Rattle.std.proofs.Common.{◌≡◌, true, slice_get, inl, inr, subst, sym, ap, ◌∙◌, arith}
use Rattle.std.proofs.lemmas.Bool.{cases_eq}
use Rattle.std.proofs.lemmas.Option.{get_or_from_slice_get}
use Rattle.k_mark.specs.k_types.declared.names.Name.{Name}
use Rattle.k_mark.specs.k_space.Areas.{gray_at}
use Rattle.k_mark.specs.Kept.{old_at}
use Rattle.k_cell.proofs.Carried.{all_gray}
use Rattle.k_cell.proofs.carrying.are_gray.Goals as goal

pub returns : goal.returns
returns c = λ t. all_gray c.args.area.now c.args.bound c.args.roots.now (λ k r within at. c.loop-root.invariant k r (omega (arith, within, c.loop-root-test.false)) at)

pub loop-root-preserved : goal.loop-root-preserved
loop-root-preserved c = λ k r low at.
    elim (cases_eq k c.loop-root.root-index) [
      | inl same ↦
          subst (λ (x : Name). old_at c.args.area.now c.args.bound x ≡ true → gray_at c.args.area.now x ≡ true) (get_or_from_slice_get c.args.roots.now c.loop-root.root-index r _ (ap (slice_get c.args.roots.now) (sym same) ∙ at))
          (c.is_gray_still.ensures c.if-not-is_gray_still.false)
      | inr differs ↦ c.loop-root.invariant k r (omega (arith, low, differs)) at
    ]
