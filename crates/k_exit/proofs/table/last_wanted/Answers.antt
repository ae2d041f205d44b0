use Rattle.std.proofs.Common.{◌≡◌, ◌-◌, map, get_or, sym, ap, ◌∙◌, inl, inr, arith}
use Rattle.std.proofs.lemmas.Bool.{cases_eq}
use Rattle.std.proofs.lemmas.Option.{get_or_from_slice_get}
use Rattle.std.proofs.Math.ListN.{get_or-map}
use Rattle.k_exit.specs.Chains.{row_of, blank, is_wanted}
use Rattle.k_exit.proofs.table.last_wanted.Goals as goal

pub loop-i-preserved : goal.loop-i-preserved
loop-i-preserved c =
    let i = c.loop-i.i - 1 in
    record {
      within = omega (arith, c.loop-i.invariant.within);
      passed = λ j row low high at.
          elim (cases_eq j (c.loop-i.i - 1)) [
            | inl same ↦
                let here : row_of (get_or c.args.items.now (c.loop-i.i - 1) blank) ≡ row =
                sym (get_or-map row_of c.args.items.now (c.loop-i.i - 1) blank) ∙ ap (λ k. get_or (map row_of c.args.items.now) k (row_of blank)) (sym same)
                ∙ get_or_from_slice_get (map row_of c.args.items.now) j row (row_of blank) at in
                ap (is_wanted c.args.wanted) (sym here) ∙ sym c.fits.ensures ∙ c.if-fits.false
            | inr differs ↦ c.loop-i.invariant.passed j row (omega (arith, low, differs)) high at
          ];
    }
