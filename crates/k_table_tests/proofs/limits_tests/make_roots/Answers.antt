use Rattle.std.proofs.Common.{◌≡◌, List, length, replicate, refl, sym, ap, subst, ◌∙◌, arith}
use Rattle.std.proofs.lemmas.List.{length-replicate}
use Rattle.k_types.specs.declared.setup.LimitRow.{LimitRow}
use Rattle.k_limits.specs.Rows.{AreRows}
use Rattle.k_limits.proofs.Alike.{rows_alike}
use Rattle.k_table_tests.proofs.limits_tests.make_roots.Goals as goal

pub make-requires : goal.make-requires
make-requires c =
    let rows : c.deref.result.now ≡ replicate c.args.count c.root.result = c.deref.ensures.value ∙ c.in_ok-rows.ensures.items_if_clones_equal (λ y e. search (e)) in
    record {
      rows = subst (λ (xs : List LimitRow). AreRows xs) (sym rows) (subst (λ (row : LimitRow). AreRows (replicate c.args.count row)) (sym c.root.ensures) (rows_alike c.args.count _ refl (omega arith)));
      few = omega (arith, ap (λ (xs : List LimitRow). length xs) rows, length-replicate c.args.count c.root.result, c.ranges.count.fits);
    }
