use Rattle.std.proofs.Common.{◌≡◌, ℕ, List, [], map, replicate, get_or, length, sym, ap, subst, ◌∙◌, arith}
use Rattle.k_exit.specs.declared.chains.Item.{Item}
use Rattle.k_exit.specs.declared.table.Wanted.TheVariants.{Any}
use Rattle.k_exit.specs.Chains.{IsChained, HasPassed, row_of}
use Rattle.k_exit.specs.Exits.{AreDistinct}
use Rattle.k_exit.proofs.Removes.{none_linked, all_zero, zeros_len}
use Rattle.k_exit.proofs.Lists.{passed_end}
use Rattle.k_exit.proofs.table.ExitTable.make.Goals as goal

pub invariant_of-result : goal.invariant_of-result
invariant_of-result c =
    let heads : c.in_ok-heads.heads.items ≡ replicate {A = ℕ} c.args.room 0 = c.in_ok-heads.ensures.items in
    let len : length c.in_ok-heads.heads.items ≡ c.args.room = ap (λ (xs : List ℕ). length xs) heads ∙ zeros_len c.args.room in
    let empty : c.in_ok-items.items.items ≡ [] = c.in_ok-items.ensures.items in
    record {
      chained = subst (λ (xs : List Item). IsChained xs c.in_ok-heads.heads.items) (sym empty)
          (none_linked [] c.in_ok-heads.heads.items (λ b. ap (λ (xs : List ℕ). get_or xs b 0) heads ∙ all_zero c.args.room b) (omega arith) (omega (arith, len, c.ranges.room.fits)));
      reserved = omega (arith, len, c.in_ok-items.ensures.exact);
      heads_reserved = omega (arith, len, c.in_ok-heads.ensures.capacity);
      distinct = subst (λ (xs : List Item). AreDistinct (map row_of xs)) (sym empty) (λ t. omega arith);
      passed = subst (λ (xs : List Item). HasPassed (map row_of xs) Any 0) (sym empty) (passed_end [] Any 0 (omega arith));
    }
