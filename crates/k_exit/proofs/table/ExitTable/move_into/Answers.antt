use Rattle.std.proofs.Common.{◌≡◌, List, map, sym, ap, subst, ◌∙◌, arith}
use Rattle.k_exit.specs.declared.chains.Item.{Item}
use Rattle.k_exit.specs.Chains.{HasPassed, row_of}
use Rattle.k_exit.specs.Exits.{AreDistinct, ExitRow}
use Rattle.k_exit.proofs.table.ExitTable.move_into.Goals as goal

pub invariant_of-self : goal.invariant_of-self
invariant_of-self c =
    let items = c.self.inside.items.items in
    let rows : map row_of c.relink.new.items.items ≡ map row_of items = c.relink.ensures.rows ∙ ap (λ (xs : List Item). map row_of xs) (c.copy_items.ensures.items ∙ c.deref.ensures.value) in
    record {
      chained = c.relink.ensures.linked;
      reserved = omega (arith, c.relink.ensures.capacity, c.relink.ensures.room, c.copy_items.ensures.capacity, c.room.invariant.reserved);
      heads_reserved = omega (arith, c.relink.ensures.heads_capacity, c.relink.ensures.room, c.room.invariant.heads_reserved);
      distinct = subst (λ (rs : List ExitRow). AreDistinct rs) (sym rows) c.self.invariant.distinct;
      passed = subst (λ (rs : List ExitRow). HasPassed rs c.self.inside.wanted c.self.inside.from) (sym rows) c.self.invariant.passed;
    }
