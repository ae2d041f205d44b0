use Rattle.std.proofs.Common.{◌≡◌, List, map, length, sym, ap, subst, ◌∙◌, arith}
use Rattle.std.proofs.Math.ListN.{get_or-map}
use Rattle.std.proofs.lemmas.List.{length-map}
use Rattle.k_exit.specs.declared.chains.Item.{Item}
use Rattle.k_exit.specs.Chains.{IsChained, row_of, blank, unmarked_item}
use Rattle.k_exit.specs.Exits.{ExitRow, ExitList, AreDistinct, unmarked_row, unmarked}
use Rattle.k_exit.proofs.Lists.{linked_marks, distinct_unmarked, passed_end, rows_unmarked}
use Rattle.k_exit.proofs.table.ExitTable.unmark_all.Goals as goal

pub invariant_of-self : goal.invariant_of-self
invariant_of-self c =
    let items = c.self.inside.items.items in
    let rows : map row_of c.unmark.new.items.items ≡ map unmarked_row (map row_of items) = ap (λ (xs : List Item). map row_of xs) c.unmark.ensures.items ∙ rows_unmarked items in
    record {
      chained = subst (λ (xs : List Item). IsChained xs c.self.inside.heads.items) (sym c.unmark.ensures.items)
          (linked_marks items (map unmarked_item items) c.self.inside.heads.items c.self.invariant.chained (length-map items unmarked_item)
          (λ j. ap (λ (x : Item). x.target) (get_or-map unmarked_item items j blank)) (λ j. ap (λ (x : Item). x.next) (get_or-map unmarked_item items j blank)));
      reserved = omega (arith, c.unmark.ensures.capacity, c.self.invariant.reserved);
      heads_reserved = c.self.invariant.heads_reserved;
      distinct = subst (λ (rs : List ExitRow). AreDistinct rs) (sym rows) (distinct_unmarked (map row_of items) c.self.invariant.distinct);
      passed = passed_end (map row_of c.unmark.new.items.items) c.self.inside.wanted c.len-self-inside.result (c.len-self-inside.ensures ∙ c.unmark.new.items.ok.0 ∙ sym (length-map c.unmark.new.items.items row_of));
    }

pub returns : goal.returns
returns c =
    let items = c.self.inside.items.items in
    let rows : map row_of c.unmark.new.items.items ≡ map unmarked_row (map row_of items) = ap (λ (xs : List Item). map row_of xs) c.unmark.ensures.items ∙ rows_unmarked items in
    ap (λ (rs : List ExitRow). record { items = rs; room = length c.self.inside.heads.items }) rows ∙ ap (λ (e : ExitList). unmarked e) c.self.view_is
