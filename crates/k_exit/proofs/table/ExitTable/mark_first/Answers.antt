use Rattle.std.proofs.Common.{◌≡◌, List, map, length, refl, sym, ap, subst, ◌∙◌, arith}
use Rattle.std.proofs.lemmas.List.{length-map}
use Rattle.k_exit.specs.declared.chains.Item.{Item}
use Rattle.k_exit.specs.Chains.{IsChained, row_of}
use Rattle.k_exit.specs.Exits.{AreDistinct, ExitList, ExitRow, marked_first, with_first_marked}
use Rattle.k_exit.proofs.First.{distinct_first, first_at, first_items, first_length, rows_first}
use Rattle.k_exit.proofs.Lists.{linked_marks, passed_end}
use Rattle.k_exit.proofs.table.ExitTable.mark_first.Goals as goal

pub mark_front-requires : goal.mark_front-requires
mark_front-requires c = omega (arith, c.requires, ap (λ (e : ExitList). length e.items) c.self.view_is, length-map c.self.inside.items.items row_of)

pub invariant_of-self : goal.invariant_of-self
invariant_of-self c =
    let items = c.self.inside.items.items in
    let rows : map row_of c.mark_front.new.items.items ≡ marked_first c.args.count (map row_of items) = ap (λ (xs : List Item). map row_of xs) c.mark_front.ensures.items ∙ rows_first c.args.count items in
    record {
      chained = subst (λ (xs : List Item). IsChained xs c.self.inside.heads.items) (sym c.mark_front.ensures.items)
          (linked_marks items (first_items c.args.count items) c.self.inside.heads.items c.self.invariant.chained (first_length c.args.count items)
          (λ j. first_at (λ (x : Item). x.target) (λ x. refl) c.args.count items j) (λ j. first_at (λ (x : Item). x.next) (λ x. refl) c.args.count items j));
      reserved = omega (arith, c.mark_front.ensures.capacity, c.self.invariant.reserved);
      heads_reserved = c.self.invariant.heads_reserved;
      distinct = subst (λ (rs : List ExitRow). AreDistinct rs) (sym rows) (distinct_first c.args.count (map row_of items) c.self.invariant.distinct);
      passed = passed_end (map row_of c.mark_front.new.items.items) c.self.inside.wanted c.len-self-inside.result (c.len-self-inside.ensures ∙ c.mark_front.new.items.ok.0 ∙ sym (length-map c.mark_front.new.items.items row_of));
    }

pub returns : goal.returns
returns c =
    let items = c.self.inside.items.items in
    let rows : map row_of c.mark_front.new.items.items ≡ marked_first c.args.count (map row_of items) = ap (λ (xs : List Item). map row_of xs) c.mark_front.ensures.items ∙ rows_first c.args.count items in
    ap (λ (rs : List ExitRow). record { items = rs; room = length c.self.inside.heads.items }) rows ∙ ap (λ (e : ExitList). with_first_marked e c.args.count) c.self.view_is
