use Rattle.std.proofs.Common.{◌≡◌, ◌+◌, ◌&&◌, List, Some, map, slice_get, sym, ap, ap₂, subst, is_lt, nat_cmp, add-one, ◌∙◌, arith, rules}
use Rattle.std.specs.List.Sorted.{IsPermutation}
use Rattle.std.proofs.lemmas.List.Sorted.{IsPermutation-map, list_any-IsPermutation, answers_always}
use Rattle.k_types.specs.declared.names.Name.{Name}
use Rattle.k_types.specs.Names.{name_eq}
use Rattle.k_exit.specs.declared.chains.Item.{Item}
use Rattle.k_exit.specs.Chains.{row_of, blank}
use Rattle.k_exit.specs.Exits.{ExitRow, ExitList, AreDistinct}
use Rattle.std.specs.Ordering.{ordering_then}
use Rattle.std.proofs.lemmas.Option.{slice_get_within}
use Rattle.std.proofs.lemmas.List.{length-map}
use Rattle.k_exit.proofs.Order.{apart_next, key_at}
use Rattle.k_exit.proofs.Lists.{distinct_same, passed_end}
use Rattle.k_exit.proofs.table.ExitTable.arrange.Goals as goal
use Rattle.k_types.proofs.NameTests.{comes_first}

pub invariant_of-self : goal.invariant_of-self
invariant_of-self c =
    let items = c.self.inside.items.items in
    let same : IsPermutation (map row_of items) (map row_of c.relink.new.items.items) =
    subst (λ (rs : List ExitRow). IsPermutation (map row_of items) rs) (sym c.relink.ensures.rows) (IsPermutation-map row_of items c.sort_unstable_by_key.new.self.items c.sort_unstable_by_key.ensures.permutation) in
    record {
      chained = c.relink.ensures.linked;
      reserved = omega (arith, c.relink.ensures.capacity, c.relink.ensures.room, c.sort_unstable_by_key.ensures.capacity, c.self.invariant.reserved);
      heads_reserved = omega (arith, c.relink.ensures.heads_capacity, c.relink.ensures.room, c.self.invariant.heads_reserved);
      distinct = distinct_same (map row_of items) (map row_of c.relink.new.items.items) same c.self.invariant.distinct;
      passed = passed_end (map row_of c.relink.new.items.items) c.self.inside.wanted c.len-self-inside.result (c.len-self-inside.ensures ∙ c.relink.new.items.ok.0 ∙ sym (length-map c.relink.new.items.items row_of));
    }

pub returns-clause-items : goal.returns-clause-items
returns-clause-items c =
    let items = c.self.inside.items.items in
    subst (λ (e : ExitList). IsPermutation e.items (map row_of c.relink.new.items.items)) c.self.view_is
    (subst (λ (rs : List ExitRow). IsPermutation (map row_of items) rs) (sym c.relink.ensures.rows) (IsPermutation-map row_of items c.sort_unstable_by_key.new.self.items c.sort_unstable_by_key.ensures.permutation))

pub returns-clause-targets : goal.returns-clause-targets
returns-clause-targets c = λ n. sym (list_any-IsPermutation (λ (x : ExitRow). name_eq x.target n) c.args.self.now.items (map row_of c.relink.new.items.items) (returns-clause-items c))

pub returns-clause-marks : goal.returns-clause-marks
returns-clause-marks c = λ n. sym (list_any-IsPermutation (λ (x : ExitRow). name_eq x.target n && x.marked) c.args.self.now.items (map row_of c.relink.new.items.items) (returns-clause-items c))

pub returns-clause-distinct : goal.returns-clause-distinct
returns-clause-distinct c =
    let old : AreDistinct c.args.self.now.items = subst (λ (e : ExitList). AreDistinct e.items) c.self.view_is c.self.invariant.distinct in
    distinct_same c.args.self.now.items (map row_of c.relink.new.items.items) (returns-clause-items c) old

pub returns-clause-order : goal.returns-clause-order
returns-clause-order c = λ i x y at next.
    let items = c.self.inside.items.items in
    let sorted = c.sort_unstable_by_key.ensures.sorted (λ (x : Item). x.target) (answers_always _ _ _ (λ f a r g h. search rules)) in
    let rows = c.relink.ensures.rows in
    let same : IsPermutation (map row_of items) (map row_of c.relink.new.items.items) =
    subst (λ (rs : List ExitRow). IsPermutation (map row_of items) rs) (sym rows) (IsPermutation-map row_of items c.sort_unstable_by_key.new.self.items c.sort_unstable_by_key.ensures.permutation) in
    let distinct = distinct_same (map row_of items) (map row_of c.relink.new.items.items) same c.self.invariant.distinct in
    let there : slice_get (map row_of c.sort_unstable_by_key.new.self.items) i ≡ Some x = ap (λ (rs : List ExitRow). slice_get rs i) (sym rows) ∙ at in
    let after : slice_get (map row_of c.sort_unstable_by_key.new.self.items) (i + 1) ≡ Some y = ap (λ (rs : List ExitRow). slice_get rs (i + 1)) (sym rows) ∙ next in
    let within = slice_get_within (map row_of c.sort_unstable_by_key.new.self.items) (i + 1) y after in
    let test = sorted i blank (omega arith) (omega (arith, within, length-map c.sort_unstable_by_key.new.self.items row_of)) in
    let x_is = key_at c.sort_unstable_by_key.new.self.items i x there in
    let y_is = key_at c.sort_unstable_by_key.new.self.items (i + 1) y after in
    comes_first x.target y.target
    (ap₂ (λ (a b : Name). is_lt (ordering_then (nat_cmp b.seg.0 a.seg.0) (nat_cmp b.serial.0 a.serial.0))) (sym x_is) (sym y_is) ∙ test)
    (apart_next (map row_of c.relink.new.items.items) i x y distinct at (ap (slice_get (map row_of c.relink.new.items.items)) (sym (add-one i)) ∙ next))
