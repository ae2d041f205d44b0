use Rattle.std.proofs.Common.{◌≡◌, ◌+◌, ◌&&◌, not, List, map, length, ◌∷◌, sym, ap, subst, ◌∙◌, inl, inr, arith}
use Rattle.std.proofs.lemmas.Bool.{cases_lt, and_parts}
use Rattle.std.proofs.lemmas.Option.{slice_get_within, get_or_from_slice_get}
use Rattle.std.proofs.Math.ListN.{get_or-map}
use Rattle.std.specs.List.Sorted.{IsPermutation}
use Rattle.k_exit.specs.declared.chains.Item.{Item}
use Rattle.k_exit.specs.Chains.{HasPassed, IsLastWanted, row_of, at, blank, rows_without}
use Rattle.k_exit.specs.Exits.{ExitRow, ExitList, AreDistinct, has_target, target_marked}
use Rattle.k_exit.proofs.Lists.{without_is, distinct_taken, passed_without}
use Rattle.k_exit.proofs.Takes.{left_over, one_fewer}
use Rattle.k_types.specs.Names.{name_eq}
use Rattle.std.proofs.lemmas.List.{length-map}
use Rattle.k_exit.proofs.table.ExitTable.take.Goals as goal

pub last_wanted-found-requires : goal.last_wanted-found-requires
last_wanted-found-requires c =
    let rows : length (map row_of c.self.inside.items.items) ≡ length c.args.self.now.items = ap (λ (e : ExitList). length e.items) c.self.view_is in
    omega (arith, c.start-end.ensures.within, rows, length-map c.self.inside.items.items row_of, c.deref.ensures.len, c.self.inside.items.ok.0)

pub invariant_of-self : goal.invariant_of-self
invariant_of-self c =
    let items = c.self.inside.items.items in
    let found : IsLastWanted (map row_of items) c.args.wanted c.start-end.result c.in-Some.i = subst (λ (xs : List Item). IsLastWanted (map row_of xs) c.args.wanted c.start-end.result c.in-Some.i) c.deref.ensures.value c.in-Some.ensures.some in
    let start : HasPassed (map row_of items) c.args.wanted c.start-end.result = subst (λ (e : ExitList). HasPassed e.items c.args.wanted c.start-end.result) (sym c.self.view_is) c.start-end.ensures in
    let within = slice_get_within (map row_of items) c.in-Some.i found.row found.there in
    let same = without_is (map row_of items) c.in-Some.i found.row found.there in
    record {
      chained = c.remove-target.ensures.linked;
      reserved = omega (arith, c.remove-target.ensures.capacity, c.remove-target.ensures.room, c.self.invariant.reserved);
      heads_reserved = omega (arith, c.remove-target.ensures.heads_capacity, c.remove-target.ensures.room, c.self.invariant.heads_reserved);
      distinct = subst (λ (rs : List ExitRow). AreDistinct rs) (sym c.remove-target.ensures.rows) (distinct_taken (map row_of items) (rows_without (map row_of items) c.in-Some.i) found.row same c.self.invariant.distinct);
      passed = subst (λ (rs : List ExitRow). HasPassed rs c.args.wanted c.in-Some.i) (sym c.remove-target.ensures.rows)
          (passed_without (map row_of items) c.args.wanted c.in-Some.i within (λ j row above at.
          elim (cases_lt j c.start-end.result) [ inl below ↦ found.last j row above below at | inr past ↦ start.passed j row past at ]));
    }

pub returns-in-Some-clause-some : goal.returns-in-Some-clause-some
returns-in-Some-clause-some c =
    let items = c.self.inside.items.items in
    let found : IsLastWanted (map row_of items) c.args.wanted c.start-end.result c.in-Some.i = subst (λ (xs : List Item). IsLastWanted (map row_of xs) c.args.wanted c.start-end.result c.in-Some.i) c.deref.ensures.value c.in-Some.ensures.some in
    let same = without_is (map row_of items) c.in-Some.i found.row found.there in
    let row_is : row_of (at items c.in-Some.i) ≡ found.row = sym (get_or-map row_of items c.in-Some.i blank) ∙ get_or_from_slice_get (map row_of items) c.in-Some.i found.row (row_of blank) found.there in
    let gone : IsPermutation (map row_of items) (found.row ∷ map row_of c.remove-target.new.items.items) = subst (λ (rs : List ExitRow). IsPermutation (map row_of items) (found.row ∷ rs)) (sym c.remove-target.ensures.rows) same in (
      found.row,
      record {
        target = sym (ap (λ (r : ExitRow). r.target) row_is) ∙ sym c.remove-target.ensures.target;
        taken = subst (λ (e : ExitList). IsPermutation e.items (found.row ∷ map row_of c.remove-target.new.items.items)) c.self.view_is
            gone;
        left = λ n. subst (λ (e : ExitList). has_target (map row_of c.remove-target.new.items.items) n ≡ (has_target e.items n && not (name_eq found.row.target n))) c.self.view_is
            (left_over (λ (x : ExitRow). name_eq x.target n) n (λ x e. e) (map row_of items) (map row_of c.remove-target.new.items.items) found.row gone c.self.invariant.distinct);
        marks = λ n. subst (λ (e : ExitList). target_marked (map row_of c.remove-target.new.items.items) n ≡ (target_marked e.items n && not (name_eq found.row.target n))) c.self.view_is
            (left_over (λ (x : ExitRow). name_eq x.target n && x.marked) n (λ x e. (and_parts (name_eq x.target n) x.marked e).0) (map row_of items) (map row_of c.remove-target.new.items.items) found.row gone c.self.invariant.distinct);
        fewer = subst (λ (e : ExitList). length (map row_of c.remove-target.new.items.items) + 1 ≡ length e.items) c.self.view_is (one_fewer (map row_of items) (map row_of c.remove-target.new.items.items) found.row gone);
        room = c.remove-target.ensures.room ∙ ap (λ (e : ExitList). e.room) c.self.view_is;
        distinct = subst (λ (rs : List ExitRow). AreDistinct rs) (sym c.remove-target.ensures.rows) (distinct_taken (map row_of items) (rows_without (map row_of items) c.in-Some.i) found.row same c.self.invariant.distinct);
      },
      found.wants,
    )
