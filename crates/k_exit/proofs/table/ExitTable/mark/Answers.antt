use Rattle.std.proofs.Common.{◌≡◌, ◌<◌, true, false, List, Some, None, map, set, length, refl, sym, ap, subst, ◌∙◌, arith}
use Rattle.std.proofs.lemmas.Bool.{false≢true}
use Rattle.std.proofs.lemmas.List.{length-set, map-set, length-map}
use Rattle.std.proofs.Math.ListN.{get_or-map}
use Rattle.std.proofs.lemmas.Option.{slice_get-get_or}
use Rattle.k_exit.specs.declared.chains.Item.{Item}
use Rattle.k_exit.specs.Chains.{HasPassed, row_of, at, blank}
use Rattle.k_exit.specs.Exits.{ExitRow, ExitList, AreDistinct, has_target, marked_if, with_marked}
use Rattle.k_types.proofs.NameTests.{name_eq-same}
use Rattle.k_exit.proofs.Relinks.{read_at}
use Rattle.k_exit.proofs.Lists.{has_by, marked_set, linked_marks, distinct_marked, passed_marked, mark_same}
use Rattle.k_exit.proofs.table.ExitTable.mark.Goals as goal

pub unreachable-requires : goal.unreachable-requires
unreachable-requires c =
    let found = has_by c.deref.result.now c.args.target None c.in_default.ensures.within c.in_default.ensures.there c.in_default.ensures.none in
    let there : has_target c.args.self.now.items c.args.target ≡ false =
    ap (λ (e : ExitList). has_target e.items c.args.target) (sym c.self.view_is) ∙ ap (λ (xs : List Item). has_target (map row_of xs) c.args.target) (sym c.deref.ensures.value) ∙ sym found in
    false≢true (sym there ∙ c.requires)

-- the rows afterwards
rows : (c : goal.After-self-1) → map row_of (set c.self.inside.items.items c.in-Some.i (record { target = c.index_mut.result.now.target; marked = true; next = c.index_mut.result.now.next })) ≡ map (marked_if c.args.target) (map row_of c.self.inside.items.items)
rows c =
    let items = c.self.inside.items.items in
    let within : c.in-Some.i < length items = subst (λ (xs : List Item). c.in-Some.i < length xs) c.deref.ensures.value c.in-Some.ensures.within in
    let x : c.index_mut.result.now ≡ at items c.in-Some.i = read_at items c.in-Some.i c.index_mut.result.now within c.index_mut.ensures.value in
    let target : (at items c.in-Some.i).target ≡ c.args.target = subst (λ (xs : List Item). (at xs c.in-Some.i).target ≡ c.args.target) c.deref.ensures.value c.in-Some.ensures.there in
    map-set row_of items c.in-Some.i (record { target = c.index_mut.result.now.target; marked = true; next = c.index_mut.result.now.next })
    ∙ marked_set (map row_of items) c.in-Some.i (row_of c.index_mut.result.now) c.args.target c.self.invariant.distinct
    (slice_get-get_or (map row_of items) c.in-Some.i (row_of blank) (omega (arith, within, length-map items row_of)) ∙ ap Some (get_or-map row_of items c.in-Some.i blank ∙ ap row_of (sym x)))
    (name_eq-same c.index_mut.result.now.target c.args.target (ap (λ (y : Item). y.target) x ∙ target))

pub invariant_of-self : goal.invariant_of-self
invariant_of-self c =
    let items = c.self.inside.items.items in
    let within : c.in-Some.i < length items = subst (λ (xs : List Item). c.in-Some.i < length xs) c.deref.ensures.value c.in-Some.ensures.within in
    let x : c.index_mut.result.now ≡ at items c.in-Some.i = read_at items c.in-Some.i c.index_mut.result.now within c.index_mut.ensures.value in
    record {
      chained = linked_marks items (set items c.in-Some.i (record { target = c.index_mut.result.now.target; marked = true; next = c.index_mut.result.now.next })) c.self.inside.heads.items c.self.invariant.chained
          (length-set items c.in-Some.i (record { target = c.index_mut.result.now.target; marked = true; next = c.index_mut.result.now.next }))
          (λ j. mark_same (λ (y : Item). y.target) items c.in-Some.i c.index_mut.result.now (λ y. refl) within x j)
          (λ j. mark_same (λ (y : Item). y.next) items c.in-Some.i c.index_mut.result.now (λ y. refl) within x j);
      reserved = c.self.invariant.reserved;
      heads_reserved = c.self.invariant.heads_reserved;
      distinct = subst (λ (rs : List ExitRow). AreDistinct rs) (sym (rows c)) (distinct_marked (map row_of items) c.args.target c.self.invariant.distinct);
      passed = subst (λ (rs : List ExitRow). HasPassed rs c.self.inside.wanted c.self.inside.from) (sym (rows c)) (passed_marked (map row_of items) c.self.inside.wanted c.self.inside.from c.args.target c.self.invariant.passed);
    }

pub returns : goal.returns
returns c =
    ap (λ (rs : List ExitRow). record { items = rs; room = length c.self.inside.heads.items }) (rows c)
    ∙ ap (λ (e : ExitList). with_marked e c.args.target) c.self.view_is
