use Rattle.std.proofs.Common.{ℕ, Vec, Global, Option, refl, sym, ap, subst, ◌∙◌, arith, vec_capacity, length, slice_get}
use Rattle.k_types.specs.declared.names.Name.{Name}
use Rattle.k_lists.specs.Lists.{members}
use Rattle.k_lists.proofs.Apart.{apart_in}
use Rattle.k_entry.specs.Copies.{IsCopied}
use Rattle.k_entry.specs.Slots.{objects_in, walk_of}
use Rattle.k_entry.proofs.Members.{once_of, step, way_in}
use Rattle.k_entry.proofs.Ways.{own_step, way_shorter}
use Rattle.k_entry.proofs.Copied.{HasCopiedLists, list_copied, list_passed, list_stops, lists_begin, lists_end}
use Rattle.k_entry.proofs.copying.copy_walk.Goals.{else-is_same-via-then-is_same+else-not-copy_list, else-is_same-via-else-is_same}
use Rattle.k_entry.proofs.copying.copy_walk.Goals as goal

pub loop-next-init : goal.loop-next-init
loop-next-init c = record {
  capacity = refl;
  copied =
      lists_begin (vec_capacity c.args.row.now) c.args.slots.now c.args.segments.now c.args.homes.now c.args.heap (members c.args.walks.now (walk_of (length c.args.homes.now) c.args.heap)) c.first-next.result c.args.row.now.items
      (c.first-next.ensures.value ∙ ap (λ walk. slice_get (members c.args.walks.now walk) 0) c.walk_number.ensures.value);
}

pub bounds-homes-seg : goal.bounds-homes-seg
bounds-homes-seg c =
    let xs = members c.args.walks.now (walk_of (length c.args.homes.now) c.args.heap) in
    let p = subst (λ (o : Option ℕ). HasCopiedLists (vec_capacity c.args.row.now) c.args.slots.now c.args.segments.now c.args.homes.now c.args.heap xs o c.args.row.now.items c.loop-next.row.items) c.in-Some.is c.loop-next.invariant.copied in
    omega (arith, c.requires.homes, apart_in c.args.walks.now (walk_of (length c.args.homes.now) c.args.heap) c.in-Some.seg c.first-next.ensures.apart (way_in xs p.before c.in-Some.seg p.on))

pub copy_list-requires-clause-list : goal.copy_list-requires-clause-list
copy_list-requires-clause-list c =
    let xs = members c.args.walks.now (walk_of (length c.args.homes.now) c.args.heap) in
    let p = subst (λ (o : Option ℕ). HasCopiedLists (vec_capacity c.args.row.now) c.args.slots.now c.args.segments.now c.args.homes.now c.args.heap xs o c.args.row.now.items c.loop-next.row.items) c.in-Some.is c.loop-next.invariant.copied in
    omega (arith, c.requires.homes, c.requires.segments, apart_in c.args.walks.now (walk_of (length c.args.homes.now) c.args.heap) c.in-Some.seg c.first-next.ensures.apart (way_in xs p.before c.in-Some.seg p.on))

pub next-next-requires : goal.next-next-requires
next-next-requires c =
    let xs = members c.args.walks.now (walk_of (length c.args.homes.now) c.args.heap) in
    let p = subst (λ (o : Option ℕ). HasCopiedLists (vec_capacity c.args.row.now) c.args.slots.now c.args.segments.now c.args.homes.now c.args.heap xs o c.args.row.now.items c.loop-next.row.items) c.in-Some.is c.loop-next.invariant.copied in
    apart_in c.args.walks.now (walk_of (length c.args.homes.now) c.args.heap) c.in-Some.seg c.first-next.ensures.apart (way_in xs p.before c.in-Some.seg p.on)

pub loop-next-smaller : goal.loop-next-smaller
loop-next-smaller c =
    let xs = members c.args.walks.now (walk_of (length c.args.homes.now) c.args.heap) in
    let p = subst (λ (o : Option ℕ). HasCopiedLists (vec_capacity c.args.row.now) c.args.slots.now c.args.segments.now c.args.homes.now c.args.heap xs o c.args.row.now.items c.loop-next.row.items) c.in-Some.is c.loop-next.invariant.copied in
    way_shorter xs p.before c.in-Some.seg c.loop-next.next c.next-next.result c.in-Some.is
    (step xs p.before c.in-Some.seg c.next-next.result (once_of c.args.walks.now (walk_of (length c.args.homes.now) c.args.heap) c.first-next.ensures.apart) p.on (c.next-next.ensures.value (walk_of (length c.args.homes.now) c.args.heap)))

pub loop-next-preserved : goal.loop-next-preserved
loop-next-preserved c =
    let xs = members c.args.walks.now (walk_of (length c.args.homes.now) c.args.heap) in
    let p = subst (λ (o : Option ℕ). HasCopiedLists (vec_capacity c.args.row.now) c.args.slots.now c.args.segments.now c.args.homes.now c.args.heap xs o c.args.row.now.items c.loop-next.row.items) c.in-Some.is c.loop-next.invariant.copied in
    let st = step xs p.before c.in-Some.seg c.next-next.result (once_of c.args.walks.now (walk_of (length c.args.homes.now) c.args.heap) c.first-next.ensures.apart) p.on (c.next-next.ensures.value (walk_of (length c.args.homes.now) c.args.heap)) in
    elim c.else-is_same.branch [
      | else-is_same-via-then-is_same+else-not-copy_list w ↦ record {
        capacity = ap vec_capacity w.row-is ∙ w.copy_list.ensures.capacity ∙ c.loop-next.invariant.capacity;
        copied =
            subst (λ (v : Vec Name Global). HasCopiedLists (vec_capacity c.args.row.now) c.args.slots.now c.args.segments.now c.args.homes.now c.args.heap xs c.next-next.result c.args.row.now.items v.items) (sym w.row-is)
            (list_copied (vec_capacity c.args.row.now) c.args.slots.now c.args.segments.now c.args.homes.now c.args.heap xs c.in-Some.seg c.args.row.now.items c.loop-next.row.items p c.next-next.result w.copy_list.new.row.items w.copy_list.result st
            (sym c.is_same.ensures ∙ w.if-is_same.true) w.if-not-copy_list.false
            (subst (λ room. IsCopied room c.loop-next.row.items w.copy_list.new.row.items (objects_in c.args.slots.now (members c.args.segments.now c.in-Some.seg)) w.copy_list.result) c.loop-next.invariant.capacity w.copy_list.ensures.copied));
      }
      | else-is_same-via-else-is_same w ↦ record {
        capacity = ap vec_capacity w.row-is ∙ c.loop-next.invariant.capacity;
        copied =
            subst (λ (v : Vec Name Global). HasCopiedLists (vec_capacity c.args.row.now) c.args.slots.now c.args.segments.now c.args.homes.now c.args.heap xs c.next-next.result c.args.row.now.items v.items) (sym w.row-is)
            (list_passed (vec_capacity c.args.row.now) c.args.slots.now c.args.segments.now c.args.homes.now c.args.heap xs c.in-Some.seg c.args.row.now.items c.loop-next.row.items p c.next-next.result st (sym c.is_same.ensures ∙ w.if-is_same.false));
      }
    ]

pub returns-then-not-copy_list-clause-copied : goal.returns-then-not-copy_list-clause-copied
returns-then-not-copy_list-clause-copied c =
    let xs = members c.args.walks.now (walk_of (length c.args.homes.now) c.args.heap) in
    let p = subst (λ (o : Option ℕ). HasCopiedLists (vec_capacity c.args.row.now) c.args.slots.now c.args.segments.now c.args.homes.now c.args.heap xs o c.args.row.now.items c.loop-next.row.items) c.in-Some.is c.loop-next.invariant.copied in
    let s = own_step xs p.before c.in-Some.seg (once_of c.args.walks.now (walk_of (length c.args.homes.now) c.args.heap) c.first-next.ensures.apart) p.on in
    list_stops (vec_capacity c.args.row.now) c.args.slots.now c.args.segments.now c.args.homes.now c.args.heap xs c.in-Some.seg c.args.row.now.items c.loop-next.row.items p s.0 c.copy_list.new.row.items c.copy_list.result s.1
    (sym c.is_same.ensures ∙ c.if-is_same.true) c.if-not-copy_list.true
    (subst (λ room. IsCopied room c.loop-next.row.items c.copy_list.new.row.items (objects_in c.args.slots.now (members c.args.segments.now c.in-Some.seg)) c.copy_list.result) c.loop-next.invariant.capacity c.copy_list.ensures.copied)

pub returns-clause-copied : goal.returns-clause-copied
returns-clause-copied c =
    let xs = members c.args.walks.now (walk_of (length c.args.homes.now) c.args.heap) in
    lists_end (vec_capacity c.args.row.now) c.args.slots.now c.args.segments.now c.args.homes.now c.args.heap xs c.args.row.now.items c.loop-next.row.items
    (subst (λ (o : Option ℕ). HasCopiedLists (vec_capacity c.args.row.now) c.args.slots.now c.args.segments.now c.args.homes.now c.args.heap xs o c.args.row.now.items c.loop-next.row.items) c.in_default.is c.loop-next.invariant.copied)
