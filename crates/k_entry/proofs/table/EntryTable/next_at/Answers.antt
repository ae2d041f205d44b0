use Rattle.std.proofs.Common.{◌≡◌, ◌+◌, List, Some, None, IfSome, length, option_map, true, refl, sym, ap, ap₂, subst, ◌∙◌, arith}
use Rattle.k_types.specs.declared.names.Heap.{Heap}
use Rattle.k_types.specs.Names.{name_of}
use Rattle.k_types.specs.Counted.{counted}
use Rattle.k_lists.specs.Lists.{members, is_in}
use Rattle.k_entry.specs.declared.item.Item.{Item}
use Rattle.k_entry.specs.Entries.{EntryValue, AreEntries, object_after, items_of, home_of}
use Rattle.k_entry.specs.Slots.{Parts, shown, bucket, at, walk_of, homed, onward}
use Rattle.k_lists.proofs.Members.{place_of, in_at}
use Rattle.k_entry.proofs.Counts.{no_hits}
use Rattle.k_entry.proofs.Items.{entries_of, found_by, none_by, read_home}
use Rattle.k_entry.proofs.HomeWalks.{next_may, next_told, next_slot, next_segment, answer_below, object_at}
use Rattle.k_entry.proofs.table.EntryTable.next_at.Goals as goal

pub unreachable-requires : goal.unreachable-requires
unreachable-requires c =
    let p : Parts = record { slots = c.self.inside.slots.items; chains = c.self.inside.chains; segments = c.self.inside.segments; walks = c.self.inside.walks; homes = c.self.inside.homes.items; room = c.self.inside.room } in
    let none = none_by p (name_of c.args.target) c.deref.result.now (bucket c.self.inside.room (name_of c.args.target)) c.self.invariant.kept c.deref.ensures.value refl c.in_default.ensures.none in
    omega (arith, c.requires, ap (λ (v : EntryValue). counted v.items (name_of c.args.target)) c.self.view_is, no_hits (shown p).items (name_of c.args.target) none)

pub link_at-requires : goal.link_at-requires
link_at-requires c =
    let p : Parts = record { slots = c.self.inside.slots.items; chains = c.self.inside.chains; segments = c.self.inside.segments; walks = c.self.inside.walks; homes = c.self.inside.homes.items; room = c.self.inside.room } in
    let f = found_by p (name_of c.args.target) c.deref.result.now (bucket c.self.inside.room (name_of c.args.target)) c.in-Some.i c.self.invariant.kept c.deref.ensures.value refl c.in-Some.ensures.there c.in-Some.ensures.target in
    let xs = members c.self.inside.segments c.args.target.seg.0 in
    let place = place_of xs c.in-Some.i f.there in
    let there : is_in xs c.in-Some-next.j ≡ true = in_at xs (place.0 + 1) c.in-Some-next.j (sym (c.in-Some-next.ensures.value c.args.target.seg.0 place.0 place.1)) in
    omega (arith, c.self.invariant.kept.below c.args.target.seg.0 c.in-Some-next.j there, ap (λ (ys : List Item). length ys) c.deref-in-Some-next.ensures.value)

pub returns-in-Some-next-clause-next : goal.returns-in-Some-next-clause-next
returns-in-Some-next-clause-next c =
    let p : Parts = record { slots = c.self.inside.slots.items; chains = c.self.inside.chains; segments = c.self.inside.segments; walks = c.self.inside.walks; homes = c.self.inside.homes.items; room = c.self.inside.room } in
    let f = found_by p (name_of c.args.target) c.deref.result.now (bucket c.self.inside.room (name_of c.args.target)) c.in-Some.i c.self.invariant.kept c.deref.ensures.value refl c.in-Some.ensures.there c.in-Some.ensures.target in
    ap Some (c.link_at.ensures ∙ ap (λ (xs : List Item). (at xs c.in-Some-next.j).target) c.deref-in-Some-next.ensures.value)
    ∙ sym (next_slot p (name_of c.args.target) c.in-Some.i c.in-Some-next.j c.self.invariant.kept f (c.in-Some-next.ensures.value c.args.target.seg.0))
    ∙ ap (λ (v : EntryValue). object_after (items_of v (home_of v.homes c.args.target.seg.0)) (name_of c.args.target)) c.self.view_is

pub first_from-requires-clause-from : goal.first_from-requires-clause-from
first_from-requires-clause-from c =
    let p : Parts = record { slots = c.self.inside.slots.items; chains = c.self.inside.chains; segments = c.self.inside.segments; walks = c.self.inside.walks; homes = c.self.inside.homes.items; room = c.self.inside.room } in
    let f = found_by p (name_of c.args.target) c.deref.result.now (bucket c.self.inside.room (name_of c.args.target)) c.in-Some.i c.self.invariant.kept c.deref.ensures.value refl c.in-Some.ensures.there c.in-Some.ensures.target in
    let home : c.index-heap.result.now ≡ home_of c.self.inside.homes.items c.args.target.seg.0 = read_home c.self.inside.homes.items c.args.target.seg.0 c.index-heap.result.now f.homed c.index-heap.ensures in
    let walk = walk_of (length c.self.inside.homes.items) (home_of c.self.inside.homes.items c.args.target.seg.0) in
    let is : walk ≡ walk_of (length c.deref-2.result.now) c.index-heap.result.now = sym (ap₂ (λ (hs : List Heap) (g : Heap). walk_of (length hs) g) c.deref-2.ensures.value home) in
    subst (λ w. IfSome c.next-next.result (λ s. is_in (members c.self.inside.walks w) s ≡ true)) is
    (next_may (members c.self.inside.walks walk) c.args.target.seg.0 c.next-next.result (c.self.invariant.kept.walked c.args.target.seg.0 c.in-Some.i f.homed f.there) (c.next-next.ensures.value walk))

pub link_at-requires-in-Some-first_from : goal.link_at-requires-in-Some-first_from
link_at-requires-in-Some-first_from c =
    let p : Parts = record { slots = c.self.inside.slots.items; chains = c.self.inside.chains; segments = c.self.inside.segments; walks = c.self.inside.walks; homes = c.self.inside.homes.items; room = c.self.inside.room } in
    let f = found_by p (name_of c.args.target) c.deref.result.now (bucket c.self.inside.room (name_of c.args.target)) c.in-Some.i c.self.invariant.kept c.deref.ensures.value refl c.in-Some.ensures.there c.in-Some.ensures.target in
    let home : c.index-heap.result.now ≡ home_of c.self.inside.homes.items c.args.target.seg.0 = read_home c.self.inside.homes.items c.args.target.seg.0 c.index-heap.result.now f.homed c.index-heap.ensures in
    let told = next_told p c.index-heap.result.now (home_of c.self.inside.homes.items c.args.target.seg.0) c.deref-2.result.now c.next-next.result (Some c.in-Some-first_from.j) c.deref-2.ensures.value home c.in-Some-first_from.ensures in
    omega (arith, answer_below p (homed c.self.inside.homes.items (home_of c.self.inside.homes.items c.args.target.seg.0) (onward (members c.self.inside.walks (walk_of (length c.self.inside.homes.items) (home_of c.self.inside.homes.items c.args.target.seg.0))) c.next-next.result)) c.in-Some-first_from.j c.self.invariant.kept told, ap (λ (xs : List Item). length xs) c.deref-in-Some-first_from.ensures.value)

pub returns-in-Some-first_from-clause-next : goal.returns-in-Some-first_from-clause-next
returns-in-Some-first_from-clause-next c =
    let p : Parts = record { slots = c.self.inside.slots.items; chains = c.self.inside.chains; segments = c.self.inside.segments; walks = c.self.inside.walks; homes = c.self.inside.homes.items; room = c.self.inside.room } in
    let f = found_by p (name_of c.args.target) c.deref.result.now (bucket c.self.inside.room (name_of c.args.target)) c.in-Some.i c.self.invariant.kept c.deref.ensures.value refl c.in-Some.ensures.there c.in-Some.ensures.target in
    let home : c.index-heap.result.now ≡ home_of c.self.inside.homes.items c.args.target.seg.0 = read_home c.self.inside.homes.items c.args.target.seg.0 c.index-heap.result.now f.homed c.index-heap.ensures in
    let walk = walk_of (length c.self.inside.homes.items) (home_of c.self.inside.homes.items c.args.target.seg.0) in
    let told = next_told p c.index-heap.result.now (home_of c.self.inside.homes.items c.args.target.seg.0) c.deref-2.result.now c.next-next.result (Some c.in-Some-first_from.j) c.deref-2.ensures.value home c.in-Some-first_from.ensures in
    ap Some (c.link_at-in-Some-first_from.ensures ∙ ap (λ (xs : List Item). (at xs c.in-Some-first_from.j).target) c.deref-in-Some-first_from.ensures.value)
    ∙ ap (λ o. option_map (object_at c.self.inside.slots.items) o) told
    ∙ sym (next_segment p (name_of c.args.target) c.in-Some.i c.next-next.result c.self.invariant.kept f (c.in_default-next.ensures.value c.args.target.seg.0) (c.next-next.ensures.value walk))
    ∙ ap (λ (v : EntryValue). object_after (items_of v (home_of v.homes c.args.target.seg.0)) (name_of c.args.target)) c.self.view_is

pub returns-in-None-clause-next : goal.returns-in-None-clause-next
returns-in-None-clause-next c =
    let p : Parts = record { slots = c.self.inside.slots.items; chains = c.self.inside.chains; segments = c.self.inside.segments; walks = c.self.inside.walks; homes = c.self.inside.homes.items; room = c.self.inside.room } in
    let f = found_by p (name_of c.args.target) c.deref.result.now (bucket c.self.inside.room (name_of c.args.target)) c.in-Some.i c.self.invariant.kept c.deref.ensures.value refl c.in-Some.ensures.there c.in-Some.ensures.target in
    let home : c.index-heap.result.now ≡ home_of c.self.inside.homes.items c.args.target.seg.0 = read_home c.self.inside.homes.items c.args.target.seg.0 c.index-heap.result.now f.homed c.index-heap.ensures in
    let walk = walk_of (length c.self.inside.homes.items) (home_of c.self.inside.homes.items c.args.target.seg.0) in
    let told = next_told p c.index-heap.result.now (home_of c.self.inside.homes.items c.args.target.seg.0) c.deref-2.result.now c.next-next.result None c.deref-2.ensures.value home c.in-None.ensures in
    ap (λ o. option_map (object_at c.self.inside.slots.items) o) told
    ∙ sym (next_segment p (name_of c.args.target) c.in-Some.i c.next-next.result c.self.invariant.kept f (c.in_default-next.ensures.value c.args.target.seg.0) (c.next-next.ensures.value walk))
    ∙ ap (λ (v : EntryValue). object_after (items_of v (home_of v.homes c.args.target.seg.0)) (name_of c.args.target)) c.self.view_is

pub returns-in-Some-next-clause-entries : goal.returns-in-Some-next-clause-entries
returns-in-Some-next-clause-entries c =
    let p : Parts = record { slots = c.self.inside.slots.items; chains = c.self.inside.chains; segments = c.self.inside.segments; walks = c.self.inside.walks; homes = c.self.inside.homes.items; room = c.self.inside.room } in
    subst (λ (v : EntryValue). AreEntries v) c.self.view_is (entries_of p c.self.invariant.kept)

pub returns-in-Some-first_from-clause-entries : goal.returns-in-Some-first_from-clause-entries
returns-in-Some-first_from-clause-entries c =
    let p : Parts = record { slots = c.self.inside.slots.items; chains = c.self.inside.chains; segments = c.self.inside.segments; walks = c.self.inside.walks; homes = c.self.inside.homes.items; room = c.self.inside.room } in
    subst (λ (v : EntryValue). AreEntries v) c.self.view_is (entries_of p c.self.invariant.kept)

pub returns-in-None-clause-entries : goal.returns-in-None-clause-entries
returns-in-None-clause-entries c =
    let p : Parts = record { slots = c.self.inside.slots.items; chains = c.self.inside.chains; segments = c.self.inside.segments; walks = c.self.inside.walks; homes = c.self.inside.homes.items; room = c.self.inside.room } in
    subst (λ (v : EntryValue). AreEntries v) c.self.view_is (entries_of p c.self.invariant.kept)
