use Rattle.std.proofs.Common.{◌≡◌, List, Some, None, length, option_map, slice_get, sym, ap, subst, ◌∙◌, arith}
use Rattle.k_types.specs.declared.names.Heap.{Heap}
use Rattle.k_lists.specs.Lists.{members}
use Rattle.k_entry.specs.declared.item.Item.{Item}
use Rattle.k_entry.specs.Entries.{EntryValue, AreEntries, first_object, items_of}
use Rattle.k_entry.specs.Slots.{Parts, at, walk_of}
use Rattle.k_entry.proofs.HomeWalks.{first_may, first_told, first_of_is, answer_below, object_at, segments_of}
use Rattle.k_entry.proofs.Items.{entries_of}
use Rattle.k_entry.proofs.table.EntryTable.first_of.Goals as goal

pub first_from-requires-clause-from : goal.first_from-requires-clause-from
first_from-requires-clause-from c =
    let p : Parts = record { slots = c.self.inside.slots.items; chains = c.self.inside.chains; segments = c.self.inside.segments; walks = c.self.inside.walks; homes = c.self.inside.homes.items; room = c.self.inside.room } in
    let len : c.len.result ≡ length c.self.inside.homes.items = omega (arith, c.len.ensures, c.self.inside.homes.ok.0) in
    let walk : c.walk_number.result ≡ walk_of (length c.deref.result.now) c.args.heap = c.walk_number.ensures.value ∙ ap (λ n. walk_of n c.args.heap) (len ∙ sym (ap (λ (hs : List Heap). length hs) c.deref.ensures.value)) in
    first_may (members c.self.inside.walks (walk_of (length c.deref.result.now) c.args.heap)) c.first-first.result (subst (λ w. c.first-first.result ≡ slice_get (members c.self.inside.walks w) 0) walk c.first-first.ensures.value)

pub link_at-requires : goal.link_at-requires
link_at-requires c =
    let p : Parts = record { slots = c.self.inside.slots.items; chains = c.self.inside.chains; segments = c.self.inside.segments; walks = c.self.inside.walks; homes = c.self.inside.homes.items; room = c.self.inside.room } in
    let len : c.len.result ≡ length c.self.inside.homes.items = omega (arith, c.len.ensures, c.self.inside.homes.ok.0) in
    let told = first_told p c.args.heap c.deref.result.now c.len.result c.walk_number.result c.first-first.result (Some c.in-Some.i) c.self.invariant.kept c.deref.ensures.value len c.walk_number.ensures.value c.first-first.ensures.value c.in-Some.ensures in
    omega (arith, answer_below p (segments_of p c.args.heap) c.in-Some.i c.self.invariant.kept told, ap (λ (xs : List Item). length xs) c.deref-in-Some.ensures.value)

pub returns-in-Some-clause-first : goal.returns-in-Some-clause-first
returns-in-Some-clause-first c =
    let p : Parts = record { slots = c.self.inside.slots.items; chains = c.self.inside.chains; segments = c.self.inside.segments; walks = c.self.inside.walks; homes = c.self.inside.homes.items; room = c.self.inside.room } in
    let len : c.len.result ≡ length c.self.inside.homes.items = omega (arith, c.len.ensures, c.self.inside.homes.ok.0) in
    let told = first_told p c.args.heap c.deref.result.now c.len.result c.walk_number.result c.first-first.result (Some c.in-Some.i) c.self.invariant.kept c.deref.ensures.value len c.walk_number.ensures.value c.first-first.ensures.value c.in-Some.ensures in
    ap Some (c.link_at.ensures ∙ ap (λ (xs : List Item). (at xs c.in-Some.i).target) c.deref-in-Some.ensures.value)
    ∙ ap (λ o. option_map (object_at c.self.inside.slots.items) o) told
    ∙ sym (first_of_is p c.args.heap c.self.invariant.kept) ∙ ap (λ (v : EntryValue). first_object (items_of v c.args.heap)) c.self.view_is

pub returns-in-None-clause-first : goal.returns-in-None-clause-first
returns-in-None-clause-first c =
    let p : Parts = record { slots = c.self.inside.slots.items; chains = c.self.inside.chains; segments = c.self.inside.segments; walks = c.self.inside.walks; homes = c.self.inside.homes.items; room = c.self.inside.room } in
    let len : c.len.result ≡ length c.self.inside.homes.items = omega (arith, c.len.ensures, c.self.inside.homes.ok.0) in
    let told = first_told p c.args.heap c.deref.result.now c.len.result c.walk_number.result c.first-first.result None c.self.invariant.kept c.deref.ensures.value len c.walk_number.ensures.value c.first-first.ensures.value c.in-None.ensures in
    ap (λ o. option_map (object_at c.self.inside.slots.items) o) told
    ∙ sym (first_of_is p c.args.heap c.self.invariant.kept) ∙ ap (λ (v : EntryValue). first_object (items_of v c.args.heap)) c.self.view_is

pub returns-in-Some-clause-entries : goal.returns-in-Some-clause-entries
returns-in-Some-clause-entries c =
    let p : Parts = record { slots = c.self.inside.slots.items; chains = c.self.inside.chains; segments = c.self.inside.segments; walks = c.self.inside.walks; homes = c.self.inside.homes.items; room = c.self.inside.room } in
    subst (λ (v : EntryValue). AreEntries v) c.self.view_is (entries_of p c.self.invariant.kept)

pub returns-in-None-clause-entries : goal.returns-in-None-clause-entries
returns-in-None-clause-entries c =
    let p : Parts = record { slots = c.self.inside.slots.items; chains = c.self.inside.chains; segments = c.self.inside.segments; walks = c.self.inside.walks; homes = c.self.inside.homes.items; room = c.self.inside.room } in
    subst (λ (v : EntryValue). AreEntries v) c.self.view_is (entries_of p c.self.invariant.kept)
