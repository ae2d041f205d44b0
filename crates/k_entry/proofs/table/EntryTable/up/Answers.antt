use Rattle.std.proofs.Common.{◌≡◌, ◌+◌, ◌^◌, ◌<◌, ℕ, List, length, set, sym, ap, ap₂, subst, ◌∙◌, arith}
use Rattle.k_types.specs.declared.names.Name.{Name}
use Rattle.k_types.specs.declared.names.Heap.{Heap}
use Rattle.k_types.specs.Names.{name_of}
use Rattle.std.proofs.lemmas.List.{length-map}
use Rattle.k_types.specs.Totals.{total}
use Rattle.k_lists.specs.Lists.{ListsValue, members}
use Rattle.k_types.specs.Counted.{counted}
use Rattle.k_entry.specs.declared.item.Item.{Item}
use Rattle.k_entry.specs.Entries.{AreEntries, EntryValue, HasMore}
use Rattle.k_entry.specs.Slots.{Parts, shown, used, row_at, AreKept, GivesSlot}
use Rattle.k_entry.proofs.Counts.{hits, no_hits}
use Rattle.k_entry.proofs.Items.{entries_of, found_by, none_by, read_at, walk_read}
use Rattle.k_entry.proofs.Recounts.{recount_by, kept_recount, more_recount}
use Rattle.k_entry.proofs.More.{one_more, more_by, kept_more, has_more, slots_fit, moved, fresh}
use Rattle.k_entry.proofs.Known.{known_recount, known_more}
use Rattle.k_entry.proofs.table.EntryTable.up.Goals as goal

pub overflow_add-item : goal.overflow_add-item
overflow_add-item c =
    let p : Parts = record { slots = c.self.inside.slots.items; chains = c.self.inside.chains; segments = c.self.inside.segments; walks = c.self.inside.walks; homes = c.self.inside.homes.items; room = c.self.inside.room } in
    let f = found_by p c.name-name.result c.deref.result.now c.chain_of-chain.result c.in-Some.i c.self.invariant.kept c.deref.ensures.value c.chain_of-chain.ensures.value c.in-Some.ensures.there c.in-Some.ensures.target in
    let count = ap (λ (x : Item). x.count) (read_at c.self.inside.slots.items c.in-Some.i c.index-item.result.now f.within c.index-item.ensures) in
    let asked : counted (shown p).items c.name-name.result ≡ counted c.args.self.now.items (name_of c.args.target) = ap₂ (λ (v : EntryValue) n. counted v.items n) c.self.view_is c.name-name.ensures in
    omega (arith, count, f.count, asked, c.requires.small)

pub invariant_of-self : goal.invariant_of-self
invariant_of-self c =
    let p : Parts = record { slots = c.self.inside.slots.items; chains = c.self.inside.chains; segments = c.self.inside.segments; walks = c.self.inside.walks; homes = c.self.inside.homes.items; room = c.self.inside.room } in
    let f = found_by p c.name-name.result c.deref.result.now c.chain_of-chain.result c.in-Some.i c.self.invariant.kept c.deref.ensures.value c.chain_of-chain.ensures.value c.in-Some.ensures.there c.in-Some.ensures.target in
    let r = recount_by c.self.inside.slots.items c.in-Some.i (c.index-item.result.now.count + 1) c.index-item.result.now c.with_count.result f.within c.index-item.ensures c.with_count.ensures in
    record {
      reserved = c.self.invariant.reserved;
      homes_reserved = c.self.invariant.homes_reserved;
      counted = c.self.invariant.counted;
      known = known_recount p c.name-name.result (set c.self.inside.slots.items c.in-Some.i c.with_count.result) c.in-Some.i (c.index-item.result.now.count + 1) c.self.invariant.kept c.self.invariant.known f r;
      kept = kept_recount p (set c.self.inside.slots.items c.in-Some.i c.with_count.result) c.in-Some.i (c.index-item.result.now.count + 1) c.self.invariant.kept r (omega arith);
    }

pub returns-in-Some : goal.returns-in-Some
returns-in-Some c =
    let p : Parts = record { slots = c.self.inside.slots.items; chains = c.self.inside.chains; segments = c.self.inside.segments; walks = c.self.inside.walks; homes = c.self.inside.homes.items; room = c.self.inside.room } in
    let f = found_by p c.name-name.result c.deref.result.now c.chain_of-chain.result c.in-Some.i c.self.invariant.kept c.deref.ensures.value c.chain_of-chain.ensures.value c.in-Some.ensures.there c.in-Some.ensures.target in
    let r = recount_by c.self.inside.slots.items c.in-Some.i (c.index-item.result.now.count + 1) c.index-item.result.now c.with_count.result f.within c.index-item.ensures c.with_count.ensures in
    let count = ap (λ (x : Item). x.count + 1) (read_at c.self.inside.slots.items c.in-Some.i c.index-item.result.now f.within c.index-item.ensures) in
    let new : Parts = record p { slots = set c.self.inside.slots.items c.in-Some.i c.with_count.result } in
    subst (λ (v : EntryValue). HasMore v (shown new) (name_of c.args.target)) c.self.view_is
    (subst (λ (t : Name). HasMore (shown p) (shown new) t) c.name-name.ensures
    (more_recount p c.name-name.result (set c.self.inside.slots.items c.in-Some.i c.with_count.result) c.in-Some.i (c.index-item.result.now.count + 1) c.self.invariant.kept f r count))

-- the items are such as a table has
entries_shown : (p : Parts) (v : EntryValue) → shown p ≡ v → AreKept p → AreEntries v
entries_shown p v is kept = subst AreEntries is (entries_of p kept)

-- a new object has room, and its segment a home
room_left : (p : Parts) (v : EntryValue) (t u : Name) → shown p ≡ v → t ≡ u → total (hits t) (shown p).items ≡ 0 → (counted v.items u ≡ 0 → length v.items < v.room) → length (shown p).items < p.room
room_left p v t u is same none asks =
    let none_of : counted v.items u ≡ 0 = ap₂ (λ (w : EntryValue) n. counted w.items n) (sym is) (sym same) ∙ no_hits (shown p).items t none in
    omega (arith, asks none_of, ap (λ (w : EntryValue). length w.items) is, ap (λ (w : EntryValue). w.room) is)

home_in : (v : EntryValue) (homes : List Heap) (t u : Name) → homes ≡ v.homes → t ≡ u → u.seg.0 < length v.homes → t.seg.0 < length homes
home_in v homes t u is same within = omega (arith, within, ap (λ (n : Name). n.seg.0) same, ap (λ (hs : List Heap). length hs) is)

-- the slot is below the room
slot_in : (p : Parts) (v : ListsValue) (slots : List Item) (item : Item) (free i : ℕ) → AreKept p → GivesSlot p.slots slots p.segments v free i item → free ≡ length p.homes → length (shown p).items < p.room → i < p.room
slot_in p v slots item free i k g is room = omega (arith, g.within, slots_fit p v slots item i k (subst (λ n. GivesSlot p.slots slots p.segments v n i item) is g) room)

pub take_slot-i-requires-clause-room : goal.take_slot-i-requires-clause-room
take_slot-i-requires-clause-room c = λ empty.
    let p : Parts = record { slots = c.self.inside.slots.items; chains = c.self.inside.chains; segments = c.self.inside.segments; walks = c.self.inside.walks; homes = c.self.inside.homes.items; room = c.self.inside.room } in
    let none = none_by p c.name-name.result c.deref.result.now c.chain_of-chain.result c.self.invariant.kept c.deref.ensures.value c.chain_of-chain.ensures.value c.in-None.ensures.none in
    let room = room_left p c.args.self.now c.name-name.result (name_of c.args.target) c.self.view_is c.name-name.ensures none (c.requires.room (entries_shown p c.args.self.now c.self.view_is c.self.invariant.kept)) in
    let free : c.len-in-None.result ≡ length c.self.inside.homes.items = omega (arith, c.len-in-None.ensures, c.self.inside.homes.ok.0) in
    omega (arith, room, c.self.invariant.kept.full, length-map (used p) (row_at p.slots), empty, ap (λ n. length (members c.self.inside.segments n)) free, c.self.invariant.kept.sizes.segments_room)

pub push_front-requires-clause-room : goal.push_front-requires-clause-room
push_front-requires-clause-room c =
    let p : Parts = record { slots = c.self.inside.slots.items; chains = c.self.inside.chains; segments = c.self.inside.segments; walks = c.self.inside.walks; homes = c.self.inside.homes.items; room = c.self.inside.room } in
    let none = none_by p c.name-name.result c.deref.result.now c.chain_of-chain.result c.self.invariant.kept c.deref.ensures.value c.chain_of-chain.ensures.value c.in-None.ensures.none in
    let room = room_left p c.args.self.now c.name-name.result (name_of c.args.target) c.self.view_is c.name-name.ensures none (c.requires.room (entries_shown p c.args.self.now c.self.view_is c.self.invariant.kept)) in
    let free : c.len-in-None.result ≡ length c.self.inside.homes.items = omega (arith, c.len-in-None.ensures, c.self.inside.homes.ok.0) in
    omega (arith, c.self.invariant.kept.sizes.chains_room, slot_in p c.take_slot-i.new.segments c.take_slot-i.new.slots.items (fresh c.name-name.result) c.len-in-None.result c.take_slot-i.result c.self.invariant.kept c.take_slot-i.ensures.given free room)

pub put_in-requires-clause-room : goal.put_in-requires-clause-room
put_in-requires-clause-room c =
    let p : Parts = record { slots = c.self.inside.slots.items; chains = c.self.inside.chains; segments = c.self.inside.segments; walks = c.self.inside.walks; homes = c.self.inside.homes.items; room = c.self.inside.room } in
    let none = none_by p c.name-name.result c.deref.result.now c.chain_of-chain.result c.self.invariant.kept c.deref.ensures.value c.chain_of-chain.ensures.value c.in-None.ensures.none in
    let room = room_left p c.args.self.now c.name-name.result (name_of c.args.target) c.self.view_is c.name-name.ensures none (c.requires.room (entries_shown p c.args.self.now c.self.view_is c.self.invariant.kept)) in
    let free : c.len-in-None.result ≡ length c.self.inside.homes.items = omega (arith, c.len-in-None.ensures, c.self.inside.homes.ok.0) in
    omega (arith, c.take_slot-i.ensures.given.room, c.self.invariant.kept.sizes.segments_room, slot_in p c.take_slot-i.new.segments c.take_slot-i.new.slots.items (fresh c.name-name.result) c.len-in-None.result c.take_slot-i.result c.self.invariant.kept c.take_slot-i.ensures.given free room)

-- the items are fewer than the room, so one more can be counted
pub overflow_add-self : goal.overflow_add-self
overflow_add-self c =
    let p : Parts = record { slots = c.self.inside.slots.items; chains = c.self.inside.chains; segments = c.self.inside.segments; walks = c.self.inside.walks; homes = c.self.inside.homes.items; room = c.self.inside.room } in
    let none = none_by p c.name-name.result c.deref.result.now c.chain_of-chain.result c.self.invariant.kept c.deref.ensures.value c.chain_of-chain.ensures.value c.in-None.ensures.none in
    let room = room_left p c.args.self.now c.name-name.result (name_of c.args.target) c.self.view_is c.name-name.ensures none (c.requires.room (entries_shown p c.args.self.now c.self.view_is c.self.invariant.kept)) in
    let few : c.self.inside.room < 2 ^ 32 = omega (arith, c.self.ranges) in
    omega (arith, c.self.invariant.counted, room, length-map (used p) (row_at p.slots), few)

pub invariant_of-self-in-None : goal.invariant_of-self-in-None
invariant_of-self-in-None c =
    let p : Parts = record { slots = c.self.inside.slots.items; chains = c.self.inside.chains; segments = c.self.inside.segments; walks = c.self.inside.walks; homes = c.self.inside.homes.items; room = c.self.inside.room } in
    let none = none_by p c.name-name.result c.deref.result.now c.chain_of-chain.result c.self.invariant.kept c.deref.ensures.value c.chain_of-chain.ensures.value c.in-None.ensures.none in
    let room = room_left p c.args.self.now c.name-name.result (name_of c.args.target) c.self.view_is c.name-name.ensures none (c.requires.room (entries_shown p c.args.self.now c.self.view_is c.self.invariant.kept)) in
    let free : c.len-in-None.result ≡ length c.self.inside.homes.items = omega (arith, c.len-in-None.ensures, c.self.inside.homes.ok.0) in
    let homed = home_in c.args.self.now c.self.inside.homes.items c.name-name.result (name_of c.args.target) (ap (λ (v : EntryValue). v.homes) c.self.view_is) c.name-name.ensures c.requires.home in
    let len : c.len.result ≡ length c.self.inside.homes.items = omega (arith, c.len.ensures, c.self.inside.homes.ok.0) in
    let walk = walk_read c.self.inside.homes.items c.name-name.result.seg.0 c.len.result c.walk_number-walk.result c.index.result.now homed c.index.ensures len c.walk_number-walk.ensures.value in
    let m = more_by p c.take_slot-i.new.segments c.name-name.result c.take_slot-i.result c.len-in-None.result c.chain_of-chain.result c.walk_number-walk.result c.take_slot-i.new.slots.items c.push_front.new.self c.put_in.new.segments c.put_in.new.walks
    c.self.invariant.kept homed room none free c.chain_of-chain.ensures.value c.chain_of-chain.ensures.within walk (omega (arith, c.walk_number-walk.ensures.within, len)) c.take_slot-i.ensures.given
    c.push_front.ensures.pushed c.put_in.ensures.segments c.put_in.ensures.walks c.put_in.ensures.segments_apart c.put_in.ensures.walks_apart in
    record {
      reserved = omega (arith, c.take_slot-i.ensures.capacity, c.self.invariant.reserved);
      homes_reserved = c.self.invariant.homes_reserved;
      counted = ap (λ n. n + 1) c.self.invariant.counted ∙ sym (one_more p c.take_slot-i.new.segments c.name-name.result c.take_slot-i.result c.take_slot-i.new.slots.items c.push_front.new.self c.put_in.new.segments c.put_in.new.walks c.self.invariant.kept m);
      known = known_more p c.take_slot-i.new.segments c.name-name.result c.take_slot-i.result c.take_slot-i.new.slots.items c.push_front.new.self c.put_in.new.segments c.put_in.new.walks c.self.invariant.known m;
      kept = kept_more p c.take_slot-i.new.segments c.name-name.result c.take_slot-i.result c.take_slot-i.new.slots.items c.push_front.new.self c.put_in.new.segments c.put_in.new.walks c.self.invariant.kept m;
    }

pub returns-in-None : goal.returns-in-None
returns-in-None c =
    let p : Parts = record { slots = c.self.inside.slots.items; chains = c.self.inside.chains; segments = c.self.inside.segments; walks = c.self.inside.walks; homes = c.self.inside.homes.items; room = c.self.inside.room } in
    let none = none_by p c.name-name.result c.deref.result.now c.chain_of-chain.result c.self.invariant.kept c.deref.ensures.value c.chain_of-chain.ensures.value c.in-None.ensures.none in
    let room = room_left p c.args.self.now c.name-name.result (name_of c.args.target) c.self.view_is c.name-name.ensures none (c.requires.room (entries_shown p c.args.self.now c.self.view_is c.self.invariant.kept)) in
    let free : c.len-in-None.result ≡ length c.self.inside.homes.items = omega (arith, c.len-in-None.ensures, c.self.inside.homes.ok.0) in
    let homed = home_in c.args.self.now c.self.inside.homes.items c.name-name.result (name_of c.args.target) (ap (λ (v : EntryValue). v.homes) c.self.view_is) c.name-name.ensures c.requires.home in
    let len : c.len.result ≡ length c.self.inside.homes.items = omega (arith, c.len.ensures, c.self.inside.homes.ok.0) in
    let walk = walk_read c.self.inside.homes.items c.name-name.result.seg.0 c.len.result c.walk_number-walk.result c.index.result.now homed c.index.ensures len c.walk_number-walk.ensures.value in
    let m = more_by p c.take_slot-i.new.segments c.name-name.result c.take_slot-i.result c.len-in-None.result c.chain_of-chain.result c.walk_number-walk.result c.take_slot-i.new.slots.items c.push_front.new.self c.put_in.new.segments c.put_in.new.walks
    c.self.invariant.kept homed room none free c.chain_of-chain.ensures.value c.chain_of-chain.ensures.within walk (omega (arith, c.walk_number-walk.ensures.within, len)) c.take_slot-i.ensures.given
    c.push_front.ensures.pushed c.put_in.ensures.segments c.put_in.ensures.walks c.put_in.ensures.segments_apart c.put_in.ensures.walks_apart in
    let new : Parts = moved p c.take_slot-i.new.slots.items c.push_front.new.self c.put_in.new.segments c.put_in.new.walks in
    subst (λ (v : EntryValue). HasMore v (shown new) (name_of c.args.target)) c.self.view_is
    (subst (λ (t : Name). HasMore (shown p) (shown new) t) c.name-name.ensures
    (has_more p c.take_slot-i.new.segments c.name-name.result c.take_slot-i.result c.take_slot-i.new.slots.items c.push_front.new.self c.put_in.new.segments c.put_in.new.walks c.self.invariant.kept m))
