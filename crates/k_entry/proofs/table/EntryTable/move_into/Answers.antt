use Rattle.std.proofs.Common.{◌≡◌, ◌≤◌, ℕ, List, length, sym, ap, subst, ◌∙◌, arith}
use Rattle.k_lists.specs.Lists.{ListsValue}
use Rattle.k_entry.specs.declared.item.Item.{Item}
use Rattle.k_entry.specs.Entries.{EntryValue}
use Rattle.k_entry.specs.Slots.{AreChained, Parts, used}
use Rattle.k_entry.proofs.Grown.{kept_roomier, known_roomier, roomier}
use Rattle.k_entry.proofs.table.EntryTable.move_into.Goals as goal

pub invariant_of-self : goal.invariant_of-self
invariant_of-self c =
    let p : Parts = record { slots = c.self.inside.slots.items; chains = c.self.inside.chains; segments = c.self.inside.segments; walks = c.self.inside.walks; homes = c.self.inside.homes.items; room = c.self.inside.room } in
    let slots = c.copy_slots.new.into.items in
    let room = c.room.inside.room in
    let same : slots ≡ p.slots = c.copy_slots.ensures.items ∙ c.deref.ensures.value in
    let segments : c.move_into.new.self ≡ record p.segments { room = room } = c.move_into.ensures.moved ∙ ap (λ (n : ℕ). record p.segments { room = n }) c.room.invariant.segments in
    let chained : AreChained slots room (length slots) c.chain_all.new.chains = subst (λ (xs : List Item). AreChained xs room (length xs) c.chain_all.new.chains) c.deref-2.ensures.value c.chain_all.ensures in
    let before : p.room ≡ c.args.self.now.room = ap (λ (v : EntryValue). v.room) c.self.view_is in
    let more : p.room ≤ room = omega (arith, c.requires, before, c.room.view_is) in
    record {
      reserved = c.copy_slots.ensures.capacity ∙ c.room.invariant.reserved;
      homes_reserved = c.self.invariant.homes_reserved;
      kept = kept_roomier p slots c.chain_all.new.chains c.move_into.new.self room c.self.invariant.kept c.self.invariant.known more same segments c.move_into.ensures.apart chained;
      known = known_roomier p slots c.chain_all.new.chains c.move_into.new.self room chained;
      counted = c.self.invariant.counted ∙ ap (λ (v : ListsValue). length (used (roomier p p.slots p.chains v p.room))) (sym segments);
    }
