-- Larger rooms: how they are tested, and what they leave of the parts.
use Rattle.std.proofs.Common.{◌≡◌, ◌↔◌, ℕ, ◌+◌, ◌*◌, ◌-◌, ◌<◌, ◌≤◌, ◌^◌, refl, sym, ap, ap₂, ◌∙◌, subst, List, map, get_or, None, length, vec_capacity, arith}
use Rattle.k_book.specs.Books.{BookRecord}
use Rattle.k_cell.specs.Holdings.{HoldingsValue, living_in}
use Rattle.k_shared.specs.SharedHeaps.{SharedRecord}
use Rattle.k_guests.specs.declared.growing.GuestRoom.{GuestRoom}
use Rattle.k_guests.specs.declared.guest.Guest.{Guest}
use Rattle.k_guests.specs.declared.rooms.Rooms.{Rooms}
use Rattle.k_guests.specs.declared.terms.Terms.{Terms}
use Rattle.k_guests.specs.Growing.{CanGrow, CanMove, CanMoveGuest, CanMoveIn, CanNarrowGuest, CanNarrowHeap, CanNarrowObjects, HaveFit, HaveGrown, HaveGrownObjects, HaveMoved, HaveObjects, HaveStayed, IsGuestRoom, OfEach, guest_with_objects, guest_with_rooms, guest_with_tables, heap_with_objects, heap_with_rooms, heap_with_tables}
use Rattle.k_guests.proofs.Changed.{all_changed, mapped_twice, twice_back}
use Rattle.k_guests.proofs.SegmentRooms.{can_narrow_guest, can_narrow_heap, guest_back, heap_back, has_room, kernel_back}

-- so many more for all are as many more as there are more of each
pub as_many_more : (more less each all old : ℕ) → less ≤ more → old ≤ all → ((more - less) * each ≤ all - old) ↔ (more * each + old ≤ all + less * each)
as_many_more more less each all old no_less no_fewer =
    let split : more * each ≡ (more - less) * each + less * each = ap (λ n. n * each) (omega (arith, no_less)) ∙ distributes (more - less) less each in
    ((λ few. omega (arith, split, few, no_fewer)), (λ few. omega (arith, split, few, no_fewer)))
  where
    distributes : (a b c : ℕ) → (a + b) * c ≡ a * c + b * c
    distributes a b c = omega arith

-- memory for a process that can have these rooms is enough for it
pub can_move_in : (rooms : Rooms) (g : Guest) (room : GuestRoom) → IsGuestRoom rooms room → rooms.tail < 2 ^ 32 → CanMoveIn rooms g → CanMoveGuest g room
can_move_in rooms g room is few can = record {
  exits = subst (λ n. g.cell.exit_room ≤ n) (sym is.exits) can.exits;
  empty = is.empty;
  tail = subst (λ n. length g.cell.value.tail ≤ n) (sym is.tail) can.tail;
  small = subst (λ n. n < 2 ^ 32) (sym is.tail) few;
}

-- the process has these rooms once it has that memory
pub moved_in : (rooms : Rooms) (g : Guest) (room : GuestRoom) → IsGuestRoom rooms room → guest_with_tables room.exits (vec_capacity room.tail) g ≡ guest_with_tables rooms.exits rooms.tail g
moved_in rooms g room is = ap₂ (λ exits tail. guest_with_tables exits tail g) is.exits is.tail

-- the parts of a host that can have larger rooms
module _ (terms : Terms) (rooms : Rooms) (gs : List Guest) (k : HoldingsValue) (ss : List SharedRecord) (b : BookRecord) (can : CanGrow terms rooms gs k ss b) where
  pub have_objects : HaveObjects terms.rooms.objects gs k ss
  have_objects = record {
    guests_have = λ i g at. (can.all.each i g at).serials;
    kernel_has = can.rest.kernel.serials;
    shared_have = λ i s at. (can.rest.heaps.each i s at).serials;
  }

  guest_moves : OfEach (λ g. CanMoveIn rooms (guest_with_objects rooms.objects g)) gs
  guest_moves i g at =
      let few = can.few i g at in
      record {
        exits = subst (λ n. n ≤ rooms.exits) (sym (can.all.each i g at).exits) can.larger.no_less.exits;
        tail = let more = can.larger.no_less.tail in omega (arith, few, more);
      }

  heap_moves : OfEach (λ s. (heap_with_objects rooms.objects s).exit_room ≤ rooms.exits) ss
  heap_moves i s at = subst (λ n. n ≤ rooms.exits) (sym (can.rest.heaps.each i s at).exits) can.larger.no_less.exits

  -- once the segments have room for more objects
  module _ (hs : List Guest) (l : HoldingsValue) (ts : List SharedRecord) (grown : HaveGrownObjects rooms.objects gs hs k l ss ts) where
    pub can_move : (kept : ℕ) (c : BookRecord) → c ≡ record b { kept = kept } → CanMove rooms hs l ts c
    can_move kept c is = record {
      few = can.larger.few;
      guests_can = subst (OfEach (CanMoveIn rooms)) (sym grown.guests_are) (all_changed (guest_with_objects rooms.objects) (CanMoveIn rooms) gs guest_moves);
      kernel_can = subst (λ (x : HoldingsValue). x.exit_room ≤ rooms.kernel_exits) (sym grown.kernel_is) (subst (λ n. n ≤ rooms.kernel_exits) (sym can.rest.kernel.exits) can.larger.no_less.kernel_exits);
      shared_can = subst (OfEach (λ s. s.exit_room ≤ rooms.exits)) (sym grown.shared_are) (all_changed (heap_with_objects rooms.objects) (λ s. s.exit_room ≤ rooms.exits) ss heap_moves);
      entries = subst (λ (x : BookRecord). x.entry_room ≤ rooms.entries) (sym is) (subst (λ n. n ≤ rooms.entries) (sym can.rest.book.entries) can.larger.no_less.entries);
      events = subst (λ (x : BookRecord). x.event_room ≤ rooms.events) (sym is) (subst (λ n. n ≤ rooms.events) (sym can.rest.book.events) can.larger.no_less.events);
    }

    pub can_narrow : HaveFit terms.rooms.objects gs k ss → CanNarrowObjects terms.rooms.objects hs l ts
    can_narrow fit = record {
      guests_can = subst (OfEach (CanNarrowGuest terms.rooms.objects)) (sym grown.guests_are)
          (all_changed (guest_with_objects rooms.objects) (CanNarrowGuest terms.rooms.objects) gs
          (λ i g at. can_narrow_guest terms.rooms.objects rooms.objects can.larger.no_less.objects g (have_objects.guests_have i g at) (fit.guests_fit i g at)));
      kernel_can = record {
        now = rooms.objects;
        there = ap (λ (x : HoldingsValue). get_or x.serial_rooms 0 None) grown.kernel_is ∙ has_room k.serial_rooms 0 terms.rooms.objects have_objects.kernel_has rooms.objects;
        less = can.larger.no_less.objects;
        enough = subst (λ (x : HoldingsValue). living_in 0 x.value.objects ≤ terms.rooms.objects) (sym grown.kernel_is) fit.kernel_fits;
      };
      shared_can = subst (OfEach (CanNarrowHeap terms.rooms.objects)) (sym grown.shared_are)
          (all_changed (heap_with_objects rooms.objects) (CanNarrowHeap terms.rooms.objects) ss
          (λ i s at. can_narrow_heap terms.rooms.objects rooms.objects can.larger.no_less.objects s (have_objects.shared_have i s at) (fit.shared_fit i s at)));
    }

    -- and then all tables have moved
    pub have_grown : (kept : ℕ) (is : List Guest) (m : HoldingsValue) (us : List SharedRecord) (c d : BookRecord) → c ≡ record b { kept = kept } → HaveMoved rooms hs is l m ts us c d →
        HaveGrown rooms kept gs is k m ss us b d
    have_grown kept is m us c d kept_is moved = record {
      guests_are = moved.guests_are ∙ ap (map (guest_with_tables rooms.exits rooms.tail)) grown.guests_are
          ∙ mapped_twice (guest_with_objects rooms.objects) (guest_with_tables rooms.exits rooms.tail) (guest_with_rooms rooms) gs (λ g. refl);
      kernel_is = moved.kernel_is ∙ ap (λ (x : HoldingsValue). record x { exit_room = rooms.kernel_exits }) grown.kernel_is;
      shared_are = moved.shared_are ∙ ap (map (heap_with_tables rooms.exits)) grown.shared_are
          ∙ mapped_twice (heap_with_objects rooms.objects) (heap_with_tables rooms.exits) (heap_with_rooms rooms) ss (λ s. refl);
      book_is = moved.book_is ∙ ap (λ (x : BookRecord). record x { entry_room = rooms.entries; event_room = rooms.events }) kept_is;
    }

    -- or the segments have as much room as before
    pub have_stayed : (is : List Guest) (m : HoldingsValue) (us : List SharedRecord) (c : BookRecord) → HaveGrownObjects terms.rooms.objects hs is l m ts us → c ≡ b → HaveStayed gs is k m ss us b c
    have_stayed is m us c back same = record {
      guests_are = back.guests_are ∙ ap (map (guest_with_objects terms.rooms.objects)) grown.guests_are
          ∙ twice_back (guest_with_objects rooms.objects) (guest_with_objects terms.rooms.objects) gs
          (λ i g at. guest_back terms.rooms.objects rooms.objects can.larger.no_less.objects g (have_objects.guests_have i g at));
      kernel_is = kernel_back terms.rooms.objects rooms.objects k have_objects.kernel_has l m grown.kernel_is back.kernel_is;
      shared_are = back.shared_are ∙ ap (map (heap_with_objects terms.rooms.objects)) grown.shared_are
          ∙ twice_back (heap_with_objects rooms.objects) (heap_with_objects terms.rooms.objects) ss
          (λ i s at. heap_back terms.rooms.objects rooms.objects can.larger.no_less.objects s (have_objects.shared_have i s at));
      book_is = same;
    }
