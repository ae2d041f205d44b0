-- The room of a segment for objects: it is made larger, and smaller again.
use Rattle.std.proofs.Common.{◌≡◌, ℕ, ◌<◌, ◌≤◌, Bool, true, false, refl, sym, ap, ◌∙◌, List, length, set, Option, Some, None, IsFalse, inl, inr}
use Rattle.std.proofs.lemmas.Bool.{cases_lt, false≢true}
use Rattle.std.proofs.lemmas.List.{get_or-set_same, get_or_past, set-get_or, set-set}
use Rattle.k_types.specs.State.{Object}
use Rattle.k_cell.specs.Holdings.{CanNarrowTo, HoldingsValue, living_in}
use Rattle.k_heap.specs.Heaps.{has_ended_in, own_segment}
use Rattle.k_shared.specs.SharedHeaps.{SharedRecord}
use Rattle.k_process.specs.Keeping.{is_absorbed_in}
use Rattle.k_guests.specs.declared.guest.Guest.{Guest}
use Rattle.k_guests.specs.Growing.{CanGrowGuest, CanGrowHeap, CanNarrowGuest, CanNarrowHeap, FitsIn, HasObjects, HeapFitsIn, HeapHasObjects, OfEach, OfFirst, guest_with_objects, heap_with_objects, kernel_with_objects, with_object_room}
use Rattle.k_guests.specs.Serving.{HasSegment}

-- a segment that is there has a place in the list
module _ (rooms : List (Option ℕ)) (seg room : ℕ) (there : HasSegment room rooms seg) where
  within : seg < length rooms
  within = elim (cases_lt seg (length rooms)) [
    | inl below ↦ below
    | inr past ↦ let none : None ≡ Some room = sym (get_or_past rooms seg None past) ∙ there in absurd (cc)
  ]

  pub has_room : (objects : ℕ) → HasSegment objects (set rooms seg (Some objects)) seg
  has_room objects = get_or-set_same rooms seg (Some objects) None within

  pub had_room : (objects : ℕ) → set (set rooms seg (Some objects)) seg (Some room) ≡ rooms
  had_room objects = set-set rooms seg (Some objects) (Some room) ∙ ap (set rooms seg) (sym there) ∙ set-get_or rooms seg None

module _ (rooms : List (Option ℕ)) (seg old new : ℕ) (more : old ≤ new) where
  narrowable : (objects : List Object) (gone : Bool) → (IsFalse gone → HasSegment old rooms seg) → (IsFalse gone → living_in seg objects ≤ old) → IsFalse gone →
      CanNarrowTo (with_object_room gone seg new rooms) objects seg old
  narrowable objects true there fits lives = absurd (false≢true (sym lives))
  narrowable objects false there fits lives = record { now = new; there = has_room rooms seg old (there refl) new; less = more; enough = fits refl }

  room_back : (gone : Bool) → (IsFalse gone → HasSegment old rooms seg) → with_object_room gone seg old (with_object_room gone seg new rooms) ≡ rooms
  room_back true there = refl
  room_back false there = had_room rooms seg old (there refl) new

module _ (old new : ℕ) (more : old ≤ new) where
  pub can_grow_guest : (g : Guest) → HasObjects old g → CanGrowGuest new g
  can_grow_guest g has lives = record { now = old; there = has lives; more = more }

  pub can_narrow_guest : (g : Guest) → HasObjects old g → FitsIn old g → CanNarrowGuest old (guest_with_objects new g)
  can_narrow_guest g has fits =
      narrowable g.cell.serial_rooms (own_segment g.cell.pid) old new more g.cell.value.objects (has_ended_in g.cell.value.process) has fits

  pub guest_back : (g : Guest) → HasObjects old g → guest_with_objects old (guest_with_objects new g) ≡ g
  guest_back g has =
      ap (λ rooms. record g { cell = record g.cell { serial_rooms = rooms } }) (room_back g.cell.serial_rooms (own_segment g.cell.pid) old new more (has_ended_in g.cell.value.process) has)

  pub can_grow_heap : (s : SharedRecord) → HeapHasObjects old s → CanGrowHeap new s
  can_grow_heap s has stands = record { now = old; there = has stands; more = more }

  pub can_narrow_heap : (s : SharedRecord) → HeapHasObjects old s → HeapFitsIn old s → CanNarrowHeap old (heap_with_objects new s)
  can_narrow_heap s has fits = narrowable s.serial_rooms s.seg.0 old new more s.value.objects (is_absorbed_in s.value.phase) has fits

  pub heap_back : (s : SharedRecord) → HeapHasObjects old s → heap_with_objects old (heap_with_objects new s) ≡ s
  heap_back s has = ap (λ rooms. record s { serial_rooms = rooms }) (room_back s.serial_rooms s.seg.0 old new more (is_absorbed_in s.value.phase) has)

  pub can_narrow_guests : (n : ℕ) (gs : List Guest) → OfEach (HasObjects old) gs → OfFirst (FitsIn old) n gs → OfFirst (λ g. CanNarrowGuest old (guest_with_objects new g)) n gs
  can_narrow_guests n gs has fit k g few at = can_narrow_guest g (has k g at) (fit k g few at)

  pub can_narrow_heaps : (n : ℕ) (ss : List SharedRecord) → OfEach (HeapHasObjects old) ss → OfFirst (HeapFitsIn old) n ss → OfFirst (λ s. CanNarrowHeap old (heap_with_objects new s)) n ss
  can_narrow_heaps n ss has fit k s few at = can_narrow_heap s (has k s at) (fit k s few at)

-- the kernel's cell, whose own segment is made larger and smaller again
pub kernel_back : (old new : ℕ) (k : HoldingsValue) → HasSegment old k.serial_rooms 0 → (wide back : HoldingsValue) → wide ≡ kernel_with_objects new k → back ≡ kernel_with_objects old wide → back ≡ k
kernel_back old new k has wide back grown narrowed =
    narrowed ∙ ap (kernel_with_objects old) grown ∙ ap (λ rooms. record k { serial_rooms = rooms }) (had_room k.serial_rooms 0 old has new)
