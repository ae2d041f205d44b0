-- What contracts see of the objects that are held from outside their heaps.
use Rattle.std.specs.Prelude.{◌≡◌, ℕ, List, slice_set}
use Rattle.std.specs.List.Sorted.{IsPermutation}
use Rattle.k_types.specs.declared.names.Heap.{Heap}
use Rattle.k_types.specs.declared.names.Name.{Name}
use Rattle.k_types.specs.Counted.{Counted, counted}
use Rattle.k_entry.specs.Entries.{EntryValue, AreEntries}

-- the home of each segment; the entry items and the pins, each with its count; and for how many items of each kind there is room
pub record EnteredValue : Type 0 where
  pub homes : List Heap
  pub entries : List Counted
  pub pins : List Counted
  pub entry_room : ℕ
  pub pin_room : ℕ

-- the entry items with the homes of their segments
abbrev pub entry_items : EnteredValue → EntryValue
entry_items v = record { items = v.entries; homes = v.homes; room = v.entry_room }

-- the pins with the homes of their segments
abbrev pub pin_items : EnteredValue → EntryValue
pin_items v = record { items = v.pins; homes = v.homes; room = v.pin_room }

-- the segment has that home and its items are on that walk; each count is as before, and the order of the items is free
pub record HasRehomed (old new : EntryValue) (seg : ℕ) (to : Heap) : Type 0 where
  pub homes : new.homes ≡ slice_set old.homes seg to
  pub items : IsPermutation old.items new.items
  pub counts : (n : Name) → counted new.items n ≡ counted old.items n
  pub entries : AreEntries new
  pub room : new.room ≡ old.room

-- what is seen of the two tables
abbrev pub entered_by : EntryValue → EntryValue → EnteredValue
entered_by entries pins = record {
  homes = entries.homes;
  entries = entries.items;
  pins = pins.items;
  entry_room = entries.room;
  pin_room = pins.room;
}
