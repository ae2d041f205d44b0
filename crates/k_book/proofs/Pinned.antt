-- The pins as the table of pins has them, where its homes are those of the entry items.
use Rattle.std.proofs.Common.{◌≡◌, List, sym, ap}
use Rattle.k_types.specs.declared.names.Heap.{Heap}
use Rattle.k_entry.specs.Entries.{EntryValue}
use Rattle.k_book.specs.Entered.{entered_by, pin_items}

abbrev with_homes : EntryValue → List Heap → EntryValue
with_homes v homes = record v { homes = homes }

pub pins_are : (entries pins : EntryValue) → pins.homes ≡ entries.homes → pin_items (entered_by entries pins) ≡ pins
pins_are entries pins same = ap (with_homes pins) (sym same)
