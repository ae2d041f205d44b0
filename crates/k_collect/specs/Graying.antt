-- Which objects are roots.
use Rattle.std.specs.Prelude.{◌&&◌, ◌||◌, nat_lt, Bool}
use Rattle.k_types.specs.declared.names.Heap.{Heap}
use Rattle.k_types.specs.declared.names.Name.{Name}
use Rattle.k_types.specs.Agree.{CellValue}
use Rattle.k_types.specs.Counted.{counted}
use Rattle.k_types.specs.Names.{heap_eq}
use Rattle.k_agree.specs.Marking.{idle_part}
use Rattle.k_commit.specs.k_book.Books.{BookRecord, book_entries, book_pins}
use Rattle.k_laws.specs.Roots.{held_by}
use Rattle.k_entry.specs.Entries.{EntryValue, home_of}

-- the table counts the object, and the heap owns its segment
abbrev pub is_counted_at : EntryValue → Heap → Name → Bool
is_counted_at v heap n = nat_lt 0 (counted v.items n) && heap_eq (home_of v.homes n.seg.0) heap

-- the heap's own process holds the object, or it is the kernel's directory; or the book counts an entry or a pin of it, and the heap owns its
-- segment
abbrev pub is_root_by : Heap → BookRecord → CellValue → Name → Bool
is_root_by heap book v n = (held_by heap (idle_part v) n || is_counted_at (book_entries book) heap n) || is_counted_at (book_pins book) heap n
