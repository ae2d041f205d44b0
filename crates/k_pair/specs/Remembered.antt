-- What the other cell and the book remember of a reference that is stored into an object of the other heap.
use Rattle.std.specs.Prelude.{◌≡◌, ◌<◌, ◌-◌, ◌^◌, ℕ, Option, Some, length}
use Rattle.k_types.specs.declared.names.CellPhase.TheVariants.{Idle}
use Rattle.k_types.specs.declared.names.Heap.{Heap}
use Rattle.k_types.specs.declared.names.Name.{Name}
use Rattle.k_types.specs.Agree.{book_shown_by}
use Rattle.k_types.specs.Counted.{counted}
use Rattle.k_commit.specs.k_book.Books.{BookRecord}
use Rattle.k_laws.specs.BookChanges.{owner_in}
use Rattle.k_entry.specs.Entries.{home_of}
use Rattle.k_commit.specs.k_agree.Shown.{idle_part, part_alone}
use Rattle.k_laws.specs.BookAfter.{book_stored}
use Rattle.k_laws.specs.CellAfter.{with_exit_for}
use Rattle.k_commit.specs.Met.{BeforeWith}
use Rattle.k_commit.specs.Others.{OtherValue, with_value}
use Rattle.k_commit.specs.Rooms.{HasExitRoom}

-- the owners of the segments with which a step began
abbrev pub owners_of : BeforeWith → ℕ → Heap
owners_of before = owner_in before.own.trace (book_shown_by before.own.book.value)

-- what the reference is to lies in a segment of which the book tells the owner
pub record TellsOwner (own : ℕ → Heap) (book : BookRecord) (value : Option Name) : Type 0 where
  pub homes : (n : Name) → value ≡ Some n → n.seg.0 < length book.value.homes
  pub owners : (n : Name) → value ≡ Some n → home_of book.value.homes n.seg.0 ≡ own n.seg.0

-- no collection of the heap is open, the owner is told, there is room for an exit item and for an entry item, and counts of entries fit
pub record CanRemember (own : ℕ → Heap) (other : OtherValue) (book : BookRecord) (value : Option Name) : Type 0 where
  pub idle : other.held.value.collection ≡ Idle
  pub told : TellsOwner own book value
  pub room : HasExitRoom other.held book
  pub counts : (n : Name) → counted book.value.entries n < 2 ^ 32 - 1

-- the cell has the exit item to an object of another heap, which is entered on the book where the item is new, and nothing else has changed
pub record HasRemembered (own : ℕ → Heap) (old_other other : OtherValue) (old_book book : BookRecord) (value : Option Name) : Type 0 where
  pub other_is : other ≡ with_value (record old_other.held.value { exits = other.held.value.exits }) old_other
  pub book_is : book ≡ record old_book { value = record old_book.value { entries = book.value.entries } }
  pub exits : (x : Name) → own x.seg.0 ≡ old_other.cell → idle_part other.held.value ≡ with_exit_for own x value (idle_part old_other.held.value)
  pub entries : (x : Name) → own x.seg.0 ≡ old_other.cell →
      book_shown_by book.value ≡ book_stored own (Some x) value (part_alone (idle_part old_other.held.value)) (book_shown_by old_book.value)
