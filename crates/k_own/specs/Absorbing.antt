-- What an absorption asks and leaves.
use Rattle.std.specs.Prelude.{◌≡◌, ◌≤◌, ◌<◌, ◌^◌, [], ◌∷◌, ◌++◌, IsTrue, None, Some, slice_index_or, slice_set}
use Rattle.k_types.specs.declared.event.Event.{Event}
use Rattle.k_types.specs.declared.event.Event.TheVariants.{Absorbed}
use Rattle.k_types.specs.declared.names.CellPhase.TheVariants.{Idle}
use Rattle.k_types.specs.declared.names.Heap.TheVariants.{Kernel, Shared}
use Rattle.k_types.specs.declared.names.Phase.TheVariants.{Absorbed as AbsorbedPhase}
use Rattle.k_types.specs.Steps.{IsPossible, state_after}
use Rattle.k_types.specs.Trace.{Trace, segment_count}
use Rattle.k_agree.specs.Agreement.{Agrees, BookAgrees, BookShows, Shows}
use Rattle.k_agree.specs.Meeting.{Fits, HasMet}
use Rattle.k_commit.specs.k_book.Books.{BookRecord}
use Rattle.k_commit.specs.k_cell.Holdings.{HoldingsValue}
use Rattle.k_commit.specs.Met.{ShowsAfter}
use Rattle.k_commit.specs.Rooms.{HasEventRoom}
use Rattle.k_commit.specs.Standing.{BookStands, KernelStands, SharedStands}
use Rattle.k_laws.specs.Lawful.{IsLawful}
use Rattle.k_commit.specs.k_shared.SharedHeaps.{SharedRecord}
use Rattle.k_shares.specs.Sharers.{is_orphan_by}
use Rattle.k_own.specs.Ending.{state_with}

-- the shared heap's cell, the kernel's and the book stand; the heap was made, is not absorbed, and nobody shares it; the kernel's cell
-- has a number for each segment of the trace; and once the notes fit the journal there is room for the event
pub record CanAbsorb (trace : Trace) (shared : SharedRecord) (kernel : HoldingsValue) (book : BookRecord) : Type 0 where
  pub book_stands : BookStands trace book
  pub shared_stands : SharedStands trace shared book
  pub kernel_stands : KernelStands trace kernel book
  pub orphan : IsTrue (is_orphan_by book.value.phases book.value.shares shared.id.0)
  pub numbers : segment_count trace ≤ kernel.bound
  pub room : Fits book.journal shared.note → Fits book.journal kernel.note → HasEventRoom book

-- the same once both cells have met the journal
pub record HaveMetToAbsorb (trace : Trace) (shared : SharedRecord) (kernel : HoldingsValue) (book : BookRecord) : Type 0 where
  pub book_stands : BookStands trace book
  pub shared_stands : SharedStands trace shared book
  pub kernel_stands : KernelStands trace kernel book
  pub orphan : IsTrue (is_orphan_by book.value.phases book.value.shares shared.id.0)
  pub numbers : segment_count trace ≤ kernel.bound
  pub after : ShowsAfter trace (Shared shared.id) shared.note shared.value book
  pub kernel_after : ShowsAfter trace Kernel kernel.note kernel.value book
  pub events : HasEventRoom book
  pub few : book.event_room < 2 ^ 55

-- both cells and the book show the state after the absorption, which is not appended yet
pub record HasTakenOver (trace : Trace) (old_shared shared : SharedRecord) (old_kernel kernel : HoldingsValue) (old_book book : BookRecord) : Type 0 where
  pub shared_is : shared ≡ record old_shared { value = shared.value; serial_rooms = slice_set old_shared.serial_rooms old_shared.seg.0 None }
  pub kernel_is : kernel ≡ record old_kernel {
    value = kernel.value;
    serial_rooms = slice_set old_kernel.serial_rooms old_shared.seg.0 (slice_index_or old_shared.serial_rooms old_shared.seg.0 None);
  }
  pub book_is : book ≡ record old_book { value = book.value }
  pub settled : shared.value.tail ≡ old_shared.value.tail
  pub kernel_settled : kernel.value.tail ≡ old_kernel.value.tail
  pub phase : shared.value.phase ≡ Some AbsorbedPhase
  pub idle : shared.value.collection ≡ Idle
  pub kernel_idle : kernel.value.collection ≡ Idle
  pub shows : Shows trace (state_with trace old_book (Absorbed old_shared.id)) (Shared old_shared.id) shared.value
  pub kernel_shows : Shows trace (state_with trace old_book (Absorbed old_shared.id)) Kernel kernel.value
  pub book_shows : BookShows trace (state_with trace old_book (Absorbed old_shared.id)) book.value

-- the event is the absorption, possible after the journal, which the notes fitted, lawful, and its newest. The heap is absorbed, and its
-- segment the kernel's: the cells are the same ones, where the room for serials has gone with the segment. Both are idle and have met
-- the journal; cells and book agree
pub record HasAbsorbedHeap (trace : Trace) (old_shared shared : SharedRecord) (old_kernel kernel : HoldingsValue) (old_book book : BookRecord) (event : Event) : Type 0 where
  pub event_is : event ≡ Absorbed old_shared.id
  pub possible : IsPossible trace (state_after trace old_book.journal.list) event
  pub lawful : IsLawful trace old_book.journal.list event
  pub fits : Fits old_book.journal old_shared.note
  pub kernel_fits : Fits old_book.journal old_kernel.note
  pub journal : book.journal.list ≡ old_book.journal.list ++ event ∷ []
  pub same_table : book.journal.table ≡ old_book.journal.table
  pub table : shared.note.table ≡ book.journal.table
  pub kernel_table : kernel.note.table ≡ book.journal.table
  pub shared_is : shared ≡ record old_shared { note = shared.note; value = shared.value; serial_rooms = slice_set old_shared.serial_rooms old_shared.seg.0 None }
  pub kernel_is : kernel ≡ record old_kernel {
    note = kernel.note;
    value = kernel.value;
    serial_rooms = slice_set old_kernel.serial_rooms old_shared.seg.0 (slice_index_or old_shared.serial_rooms old_shared.seg.0 None);
  }
  pub book_is : book ≡ record old_book { journal = book.journal; value = book.value }
  pub phase : shared.value.phase ≡ Some AbsorbedPhase
  pub idle : shared.value.collection ≡ Idle
  pub kernel_idle : kernel.value.collection ≡ Idle
  pub met : HasMet trace book.journal (Shared shared.id) shared.note
  pub kernel_met : HasMet trace book.journal Kernel kernel.note
  pub agrees : Agrees trace (Shared shared.id) shared.note shared.value
  pub kernel_agrees : Agrees trace Kernel kernel.note kernel.value
  pub book_agrees : BookAgrees trace book.journal book.value
