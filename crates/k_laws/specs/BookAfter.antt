-- What an event makes of the book's part, as a function of the parts that the cells and the book had.
use Rattle.std.specs.Prelude.{ℕ, not, slice_index_or, Option, Some, None, if◌then◌else◌}
use Rattle.k_types.specs.declared.names.Name.{Name}
use Rattle.k_types.specs.declared.names.Heap.{Heap}
use Rattle.k_types.specs.declared.names.Heap.TheVariants.{Kernel, User, Shared}
use Rattle.k_types.specs.declared.names.Phase.TheVariants.{Populating, Frozen}
use Rattle.k_types.specs.declared.op.Op.{Op}
use Rattle.k_types.specs.declared.op.Op.TheVariants.{New, KNew, SNew, Store, Load, Move, Clear, Dir, Put, Get, Collect, KCollect, Share, Freeze, Attach, Exit, Kill, Resize}
use Rattle.k_types.specs.declared.event.Event.{Event}
use Rattle.k_types.specs.declared.event.Event.TheVariants.{Done as DoneEvent, Ended, Absorbed, Closing}
use Rattle.k_types.specs.declared.event.Reply.{Reply}
use Rattle.k_types.specs.Names.{heap_eq}
use Rattle.k_types.specs.Trace.{Trace, limit_of, size_of_type}
use Rattle.k_types.specs.Owners.{user, shared}
use Rattle.k_types.specs.Cells.{Cell, CellPart, BookPart}
use Rattle.k_laws.specs.BookChanges.{owner_in, with_pin_moved, with_charge, with_shared_bytes, with_entry, with_phase, with_share, when_closed, without_entries, drops, when_collected, when_ended, when_taken, with_max}
use Rattle.k_laws.specs.CellAfter.{register_in, reference_given, unless_refused}
use Rattle.k_laws.specs.Touches.{ends_other_in}

-- the pin of what the register of the process held is let go, and that of what it holds now is taken
abbrev pub book_repinned : Trace → BookPart → (Cell → CellPart) → ℕ → ℕ → Option Name → BookPart → BookPart
book_repinned trace book parts p r v after = with_pin_moved (owner_in trace book) p (register_in parts p r) v after

-- the value is entered once more, where its owner is another than the object's and the object's cell has no exit item to it yet
abbrev pub book_stored : (ℕ → Heap) → Option Name → Option Name → (Cell → CellPart) → BookPart → BookPart
book_stored own None value parts book = book
book_stored own (Some x) None parts book = book
book_stored own (Some x) (Some y) parts book =
    if heap_eq (own x.seg.0) (own y.seg.0) then book else with_entry (not ((parts (own x.seg.0)).exits y)) y book

-- the shared heap is frozen with that root
abbrev pub book_frozen : ℕ → Option Name → BookPart → BookPart
book_frozen s None book = book
book_frozen s (Some root) book = with_phase s (Frozen root) book

-- the process shares the heap, and is charged its bytes; where it shares it already nothing changes
abbrev pub book_attached : Trace → ℕ → ℕ → BookPart → BookPart
book_attached trace p s book =
    if book.shares p s then book else with_charge (limit_of trace p) (slice_index_or book.shared_bytes s 0) (with_share p s book)

-- the book after the end of the heap's collection; no collection of a shared heap is ever open
abbrev pub book_collected : Trace → (Cell → CellPart) → Heap → BookPart → BookPart
book_collected trace parts Kernel book = without_entries (drops (parts Kernel)) book
book_collected trace parts (User p) book = when_collected trace (owner_in trace book) p.0 (parts (User p)) book
book_collected trace parts (Shared s) book = book

-- the book's part after an operation of the process that isn't refused
unfoldable pub book_operated : Trace → BookPart → (Cell → CellPart) → ℕ → Op → Reply → BookPart
book_operated trace book parts p (New r ty) said =
    book_repinned trace book parts p r.0 (reference_given said) (with_charge (limit_of trace p) (size_of_type trace ty) book)
book_operated trace book parts p (KNew r ty) said = book_repinned trace book parts p r.0 (reference_given said) book
book_operated trace book parts p (SNew r s ty) said =
    book_repinned trace book parts p r.0 (reference_given said)
    (with_shared_bytes s.0 (size_of_type trace ty) (with_charge (limit_of trace p) (size_of_type trace ty) book))
book_operated trace book parts p (Store base i value) said =
    book_stored (owner_in trace book) (register_in parts p base.0) (register_in parts p value.0) parts book
book_operated trace book parts p (Load r base i) said = book_repinned trace book parts p r.0 (reference_given said) book
book_operated trace book parts p (Move r from) said = book_repinned trace book parts p r.0 (register_in parts p from.0) book
book_operated trace book parts p (Clear r) said = book_repinned trace book parts p r.0 None book
book_operated trace book parts p (Dir r) said = book_repinned trace book parts p r.0 (reference_given said) book
book_operated trace book parts p (Put base i number) said = book
book_operated trace book parts p (Get base i) said = book
book_operated trace book parts p Collect said = book
book_operated trace book parts p KCollect said = book
book_operated trace book parts p (Share s) said = with_share p s.0 (with_phase s.0 (Populating (record { 0 = p })) book)
book_operated trace book parts p (Freeze s root) said = book_frozen s.0 (register_in parts p root.0) book
book_operated trace book parts p (Attach r s) said =
    book_repinned trace book parts p r.0 (reference_given said) (book_attached trace p s.0 book)
book_operated trace book parts p Exit said = when_ended trace (owner_in trace book) p (parts (user p)) (parts Kernel) book
book_operated trace book parts p (Kill q) said =
    if ends_other_in trace book p q.0 then when_ended trace (owner_in trace book) q.0 (parts (User q)) (parts Kernel) book else book
book_operated trace book parts p (Resize m max) said = with_max m.0 max book

-- the book's part after an event
unfoldable pub book_after : Trace → BookPart → (Cell → CellPart) → Event → BookPart
book_after trace book parts (DoneEvent pid op said) = unless_refused said (book_operated trace book parts pid.0 op said) book
book_after trace book parts (Ended h objects bytes exits shares) = book_collected trace parts h book
book_after trace book parts (Absorbed s) = when_taken (owner_in trace book) s.0 (parts (shared s.0)) (parts Kernel) book
book_after trace book parts Closing = when_closed book
