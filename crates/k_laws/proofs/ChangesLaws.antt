-- The laws of this crate, one lemma a clause under the law's name, for the crates above to cite.
use Rattle.std.specs.Prelude.{IsFalse, List, Some, ◌≡◌, ℕ, length, not, ◌+◌, ◌<◌, Option, IsTrue, slice_index_or}
use Rattle.k_types.specs.Cells.{book_part, part, Cell}
use Rattle.k_types.specs.Effects.{after_absorbed, after_end_of, after_ended}
use Rattle.k_types.specs.Limits.{full_limit, full_for}
use Rattle.k_types.specs.Names.{among, heap_eq}
use Rattle.k_types.specs.Owners.{charge_of, owner_of, shared, user, phase_of, is_absorbed, bytes_of}
use Rattle.k_types.specs.Reach.{roots_of}
use Rattle.k_types.specs.Sound.{IsSound, IsOrdered, IsSized}
use Rattle.k_types.specs.State.{State, scan_of, Content, has_exit, register, has_share, object_at}
use Rattle.k_types.specs.Trace.{Trace, kinds_of, limit_of, process_count, size_of_type}
use Rattle.k_types.specs.TraceRules.{AreLimits}
use Rattle.k_types.specs.Updates.{open_scan, add_exit, create, write, count_done, set_register, add_share, close, set_phase, next_name, set_max}
use Rattle.k_types.specs.declared.names.Field.{Field}
use Rattle.k_types.specs.declared.names.Heap.{Heap}
use Rattle.k_types.specs.declared.names.Heap.TheVariants.{Kernel}
use Rattle.k_types.specs.declared.names.Name.{Name}
use Rattle.k_types.specs.declared.names.Phase.{Phase}
use Rattle.k_types.specs.declared.names.Phase.TheVariants.{Populating}
use Rattle.k_types.specs.declared.names.Pid.{Pid}
use Rattle.k_types.specs.declared.names.TypeId.{TypeId}
use Rattle.k_laws.proofs.Collected.{ended_on_cell}
use Rattle.k_laws.proofs.CollectedOnBook.{kernel_collected_on_book, collected_on_book}
use Rattle.k_laws.proofs.EndsOnBook.{charge_told, end_on_book}
use Rattle.k_laws.proofs.GivenAway.{end_on_cell, end_on_kernel, absorbed_on_cell, absorbed_on_kernel}
use Rattle.k_laws.proofs.MadeOnBook.{new_on_book, new_in_kernel_on_book, new_in_shared_on_book}
use Rattle.k_laws.proofs.OnBook.{open_scan_on_book, write_on_book, add_exit_on_book, owner_told, count_done_on_book, set_phase_on_book, add_share_on_book, share_again, close_on_book, set_max_on_book}
use Rattle.k_laws.proofs.OnCells.{open_scan_on_cell, write_on_cell, create_on_cell, add_exit_on_cell, set_phase_on_cell}
use Rattle.k_laws.proofs.PinsOnBook.{set_register_on_book}
use Rattle.k_laws.proofs.RootsTold.{roots_told}
use Rattle.k_laws.proofs.TakenOnBook.{taken_on_book}
use Rattle.k_laws.proofs.ToldBy.{object_told, register_told, name_told, bytes_told, shared_bytes_told, limit_told, full_for_told}
use Rattle.k_laws.specs.BookChanges.{charge_in, drops, when_collected, when_ended, when_taken, without_entries, with_charge, with_entry, with_shared_bytes, owner_in, with_pin_moved, when_closed, with_phase, with_share, bytes_in, with_max}
use Rattle.k_laws.specs.CellChanges.{at_its_end, collected, taking_in, when_absorbed, with_scan, with_created, with_exit_to, in_phase, next_name_in}
use Rattle.k_laws.specs.Roots.{roots_in}
use Rattle.k_laws.specs.Told.{full_limit_in, full_for_in}
use Rattle.k_laws.proofs.Elsewhere.{open_scan_elsewhere, write_elsewhere, create_elsewhere, add_exit_elsewhere, count_done_elsewhere, set_register_elsewhere, add_share_elsewhere, close_elsewhere, set_max_elsewhere}
use Rattle.k_laws.proofs.ElsewhereOther.{collected_elsewhere, exited_elsewhere, absorbed_elsewhere, set_phase_elsewhere}
use Rattle.k_laws.proofs.LocalEffects.{part_done, part_register}
use Rattle.k_laws.specs.PartUpdates.{with_written, with_done, with_register, held_in}
use Rattle.k_laws.specs.Changes.{MayAbsorb, MayExit}

-- what a living process is charged is told by its cell's part and the book's
pub the_charge_is_told : (trace : Trace) (st : State) (p : ℕ) → IsSound trace st → IsFalse (among p st.ended) → charge_of trace st p ≡ charge_in trace (book_part trace st) (part trace st (user p)) p
the_charge_is_told = charge_told

-- in the book the end of a collection drops the entries of the exit items that go
pub what_the_end_of_a_collection_changes_in_the_book-kernel : (trace : Trace) (st : State) → IsSound trace st → book_part trace (after_ended trace Kernel st) ≡ without_entries (drops (part trace st Kernel)) (book_part trace st)
what_the_end_of_a_collection_changes_in_the_book-kernel = kernel_collected_on_book

pub what_the_end_of_a_collection_changes_in_the_book-user : (trace : Trace) (st : State) (p : ℕ) (roots : List Name) → AreLimits trace → IsSound trace st → scan_of st.scans (user p) ≡ Some roots → book_part trace (after_ended trace (user p) st) ≡ when_collected trace (owner_of trace st) p (part trace st (user p)) (book_part trace st)
what_the_end_of_a_collection_changes_in_the_book-user = λ trace st p roots limits sound opened. collected_on_book trace limits st p sound roots opened

-- in the book the end of a process drops its shares, its pins and the entries of the exit items that go, and credits its whole charge
pub what_the_end_of_a_process_changes_in_the_book : (trace : Trace) (st : State) (p : ℕ) → AreLimits trace → IsSound trace st → MayExit trace st p → book_part trace (after_end_of trace p st) ≡ when_ended trace (owner_of trace st) p (part trace st (user p)) (part trace st Kernel) (book_part trace st)
what_the_end_of_a_process_changes_in_the_book = λ trace st p limits sound may. end_on_book trace limits st p sound may

-- in the book an absorption sets the phase, leaves the shared heap no bytes, and drops the entries of the exit items between it and the kernel
pub what_absorption_changes_in_the_book : (trace : Trace) (st : State) (s : ℕ) → IsSound trace st → MayAbsorb trace st s → book_part trace (after_absorbed trace s st) ≡ when_taken (owner_of trace st) s (part trace st (shared s)) (part trace st Kernel) (book_part trace st)
what_absorption_changes_in_the_book = taken_on_book

-- a collection that begins shows in its heap's cell alone
pub what_the_beginning_of_a_collection_changes-cell : (trace : Trace) (st : State) (h : Heap) (roots : List Name) → part trace (open_scan h roots st) h ≡ with_scan roots (part trace st h)
what_the_beginning_of_a_collection_changes-cell = open_scan_on_cell

pub what_the_beginning_of_a_collection_changes-others : (trace : Trace) (st : State) (c : Cell) (h : Heap) (roots : List Name) → IsFalse (heap_eq h c) → part trace (open_scan h roots st) c ≡ part trace st c
what_the_beginning_of_a_collection_changes-others = λ trace st k h roots apart. open_scan_elsewhere trace st k h roots apart

pub what_the_beginning_of_a_collection_changes-book : (trace : Trace) (st : State) (h : Heap) (roots : List Name) → book_part trace (open_scan h roots st) ≡ book_part trace st
what_the_beginning_of_a_collection_changes-book = open_scan_on_book

-- the end of a collection goes by its heap's cell alone, and leaves the other cells
pub what_the_end_of_a_collection_changes_in_its_cell-cell : (trace : Trace) (st : State) (h : Heap) → part trace (after_ended trace h st) h ≡ collected (part trace st h)
what_the_end_of_a_collection_changes_in_its_cell-cell = ended_on_cell

pub what_the_end_of_a_collection_changes_in_its_cell-others : (trace : Trace) (st : State) (c : Cell) (h : Heap) → IsFalse (heap_eq h c) → part trace (after_ended trace h st) c ≡ part trace st c
what_the_end_of_a_collection_changes_in_its_cell-others = λ trace st k h apart. collected_elsewhere trace st k h apart

-- the end of a process empties its cell, and the kernel takes in what was there
pub what_the_end_of_a_process_changes_in_cells-cell : (trace : Trace) (st : State) (p : ℕ) → IsSound trace st → MayExit trace st p → part trace (after_end_of trace p st) (user p) ≡ at_its_end (part trace st (user p))
what_the_end_of_a_process_changes_in_cells-cell = end_on_cell

pub what_the_end_of_a_process_changes_in_cells-kernel : (trace : Trace) (st : State) (p : ℕ) → IsSound trace st → MayExit trace st p → part trace (after_end_of trace p st) Kernel ≡ taking_in (owner_of trace st) (user p) (part trace st (user p)) (part trace st Kernel)
what_the_end_of_a_process_changes_in_cells-kernel = end_on_kernel

pub what_the_end_of_a_process_changes_in_cells-others : (trace : Trace) (st : State) (c : Cell) (p : ℕ) → IsFalse (heap_eq (user p) c) → IsFalse (heap_eq Kernel c) → part trace (after_end_of trace p st) c ≡ part trace st c
what_the_end_of_a_process_changes_in_cells-others = λ trace st k p apart kernel. exited_elsewhere trace st k p apart kernel

-- an absorption empties the shared heap's cell, and the kernel takes in what was there
pub what_absorption_changes_in_cells-cell : (trace : Trace) (st : State) (s : ℕ) → IsSound trace st → MayAbsorb trace st s → part trace (after_absorbed trace s st) (shared s) ≡ when_absorbed (part trace st (shared s))
what_absorption_changes_in_cells-cell = absorbed_on_cell

pub what_absorption_changes_in_cells-kernel : (trace : Trace) (st : State) (s : ℕ) → IsSound trace st → MayAbsorb trace st s → part trace (after_absorbed trace s st) Kernel ≡ taking_in (owner_of trace st) (shared s) (part trace st (shared s)) (part trace st Kernel)
what_absorption_changes_in_cells-kernel = absorbed_on_kernel

pub what_absorption_changes_in_cells-others : (trace : Trace) (st : State) (c : Cell) (s : ℕ) → IsFalse (heap_eq (shared s) c) → IsFalse (heap_eq Kernel c) → part trace (after_absorbed trace s st) c ≡ part trace st c
what_absorption_changes_in_cells-others = λ trace st k s apart kernel. absorbed_elsewhere trace st k s apart kernel

-- a field that is written shows in the cell of the object's owner, and nowhere else
pub what_a_write_changes-cell : (trace : Trace) (st : State) (c : Cell) (x : Name) (i : ℕ) (content : Content) → part trace (write x i content st) c ≡ with_written x i content (part trace st c)
what_a_write_changes-cell = write_on_cell

pub what_a_write_changes-others : (trace : Trace) (st : State) (c : Cell) (x : Name) (i : ℕ) (content : Content) → IsFalse (heap_eq (owner_of trace st x.seg.0) c) → part trace (write x i content st) c ≡ part trace st c
what_a_write_changes-others = λ trace st k x i content apart. write_elsewhere trace st k x i content apart

pub what_a_write_changes-book : (trace : Trace) (st : State) (x : Name) (i : ℕ) (content : Content) → book_part trace (write x i content st) ≡ book_part trace st
what_a_write_changes-book = write_on_book

-- an object that is made shows in the cell of its segment's owner alone
pub what_a_new_object_changes_in_its_cell-cell : (trace : Trace) (st : State) (c : Cell) (seg : ℕ) (ty : TypeId) (kinds : List Field) → owner_of trace st seg ≡ c → seg < length st.made → IsOrdered st.objects → part trace (create seg ty kinds st) c ≡ with_created seg ty kinds (part trace st c)
what_a_new_object_changes_in_its_cell-cell = λ trace st k seg ty kinds own inside ordered. create_on_cell trace st k seg ty kinds own inside ordered

pub what_a_new_object_changes_in_its_cell-others : (trace : Trace) (st : State) (c : Cell) (seg : ℕ) (ty : TypeId) (kinds : List Field) → IsFalse (heap_eq (owner_of trace st seg) c) → part trace (create seg ty kinds st) c ≡ part trace st c
what_a_new_object_changes_in_its_cell-others = λ trace st k seg ty kinds apart. create_elsewhere trace st k seg ty kinds apart

-- in the book an object that a process makes is charged at the process's limit, whether it is in its own heap or in the shared heap that it populates, whose bytes rise too; one in the kernel's heap is not seen there
pub what_a_new_object_changes_in_the_book-own : (trace : Trace) (st : State) (p : ℕ) (ty : TypeId) → AreLimits trace → IsSound trace st → p < process_count trace → IsFalse (among p st.ended) → book_part trace (create (p + 1) ty (kinds_of trace ty) st) ≡ with_charge (limit_of trace p) (size_of_type trace ty) (book_part trace st)
what_a_new_object_changes_in_the_book-own = λ trace st p ty limits sound known lives. new_on_book trace st limits sound p ty known lives

pub what_a_new_object_changes_in_the_book-kernel : (trace : Trace) (st : State) (ty : TypeId) → book_part trace (create 0 ty (kinds_of trace ty) st) ≡ book_part trace st
what_a_new_object_changes_in_the_book-kernel = λ trace st ty. new_in_kernel_on_book trace st ty

pub what_a_new_object_changes_in_the_book-shared : (trace : Trace) (st : State) (pid : Pid) (s : ℕ) (ty : TypeId) → AreLimits trace → IsSound trace st → pid.0 < process_count trace → IsFalse (among pid.0 st.ended) → s < trace.shared_heaps → phase_of st.phases s ≡ Populating pid → book_part trace (create (1 + process_count trace + s) ty (kinds_of trace ty) st) ≡ with_shared_bytes s (size_of_type trace ty) (with_charge (limit_of trace pid.0) (size_of_type trace ty) (book_part trace st))
what_a_new_object_changes_in_the_book-shared = λ trace st pid s ty limits sound known lives inside phase. new_in_shared_on_book trace st limits sound pid s ty known lives inside phase

-- an exit item that is added shows in its heap's cell, and in the book's entries where it is new
pub what_a_new_exit_item_changes-cell : (trace : Trace) (st : State) (h : Heap) (y : Name) → part trace (add_exit h y st) h ≡ with_exit_to y (part trace st h)
what_a_new_exit_item_changes-cell = add_exit_on_cell

pub what_a_new_exit_item_changes-others : (trace : Trace) (st : State) (c : Cell) (h : Heap) (y : Name) → IsFalse (heap_eq h c) → part trace (add_exit h y st) c ≡ part trace st c
what_a_new_exit_item_changes-others = λ trace st k h y apart. add_exit_elsewhere trace st k h y apart

pub what_a_new_exit_item_changes-book : (trace : Trace) (st : State) (h : Heap) (y : Name) → book_part trace (add_exit h y st) ≡ with_entry (not (has_exit st.exits h y)) y (book_part trace st)
what_a_new_exit_item_changes-book = add_exit_on_book

-- the book's part tells who owns each segment
pub the_book_tells_the_owners : (trace : Trace) (st : State) → owner_in trace (book_part trace st) ≡ owner_of trace st
the_book_tells_the_owners = owner_told

-- one more operation done shows in the process's cell alone
pub what_a_counted_operation_changes-cell : (trace : Trace) (st : State) (p : ℕ) → p < length st.done → part trace (count_done p st) (user p) ≡ with_done (part trace st (user p))
what_a_counted_operation_changes-cell = λ trace st p inside. part_done trace p st inside

pub what_a_counted_operation_changes-others : (trace : Trace) (st : State) (c : Cell) (p : ℕ) → IsFalse (heap_eq (user p) c) → part trace (count_done p st) c ≡ part trace st c
what_a_counted_operation_changes-others = λ trace st k p apart. count_done_elsewhere trace st k p apart

pub what_a_counted_operation_changes-book : (trace : Trace) (st : State) (p : ℕ) → book_part trace (count_done p st) ≡ book_part trace st
what_a_counted_operation_changes-book = count_done_on_book

-- a register that is set shows in the process's cell, and in the book's pins of what it held and what it holds now
pub what_a_register_changes-cell : (trace : Trace) (st : State) (p r : ℕ) (v : Option Name) → part trace (set_register p r v st) (user p) ≡ with_register r v (part trace st (user p))
what_a_register_changes-cell = λ trace st p r v. part_register trace p st r v

pub what_a_register_changes-others : (trace : Trace) (st : State) (c : Cell) (p r : ℕ) (v : Option Name) → IsFalse (heap_eq (user p) c) → part trace (set_register p r v st) c ≡ part trace st c
what_a_register_changes-others = λ trace st k p r v apart. set_register_elsewhere trace st k p r v apart

pub what_a_register_changes-book : (trace : Trace) (st : State) (p r : ℕ) (v : Option Name) → IsSized trace st → p < process_count trace → r < 16 → book_part trace (set_register p r v st) ≡ with_pin_moved (owner_of trace st) p (register st.registers p r) v (book_part trace st)
what_a_register_changes-book = λ trace st p r v sized known small. set_register_on_book trace st p r v sized known small

-- a collection begins from its own heap's cell and the book: its roots are those objects of the cell that the book's entries or pins tell to be entered, or that the heap's process holds, and for the kernel the directory
pub a_collection_begins_from_its_cell_and_the_book : (trace : Trace) (st : State) (h : Heap) → IsSound trace st → roots_of trace st h ≡ roots_in h (book_part trace st) (part trace st h)
a_collection_begins_from_its_cell_and_the_book = roots_told

-- a phase that is set, and makes the heap neither absorbed nor unabsorbed, shows in the shared heap's cell and in the book
pub what_a_phase_changes-cell : (trace : Trace) (st : State) (s : ℕ) (phase : Phase) → s < length st.phases → is_absorbed phase ≡ is_absorbed (phase_of st.phases s) → part trace (set_phase s phase st) (shared s) ≡ in_phase phase (part trace st (shared s))
what_a_phase_changes-cell = set_phase_on_cell

pub what_a_phase_changes-others : (trace : Trace) (st : State) (c : Cell) (s : ℕ) (phase : Phase) → IsFalse (heap_eq (shared s) c) → is_absorbed phase ≡ is_absorbed (phase_of st.phases s) → part trace (set_phase s phase st) c ≡ part trace st c
what_a_phase_changes-others = λ trace st k s phase apart same. set_phase_elsewhere trace st k s phase apart same

pub what_a_phase_changes-book : (trace : Trace) (st : State) (s : ℕ) (phase : Phase) → is_absorbed phase ≡ is_absorbed (phase_of st.phases s) → book_part trace (set_phase s phase st) ≡ with_phase s phase (book_part trace st)
what_a_phase_changes-book = set_phase_on_book

-- a share shows in the book alone: a new one charges all bytes of the heap at the process's limit, one that is there already changes nothing
pub what_a_new_share_changes-cells : (trace : Trace) (st : State) (c : Cell) (p s : ℕ) → part trace (add_share p s st) c ≡ part trace st c
what_a_new_share_changes-cells = add_share_elsewhere

pub what_a_new_share_changes-book : (trace : Trace) (st : State) (p s : ℕ) → AreLimits trace → p < process_count trace → IsFalse (among p st.ended) → s < trace.shared_heaps → IsFalse (has_share st.shares p s) → book_part trace (add_share p s st) ≡ with_charge (limit_of trace p) (slice_index_or (book_part trace st).shared_bytes s 0) (with_share p s (book_part trace st))
what_a_new_share_changes-book = λ trace st p s limits known lives inside new. add_share_on_book trace st limits p s known lives inside new

pub what_a_new_share_changes-again : (st : State) (p s : ℕ) → IsTrue (has_share st.shares p s) → add_share p s st ≡ st
what_a_new_share_changes-again = share_again

-- a maximum shows in the book alone
pub what_a_new_maximum_changes-cells : (trace : Trace) (st : State) (c : Cell) (m max : ℕ) → part trace (set_max m max st) c ≡ part trace st c
what_a_new_maximum_changes-cells = set_max_elsewhere

pub what_a_new_maximum_changes-book : (trace : Trace) (st : State) (m max : ℕ) → book_part trace (set_max m max st) ≡ with_max m max (book_part trace st)
what_a_new_maximum_changes-book = set_max_on_book

-- the closing shows in the book alone, except for the collection that it begins
pub what_closing_changes-cells : (trace : Trace) (st : State) (c : Cell) → part trace (close st) c ≡ part trace st c
what_closing_changes-cells = close_elsewhere

pub what_closing_changes-book : (trace : Trace) (st : State) → book_part trace (close st) ≡ when_closed (book_part trace st)
what_closing_changes-book = close_on_book

-- a cell tells what an operation reads of its heap: the objects, and so their fields; the registers of its process; the name of the next object of a segment; the heap's bytes
pub cells_tell_what_is_read_of_them-objects : (trace : Trace) (st : State) (c : Cell) (x : Name) → owner_of trace st x.seg.0 ≡ c → object_at (part trace st c).objects x ≡ object_at st.objects x
cells_tell_what_is_read_of_them-objects = object_told

pub cells_tell_what_is_read_of_them-registers : (trace : Trace) (st : State) (p r : ℕ) → held_in (part trace st (user p)).process r ≡ register st.registers p r
cells_tell_what_is_read_of_them-registers = register_told

pub cells_tell_what_is_read_of_them-names : (trace : Trace) (st : State) (c : Cell) (seg : ℕ) → owner_of trace st seg ≡ c → next_name_in seg (part trace st c) ≡ next_name seg st
cells_tell_what_is_read_of_them-names = name_told

pub cells_tell_what_is_read_of_them-bytes : (trace : Trace) (st : State) (c : Cell) → bytes_in (part trace st c) ≡ bytes_of trace st c
cells_tell_what_is_read_of_them-bytes = bytes_told

-- the book tells the bytes of each shared heap, and for each limit and size the first limit on the path that is full
pub the_book_tells_what_fits-shared : (trace : Trace) (st : State) (s : ℕ) → s < trace.shared_heaps → slice_index_or (book_part trace st).shared_bytes s 0 ≡ bytes_of trace st (shared s)
the_book_tells_what_fits-shared = shared_bytes_told

pub the_book_tells_what_fits-limits : (trace : Trace) (st : State) (m n : ℕ) → AreLimits trace → m < length trace.limits → full_limit_in trace (book_part trace st) m n ≡ full_limit trace st m n
the_book_tells_what_fits-limits = λ trace st m n limits known. limit_told trace limits st m n known

pub the_book_tells_what_fits-maxima : (trace : Trace) (st : State) (m max : ℕ) → AreLimits trace → m < length trace.limits → full_for_in trace (book_part trace st) m max ≡ full_for trace st m max
the_book_tells_what_fits-maxima = λ trace st m max limits known. full_for_told trace limits st m max known
