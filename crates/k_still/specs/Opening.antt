-- All cells of a run and its book before the first event, and how large their tables are made.
use Rattle.std.specs.Prelude.{◌≡◌, ℕ, ◌+◌, ◌<◌, ◌≤◌, ◌^◌, IfSome, List, [], ◌∷◌, Option, Some, None, length, map, min, set, slice_get, slice_index_or, Vec}
use Rattle.std.specs.List.{AllByRecursion}
use Rattle.std.specs.Global.{Global}
use Rattle.std.specs.declared.collections.VecDeque.{VecDeque}
use Rattle.atomic_table.specs.Seated.{TableId}
use Rattle.k_types.specs.declared.op.Op.{Op}
use Rattle.k_types.specs.declared.op.Op.TheVariants.{New, KNew, SNew, Share}
use Rattle.k_types.specs.declared.names.Heap.TheVariants.{Shared}
use Rattle.k_types.specs.declared.names.Pid.{Pid}
use Rattle.k_types.specs.declared.names.SharedId.{SharedId}
use Rattle.k_types.specs.declared.setup.Setup.{Setup}
use Rattle.k_types.specs.Numbers.{numbers_below}
use Rattle.k_types.specs.Trace.{Trace, operations_of, process_count, segment_count, segment_of, trace_of}
use Rattle.k_types.specs.TraceRules.{KeepsRules}
use Rattle.k_agree.specs.Rooms.{event_room, exit_room, serial_room}
use Rattle.k_space.specs.Objects.{BodyValue}
use Rattle.k_process.specs.Bodies.{bodies_of}
use Rattle.k_tie.specs.Values.{JournalValue, NoteValue, blank_note, empty_journal}
use Rattle.k_book.specs.Books.{BookRecord}
use Rattle.k_cell.specs.Holdings.{HoldingsValue}
use Rattle.k_process.specs.Keeping.{BookKeeps, KernelKeeps, SharedKeeps}
use Rattle.k_process.specs.Rooms.{shared_exit_room}
use Rattle.k_trace.specs.declared.trace.Trace.{Trace as TraceRead}
use Rattle.k_trace.specs.Meaning.{meaning_of}
use Rattle.k_trace.specs.Named.{NamedTrace}
use Rattle.k_trace.specs.Rules.{IsTrace}
use Rattle.k_shared.specs.SharedHeaps.{SharedRecord}
use Rattle.k_still.specs.declared.beginning.Beginnings.{Beginnings}
use Rattle.k_process.specs.declared.process.Process.{Process}
use Rattle.k_still.specs.declared.prepared.Prepared.{Prepared}
use Rattle.k_still.specs.declared.first.FirstCells.{FirstCells}
use Rattle.k_process.specs.Heaps.{HeapsValue, value_of}
use Rattle.k_process.specs.BetweenSteps.{AllStand, ArePublished, ProcessStands, ProcessesStand}
use Rattle.k_process.specs.Worlds.{WorldValue}

-- it holds of each element at its place
abbrev pub Each : {A : Type 0} → (ℕ → A → Type 0) → List A → Type 0
Each P xs = (k : ℕ) (x : _) → slice_get xs k ≡ Some x → P k x

-- the segment in which an operation of the process allocates, where there are so many processes
abbrev pub segment_given : ℕ → ℕ → Op → Option ℕ
segment_given procs p (New r ty) = Some (p + 1)
segment_given procs p (KNew r ty) = Some 0
segment_given procs p (SNew r s ty) = Some (1 + procs + s.0)
segment_given procs p _ = None

-- one more at that place
abbrev pub with_one_more : Option ℕ → List ℕ → List ℕ
with_one_more None counts = counts
with_one_more (Some at) counts = set counts at (slice_index_or counts at 0 + 1)

-- the counts of the segments, after the operations of the process
abbrev pub counted : ℕ → ℕ → List Op → List ℕ → List ℕ
counted procs p [] counts = counts
counted procs p (op ∷ ops) counts = counted procs p ops (with_one_more (segment_given procs p op) counts)

-- each operation allocates in a segment that has a count, and no count gets too large
pub record CanCount (procs p : ℕ) (ops : List Op) (counts : List ℕ) : Type 0 where
  pub few_procs : procs < 2 ^ 32
  pub few : p < 2 ^ 32
  pub known : AllByRecursion (λ op. IfSome (segment_given procs p op) (λ seg. seg < length counts)) ops
  pub room : (seg : ℕ) → seg < length counts → slice_index_or counts seg 0 + length ops < 2 ^ 32

-- for each segment of the trace the room for its serials
pub record AreSerialRooms (trace : Trace) (rooms : List ℕ) : Type 0 where
  pub count : length rooms ≡ segment_count trace
  pub each : Each (λ seg room. room ≡ serial_room trace seg) rooms

-- the shared heap that the operation makes
abbrev pub heap_made : Op → Option ℕ
heap_made (Share s) = Some s.0
heap_made _ = None

-- so many more at that place, as far as the most
abbrev pub with_more : ℕ → ℕ → Option ℕ → List ℕ → List ℕ
with_more most n None rooms = rooms
with_more most n (Some at) rooms = set rooms at (min most (slice_index_or rooms at 0 + n))

-- the rooms of the shared heaps, after the operations of a process that does so many stores
abbrev pub raised : ℕ → ℕ → List Op → List ℕ → List ℕ
raised most n [] rooms = rooms
raised most n (op ∷ ops) rooms = raised most n ops (with_more most n (heap_made op) rooms)

-- each shared heap has a room, and none is above the most
pub record CanRaise (most n : ℕ) (ops : List Op) (rooms : List ℕ) : Type 0 where
  pub known : AllByRecursion (λ op. IfSome (heap_made op) (λ s. s < length rooms)) ops
  pub low : (s : ℕ) → s < length rooms → slice_index_or rooms s 0 ≤ most
  pub fits : most + n < 2 ^ 32

-- for each shared heap of the trace enough room for its exit items
pub record AreSharedRooms (trace : Trace) (rooms : List ℕ) : Type 0 where
  pub count : length rooms ≡ trace.shared_heaps
  pub each : Each (λ s room. shared_exit_room trace s ≤ room) rooms

-- the trace of the world is of that setup, and keeps the rules
pub record IsSetupOf (setup : Setup) (world : WorldValue) : Type 0 where
  pub is : world.trace ≡ trace_of setup world.trace.operations world.trace.order
  pub rules : KeepsRules world.trace

-- for each segment from the first one that is left its blank note, and enough room for its serials
pub record AreBeginnings (world : WorldValue) (first : ℕ) (b : Beginnings) : Type 0 where
  pub same : length b.serials.items ≡ length b.notes.items
  pub all : first + length b.notes.items ≡ segment_count world.trace
  pub notes : Each (λ k note. note ≡ blank_note world.table (first + k)) b.notes.items
  pub serials : Each (λ k room. serial_room world.trace (first + k) ≤ room) b.serials.items

-- there is one to be taken
pub record CanBegin (b : Beginnings) : Type 0 where
  pub same : length b.serials.items ≡ length b.notes.items
  pub some : 0 < length b.notes.items

-- the first one was taken
pub record HasBegun (old new : Beginnings) (note : NoteValue) (objects : ℕ) : Type 0 where
  pub notes : old.notes.items ≡ note ∷ new.notes.items
  pub serials : old.serials.items ≡ objects ∷ new.serials.items

-- a process of the world can be made of these operations, bodies, room for serials and note
pub record CanOpenProcess (world : WorldValue) (setup : Setup) (pid : Pid) (ops : List Op) (bodies : List BodyValue) (objects : ℕ) (note : NoteValue) : Type 0 where
  pub of : IsSetupOf setup world
  pub known : pid.0 < process_count world.trace
  pub operations : ops ≡ operations_of world.trace pid.0
  pub made : bodies ≡ bodies_of world.trace.types (operations_of world.trace pid.0)
  pub enough : serial_room world.trace (pid.0 + 1) ≤ objects
  pub is_note : note ≡ blank_note world.table (pid.0 + 1)

-- the process stands, and nothing of it is unpublished
pub record ProcessBegins (world : WorldValue) (p : Process) : Type 0 where
  pub stands : ProcessStands world p
  pub published : p.cell.value.tail ≡ []

-- the first processes are made; the operations, bodies and beginnings of the others are left
pub record ArePending (world : WorldValue) (setup : Setup) (ops : List (Vec Op Global)) (bodies : List (VecDeque BodyValue Global)) (b : Beginnings) (made : List Process) : Type 0 where
  pub of : IsSetupOf setup world
  pub own_operations : Each (λ k own. own.items ≡ operations_of world.trace (length made + k)) ops
  pub same : length bodies ≡ length ops
  pub own_bodies : Each (λ k own. own.items ≡ bodies_of world.trace.types (operations_of world.trace (length made + k))) bodies
  pub beginnings : AreBeginnings world (1 + length made) b
  pub count : length made + length ops ≡ process_count world.trace
  pub processes : Each (λ k p. ProcessBegins world p × (p.cell.pid.0 ≡ k)) made

-- all processes stand, nothing of them is unpublished, and the beginnings of the shared heaps are left
pub record HaveOpened (world : WorldValue) (b : Beginnings) (made : List Process) : Type 0 where
  pub processes : ProcessesStand world made
  pub published : ArePublished made
  pub beginnings : AreBeginnings world (1 + process_count world.trace) b

-- a shared heap of the world can be made with the first beginning that is left
pub record CanOpenHeap (world : WorldValue) (setup : Setup) (id : SharedId) (exits : ℕ) (b : Beginnings) : Type 0 where
  pub of : IsSetupOf setup world
  pub known : id.0 < world.trace.shared_heaps
  pub enough : shared_exit_room world.trace id.0 ≤ exits
  pub beginnings : AreBeginnings world (segment_of world.trace (Shared id)) b

-- the cell stands, and the beginnings of the later ones are left
pub record HasOpenedHeap (world : WorldValue) (id : SharedId) (made : SharedRecord) (b : Beginnings) : Type 0 where
  pub keeps : SharedKeeps world.trace world.table made
  pub same : made.id ≡ id
  pub beginnings : AreBeginnings world (segment_of world.trace (Shared id) + 1) b

-- there is a room for each shared heap, the first ones are made, and the beginnings of the others are left
pub record ArePendingShared (world : WorldValue) (setup : Setup) (exits : List ℕ) (b : Beginnings) (made : List SharedRecord) : Type 0 where
  pub of : IsSetupOf setup world
  pub rooms : AreSharedRooms world.trace exits
  pub beginnings : AreBeginnings world (1 + process_count world.trace + length made) b
  pub heaps : Each (λ k s. SharedKeeps world.trace world.table s × (s.id.0 ≡ k)) made

-- the kernel can be made with the beginning of the first segment
pub record CanOpenKernel (world : WorldValue) (setup : Setup) (exits : ℕ) (b : Beginnings) : Type 0 where
  pub of : IsSetupOf setup world
  pub enough : exit_room world.trace ≤ exits
  pub beginnings : AreBeginnings world 0 b

-- the kernel stands, and the other beginnings are left
pub record HasOpenedKernel (world : WorldValue) (made : HoldingsValue) (b : Beginnings) : Type 0 where
  pub keeps : KernelKeeps world.trace world.table made
  pub beginnings : AreBeginnings world 1 b

-- the book of the setup can be made with these rooms, and with the seat of an empty journal of the table
pub record CanOpenBook (world : WorldValue) (setup : Setup) (exits events : ℕ) (tie : TableId) (seat : JournalValue) : Type 0 where
  pub of : IsSetupOf setup world
  pub enough_exits : exit_room world.trace ≤ exits
  pub enough_events : event_room world.trace ≤ events
  pub table : tie ≡ world.table
  pub empty : seat ≡ empty_journal world.table

-- the bodies, the rooms and the counts are those of the trace
pub record IsPrepared (trace : Trace) (p : Prepared) : Type 0 where
  pub bodies : map (λ made. made.items) p.bodies.items ≡ map (bodies_of trace.types) trace.operations
  pub serials : AreSerialRooms trace p.serials.items
  pub shared_exits : AreSharedRooms trace p.shared_exits.items
  pub stores : p.stores ≡ exit_room trace
  pub events : p.events ≡ event_room trace

-- all heaps can be made beside the book: setup and operations are the world's, what is prepared is for its trace, and there is a blank
-- note for each segment
pub record CanOpenHeaps (world : WorldValue) (setup : Setup) (ops : List (Vec Op Global)) (p : Prepared) (notes : List NoteValue) (b : BookRecord) : Type 0 where
  pub of : IsSetupOf setup world
  pub own_operations : Each (λ k own. own.items ≡ operations_of world.trace k) ops
  pub count : length ops ≡ process_count world.trace
  pub prepared : IsPrepared world.trace p
  pub blank : notes ≡ map (blank_note world.table) (numbers_below (segment_count world.trace))
  pub book : BookKeeps world.trace world.table b

-- all heaps stand beside that book, and nothing of the processes is unpublished
pub record HaveOpenedHeaps (world : WorldValue) (b : BookRecord) (heaps : HeapsValue) : Type 0 where
  pub stand : AllStand world heaps
  pub published : ArePublished heaps.processes
  pub book_is : heaps.book ≡ b

-- the world is a run of the trace that was read, what is prepared is for it, and the journal is empty, with a blank note for each segment
pub record CanOpenWith (world : WorldValue) (read : TraceRead) (p : Prepared) (tie : TableId) (seat : JournalValue) (notes : List NoteValue) : Type 0 where
  pub is_trace : IsTrace (meaning_of read)
  pub same : world.trace ≡ (meaning_of read).trace
  pub prepared : IsPrepared world.trace p
  pub table : tie ≡ world.table
  pub empty : seat ≡ empty_journal world.table
  pub blank : notes ≡ map (blank_note world.table) (numbers_below (segment_count world.trace))

-- the trace that is run, and the table of the journal
abbrev pub world_of : NamedTrace → FirstCells → WorldValue
world_of named first = record { trace = named.trace; table = first.heaps.book.journal.table }

-- all stands before the first event; the setup, the names and the order are those of the trace, the journal is empty, and nothing of
-- any process is unpublished
pub record IsOpened (named : NamedTrace) (first : FirstCells) : Type 0 where
  pub stands : AllStand (world_of named first) (value_of first.heaps)
  pub setup : IsSetupOf first.setup (world_of named first)
  pub names : first.names ≡ named.names
  pub order : map (λ pid. pid.0) first.order.items ≡ named.trace.order
  pub empty : first.heaps.book.journal.list ≡ []
  pub published : ArePublished first.heaps.processes.items
