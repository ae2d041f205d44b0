-- What a history counts.
use Rattle.std.specs.List.{list_any}
use Rattle.std.specs.Prelude.{ℕ, ◌<◌, ◌≤◌, ◌==◌, IsTrue, Bool, true, false, List, if◌then◌else◌}
use Rattle.k_types.specs.declared.names.Heap.{Heap}
use Rattle.k_types.specs.declared.names.Heap.TheVariants.{Kernel, Shared}
use Rattle.k_types.specs.declared.op.Op.{Op}
use Rattle.k_types.specs.declared.op.Op.TheVariants.{New, KNew, SNew, Store, Collect, KCollect, Share}
use Rattle.k_types.specs.declared.event.Event.{Event}
use Rattle.k_types.specs.declared.event.Event.TheVariants.{Done, Ended, Absorbed, Closing}
use Rattle.k_types.specs.Names.{heap_eq}
use Rattle.k_types.specs.Totals.{total}
use Rattle.k_types.specs.Trace.{Trace, process_count, segment_of}
use Rattle.k_types.specs.State.{ExitItem}
use Rattle.k_types.specs.Owners.{user}
use Rattle.k_types.specs.Steps.{done_by}

-- 1 where the test holds, else 0
abbrev pub one_if : Bool → ℕ
one_if b = if b then 1 else 0

-- the operation is a store
abbrev pub is_store : Op → Bool
is_store (Store base i value) = true
is_store _ = false

-- how many of the operations are stores
abbrev pub stores_in : List Op → ℕ
stores_in ops = total (λ op. one_if (is_store op)) ops

-- how many stores the history has done for the process, refused ones too
abbrev pub stores_by : ℕ → List Event → ℕ
stores_by p history = stores_in (done_by p history)

-- the event is an operation of a process
abbrev pub is_operation : Event → Bool
is_operation (Done pid op said) = true
is_operation _ = false

-- how many operations a history has
abbrev pub operation_count : List Event → ℕ
operation_count history = total (λ event. one_if (is_operation event)) history

-- the event is a store
abbrev pub has_stored : Event → Bool
has_stored (Done pid op said) = is_store op
has_stored _ = false

-- how many stores it has
abbrev pub store_count : List Event → ℕ
store_count history = total (λ event. one_if (has_stored event)) history

-- the operation allocates in the segment
abbrev pub allocates_in : Trace → ℕ → ℕ → Op → Bool
allocates_in trace seg p (New r ty) = segment_of trace (user p) == seg
allocates_in trace seg p (KNew r ty) = segment_of trace Kernel == seg
allocates_in trace seg p (SNew r s ty) = segment_of trace (Shared s) == seg
allocates_in trace seg p _ = false

-- the event allocates in the segment
abbrev pub has_allocated_in : Trace → ℕ → Event → Bool
has_allocated_in trace seg (Done pid op said) = allocates_in trace seg pid.0 op
has_allocated_in trace seg _ = false

-- how many allocations in the segment the history has, refused ones too
abbrev pub allocation_count : Trace → ℕ → List Event → ℕ
allocation_count trace seg history = total (λ event. one_if (has_allocated_in trace seg event)) history

-- the operation allocates
abbrev pub is_allocation : Op → Bool
is_allocation (New r ty) = true
is_allocation (KNew r ty) = true
is_allocation (SNew r s ty) = true
is_allocation _ = false

-- the event allocates
abbrev pub has_allocated : Event → Bool
has_allocated (Done pid op said) = is_allocation op
has_allocated _ = false

-- how many allocations the history has, refused ones too
abbrev pub allocations : List Event → ℕ
allocations history = total (λ event. one_if (has_allocated event)) history

-- the operation begins a collection
abbrev pub begins_collection : Op → Bool
begins_collection Collect = true
begins_collection KCollect = true
begins_collection _ = false

-- the event begins a collection
abbrev pub has_begun : Event → Bool
has_begun (Done pid op said) = begins_collection op
has_begun Closing = true
has_begun _ = false

-- how many collections the history begins
abbrev pub begun_count : List Event → ℕ
begun_count history = total (λ event. one_if (has_begun event)) history

-- the event ends a collection
abbrev pub is_end : Event → Bool
is_end (Ended h objects bytes exits shares) = true
is_end _ = false

-- how many collections the history ends
abbrev pub ended_count : List Event → ℕ
ended_count history = total (λ event. one_if (is_end event)) history

-- the event absorbs a shared heap
abbrev pub is_absorption : Event → Bool
is_absorption (Absorbed s) = true
is_absorption _ = false

-- how many absorptions the history has
abbrev pub absorbed_count : List Event → ℕ
absorbed_count history = total (λ event. one_if (is_absorption event)) history

-- the event is the closing
abbrev pub is_closing_event : Event → Bool
is_closing_event Closing = true
is_closing_event _ = false

-- how many closings it has
abbrev pub closing_count : List Event → ℕ
closing_count history = total (λ event. one_if (is_closing_event event)) history

-- how many exit items the heap has
abbrev pub exit_count : List ExitItem → Heap → ℕ
exit_count exits h = total (λ e. one_if (heap_eq e.heap h)) exits

-- the operation makes the shared heap, if it isn't refused
abbrev pub is_share_of : ℕ → Op → Bool
is_share_of s (Share t) = t.0 == s
is_share_of s _ = false

-- the process, one of the trace's, has taken the shared heap, and done at least so many stores
abbrev pub MadeBy : Trace → ℕ → List Event → ℕ → ℕ → Type 0
MadeBy trace s history exits p = (p < process_count trace) × IsTrue (list_any (is_share_of s) (done_by p history)) × (exits ≤ stores_by p history)

-- what is counted of an event: for an operation by its process and itself, for any other nothing
abbrev pub of_operation : (ℕ → Op → ℕ) → Event → ℕ
of_operation f (Done pid op said) = f pid.0 op
of_operation f _ = 0
