-- The points of a snapshot as tests of its lists, one element at a time.
use Rattle.std.specs.Prelude.{ℕ, ◌==◌, ◌&&◌, ◌||◌, not, nat_le, nat_lt, Bool, true, false, List, [], slice_index_or, Option, Some, None, is_none}
use Rattle.std.specs.List.{list_all}
use Rattle.k_types.specs.declared.names.Heap.{Heap}
use Rattle.k_types.specs.declared.names.Heap.TheVariants.{Kernel, User, Shared}
use Rattle.k_types.specs.declared.names.Name.{Name}
use Rattle.k_types.specs.declared.names.Phase.{Phase}
use Rattle.k_types.specs.declared.names.Phase.TheVariants.{Unmade, Populating, Frozen, Absorbed}
use Rattle.k_types.specs.Barrier.{legal_store}
use Rattle.k_types.specs.Limits.{limits_in, max_of, use_of}
use Rattle.k_types.specs.Names.{among, directory, heap_eq, kind_of, name_lt}
use Rattle.k_types.specs.Numbers.{numbers_below}
use Rattle.k_types.specs.Owners.{is_absorbed, owner_of, phase_of, shared}
use Rattle.k_types.specs.State.{Content, ExitItem, Holds, Object, Refers, Sharing, State, has, has_exit, has_share}
use Rattle.k_types.specs.Trace.{Trace, process_count, segment_of}

-- ---- names

-- The object's serial is one that its segment has given.
abbrev pub is_numbered : List ℕ → Object → Bool
is_numbered made o = nat_le o.name.serial.0 (slice_index_or made o.name.seg.0 0)

-- ---- nothing dangles

-- What the reference leads to is there.
abbrev pub is_there : List Object → Option Name → Bool
is_there objects None = true
is_there objects (Some n) = has objects n

-- What the field leads to is there.
abbrev pub content_there : List Object → Content → Bool
content_there objects (Refers r) = is_there objects r
content_there objects (Holds number) = true

-- What the fields lead to is there.
abbrev pub object_there : List Object → Object → Bool
object_there objects o = list_all (content_there objects) o.fields

-- What the registers lead to is there.
abbrev pub registers_there : List Object → List (Option Name) → Bool
registers_there objects registers = list_all (is_there objects) registers

-- The exit item's target is there.
abbrev pub target_there : List Object → ExitItem → Bool
target_there objects e = has objects e.target

-- The root of the phase is there.
abbrev pub root_there : List Object → Phase → Bool
root_there objects Unmade = true
root_there objects (Populating p) = true
root_there objects (Frozen root) = has objects root
root_there objects Absorbed = true

-- What the registers of each process lead to is there.
abbrev pub all_registers_there : Trace → State → Bool
all_registers_there trace st = list_all (λ p. registers_there st.objects (slice_index_or st.registers p [])) (numbers_below (process_count trace))

-- The root of each phase is there.
abbrev pub roots_there : Trace → State → Bool
roots_there trace st = list_all (λ s. root_there st.objects (phase_of st.phases s)) (numbers_below trace.shared_heaps)

-- Nothing dangles.
abbrev pub nothing_dangles : Trace → State → Bool
nothing_dangles trace st =
    has st.objects directory && list_all (object_there st.objects) st.objects && all_registers_there trace st
    && list_all (target_there st.objects) st.exits && roots_there trace st

-- ---- references

-- The barrier lets a reference from the one heap to the other pass.
abbrev pub passes : Heap → Heap → Bool
passes from to = legal_store (kind_of from) (kind_of to) (heap_eq from to)

-- The reference of an object of the heap passes the barrier, and has its exit item where it leaves the heap.
abbrev pub reference_guarded : (ℕ → Heap) → List ExitItem → Heap → Option Name → Bool
reference_guarded own exits from None = true
reference_guarded own exits from (Some n) = passes from (own n.seg.0) && (heap_eq from (own n.seg.0) || has_exit exits from n)

-- The same of a field.
abbrev pub content_guarded : (ℕ → Heap) → List ExitItem → Heap → Content → Bool
content_guarded own exits from (Refers r) = reference_guarded own exits from r
content_guarded own exits from (Holds number) = true

-- The same of all fields of an object.
abbrev pub object_guarded : (ℕ → Heap) → List ExitItem → Object → Bool
object_guarded own exits o = list_all (content_guarded own exits (own o.name.seg.0)) o.fields

-- ---- exit items

-- The exit item leaves its heap, and the barrier lets it pass.
abbrev pub exit_leaves : (ℕ → Heap) → ExitItem → Bool
exit_leaves own e = not (heap_eq e.heap (own e.target.seg.0)) && passes e.heap (own e.target.seg.0)

-- The exit item comes before the other, by the segments of the heaps and then by the targets.
abbrev pub exit_lt : Trace → ExitItem → ExitItem → Bool
exit_lt trace e f = nat_lt (segment_of trace e.heap) (segment_of trace f.heap) || ((segment_of trace e.heap == segment_of trace f.heap) && name_lt e.target f.target)

-- ---- what is gone

-- The register is null.
abbrev pub is_null : Option Name → Bool
is_null r = is_none r

-- The registers are null, unless their process lives.
abbrev pub registers_gone : List ℕ → ℕ → List (Option Name) → Bool
registers_gone ended p registers = not (among p ended) || list_all is_null registers

-- The sharer lives, and the shared heap was not absorbed.
abbrev pub share_stays : List ℕ → List Phase → Sharing → Bool
share_stays ended phases e = not (among e.process ended) && not (is_absorbed (phase_of phases e.heap))

-- The heap of the exit item is there.
abbrev pub heap_stays : List ℕ → List Phase → Heap → Bool
heap_stays ended phases Kernel = true
heap_stays ended phases (User p) = not (among p.0 ended)
heap_stays ended phases (Shared s) = not (is_absorbed (phase_of phases s.0))

-- The registers of those who have ended are null.
abbrev pub all_registers_gone : Trace → State → Bool
all_registers_gone trace st = list_all (λ p. registers_gone st.ended p (slice_index_or st.registers p [])) (numbers_below (process_count trace))

-- The heap of each exit item is there.
abbrev pub exits_stay : State → Bool
exits_stay st = list_all (λ e. heap_stays st.ended st.phases e.heap) st.exits

-- Nothing is left of what is gone.
abbrev pub nothing_left : Trace → State → Bool
nothing_left trace st = all_registers_gone trace st && list_all (share_stays st.ended st.phases) st.shares && exits_stay st

-- ---- phases

-- The share is one that the phase of its heap allows.
abbrev pub sharer_fits : Phase → ℕ → Bool
sharer_fits Unmade p = false
sharer_fits (Populating q) p = p == q.0
sharer_fits (Frozen root) p = true
sharer_fits Absorbed p = true

-- The same, with the heap of the share.
abbrev pub share_fits : List Phase → Sharing → Bool
share_fits phases e = sharer_fits (phase_of phases e.heap) e.process

-- The phase is that of a heap that was made.
abbrev pub is_made : Phase → Bool
is_made Unmade = false
is_made (Populating q) = true
is_made (Frozen root) = true
is_made Absorbed = true

-- A heap that owns an object was made.
abbrev pub owner_made : List Phase → Heap → Bool
owner_made phases Kernel = true
owner_made phases (User p) = true
owner_made phases (Shared s) = is_made (phase_of phases s.0)

-- The owner of the object was made.
abbrev pub object_fits : (ℕ → Heap) → List Phase → Object → Bool
object_fits own phases o = owner_made phases (own o.name.seg.0)

-- Who populates the heap of that number shares it, unless it has ended, and a frozen heap owns its root.
abbrev pub phase_fits : (ℕ → Heap) → List ℕ → List Sharing → ℕ → Phase → Bool
phase_fits own ended shares s Unmade = true
phase_fits own ended shares s (Populating q) = among q.0 ended || has_share shares q.0 s
phase_fits own ended shares s (Frozen root) = heap_eq (own root.seg.0) (shared s)
phase_fits own ended shares s Absorbed = true

-- That holds of each shared heap.
abbrev pub all_phases_fit : Trace → State → Bool
all_phases_fit trace st = list_all (λ s. phase_fits (owner_of trace st) st.ended st.shares s (phase_of st.phases s)) (numbers_below trace.shared_heaps)

-- The phases agree with shares, objects and roots.
abbrev pub phases_agree : Trace → State → Bool
phases_agree trace st =
    list_all (share_fits st.phases) st.shares && list_all (object_fits (owner_of trace st) st.phases) st.objects && all_phases_fit trace st

-- ---- uses

-- The use of the limit is at most its maximum.
abbrev pub use_fits : Trace → State → ℕ → Bool
use_fits trace st m = nat_le (use_of trace st m) (max_of (limits_in trace st) m)
