-- What changes of the state change in the book's part, as functions of parts alone.
use Rattle.std.specs.Prelude.{ℕ, ◌+◌, ◌-◌, ◌==◌, ◌&&◌, ◌||◌, nat_le, not, Bool, true, false, List, [], slice_index_or, slice_set, Option, Some, None, if◌then◌else◌}
use Rattle.std.specs.List.{list_any}
use Rattle.k_types.specs.declared.names.Name.{Name}
use Rattle.k_types.specs.declared.names.Heap.{Heap}
use Rattle.k_types.specs.declared.names.Heap.TheVariants.{Kernel}
use Rattle.k_types.specs.declared.names.Phase.{Phase}
use Rattle.k_types.specs.declared.names.Phase.TheVariants.{Absorbed}
use Rattle.k_types.specs.Names.{name_eq, heap_eq, leads_to}
use Rattle.k_types.specs.Totals.{total}
use Rattle.k_types.specs.Numbers.{numbers_below}
use Rattle.k_types.specs.Trace.{Trace, process_count, limit_of}
use Rattle.k_types.specs.State.{Content, Refers, Holds, refers}
use Rattle.k_types.specs.Owners.{user, shared, owner_of_shared, object_bytes, phase_of}
use Rattle.k_types.specs.Reach.{is_shared_heap}
use Rattle.k_types.specs.Replies.{is_populating}
use Rattle.k_types.specs.Cells.{BookPart, CellPart, ProcessPart, pins_of}
use Rattle.k_laws.specs.CellChanges.{reached_in, collected}

-- the owner of a segment, as the book tells it
abbrev pub owner_in : Trace → BookPart → ℕ → Heap
owner_in trace b seg =
    if seg == 0 then Kernel
    else if nat_le seg (process_count trace) then (if b.ended (seg - 1) then Kernel else user (seg - 1))
    else owner_of_shared b.phases (seg - 1 - process_count trace)

-- how often a register of the process that holds this counts among the pins of the object
abbrev pub pins_by : (ℕ → Heap) → ℕ → Option Name → Name → ℕ
pins_by own p held n = if heap_eq (user p) (own n.seg.0) then 0 else (if leads_to held n then 1 else 0)

-- a register of the process that held the one now holds the other
abbrev pub with_pin_moved : (ℕ → Heap) → ℕ → Option Name → Option Name → BookPart → BookPart
with_pin_moved own p old new b = record b { pins = λ n. (b.pins n + pins_by own p new n) - pins_by own p old n }

-- so many bytes more are charged directly at the limit
abbrev pub with_charge : ℕ → ℕ → BookPart → BookPart
with_charge m bytes b = record b { direct = slice_set b.direct m (slice_index_or b.direct m 0 + bytes) }

-- so many bytes fewer are charged directly at the limit
abbrev pub with_credit : ℕ → ℕ → BookPart → BookPart
with_credit m bytes b = record b { direct = slice_set b.direct m (slice_index_or b.direct m 0 - bytes) }

-- the shared heap has so many bytes more
abbrev pub with_shared_bytes : ℕ → ℕ → BookPart → BookPart
with_shared_bytes s bytes b = record b { shared_bytes = slice_set b.shared_bytes s (slice_index_or b.shared_bytes s 0 + bytes) }

-- one heap more has an exit item to the object, where the item is new
abbrev pub with_entry : Bool → Name → BookPart → BookPart
with_entry is_new y b = record b { entries = λ n. b.entries n + (if is_new && name_eq y n then 1 else 0) }

-- the shared heap is in the phase
abbrev pub with_phase : ℕ → Phase → BookPart → BookPart
with_phase s phase b = record b { phases = slice_set b.phases s phase }

-- the process shares the heap
abbrev pub with_share : ℕ → ℕ → BookPart → BookPart
with_share p s b = record b { shares = λ q t. b.shares q t || ((p == q) && (s == t)) }

-- the limit has this maximum
abbrev pub with_max : ℕ → ℕ → BookPart → BookPart
with_max m max b = record b { maxima = slice_set b.maxima m max }

-- the closing has happened
abbrev pub when_closed : BookPart → BookPart
when_closed b = record b { closed = true }

-- one heap fewer has an exit item to each object that the test names
abbrev pub without_entries : (Name → Bool) → BookPart → BookPart
without_entries gone b = record b { entries = λ n. b.entries n - (if gone n then 1 else 0) }

-- the shares of the process into the heaps that the test doesn't keep go
abbrev pub keeping_shares : ℕ → (ℕ → Bool) → BookPart → BookPart
keeping_shares p stays b = record b { shares = λ q t. b.shares q t && (not (q == p) || stays t) }

-- what the process shares of the bytes of the heaps that the test names
abbrev pub shared_by : Trace → BookPart → ℕ → (ℕ → Bool) → ℕ
shared_by trace b p test = total (λ t. if b.shares p t && test t then slice_index_or b.shared_bytes t 0 else 0) (numbers_below trace.shared_heaps)

-- the bytes of the cell's objects
abbrev pub bytes_in : CellPart → ℕ
bytes_in c = total object_bytes c.objects

-- what a living process is charged, by its cell's part and the book's
abbrev pub charge_in : Trace → BookPart → CellPart → ℕ → ℕ
charge_in trace b heap p = bytes_in heap + shared_by trace b p (λ t. true)

-- the registers of the process, none where the cell has none
abbrev pub registers_in : Option ProcessPart → List (Option Name)
registers_in None = []
registers_in (Some q) = q.registers

-- the reference is into the shared heap
abbrev pub leads_into : (ℕ → Heap) → ℕ → Option Name → Bool
leads_into own t None = false
leads_into own t (Some n) = heap_eq (own n.seg.0) (shared t)

-- the field refers into the shared heap
abbrev pub content_into : (ℕ → Heap) → ℕ → Content → Bool
content_into own t (Refers r) = leads_into own t r
content_into own t (Holds n) = false

-- the process still has a way into the shared heap, after its collection has reached what it reached
abbrev pub has_way_into : (ℕ → Heap) → BookPart → CellPart → ℕ → ℕ → Bool
has_way_into own b heap p t =
    list_any (leads_into own t) (registers_in heap.process)
    || list_any (λ x. list_any (content_into own t) x.fields) (reached_in heap)
    || is_populating (phase_of b.phases t) p

-- the exit items that a collection drops
abbrev pub drops : CellPart → Name → Bool
drops heap n = heap.exits n && not (list_any (λ x. refers x n) (reached_in heap))

-- the book after the end of a collection of the process's heap: its exit items and shares that are not needed are gone, and the
-- bytes of freed objects and of dropped shares are credited
abbrev pub when_collected : Trace → (ℕ → Heap) → ℕ → CellPart → BookPart → BookPart
when_collected trace own p heap b =
    keeping_shares p (has_way_into own b heap p)
    (with_credit (limit_of trace p) ((bytes_in heap - bytes_in (collected heap)) + shared_by trace b p (λ t. not (has_way_into own b heap p t)))
    (without_entries (drops heap) b))

-- the registers of the process no longer count among the pins
abbrev pub without_pins : (ℕ → Heap) → ℕ → List (Option Name) → BookPart → BookPart
without_pins own p registers b = record b { pins = λ n. b.pins n - (if heap_eq (user p) (own n.seg.0) then 0 else pins_of registers n) }

-- the exit items of the heap that goes and of the kernel that don't become or stay the kernel's
abbrev pub lost_with : (ℕ → Heap) → CellPart → CellPart → Name → Bool
lost_with own heap kernel n = heap.exits n && not (is_shared_heap (own n.seg.0) && not (kernel.exits n))

-- the kernel's exit items into the heap that goes
abbrev pub led_back : (ℕ → Heap) → Heap → CellPart → Name → Bool
led_back own g kernel n = kernel.exits n && heap_eq (own n.seg.0) g

-- the book after the end of the process: its shares, pins and lost exit items are gone, and its whole charge is credited
abbrev pub when_ended : Trace → (ℕ → Heap) → ℕ → CellPart → CellPart → BookPart → BookPart
when_ended trace own p heap kernel b =
    record (keeping_shares p (λ t. false)
    (with_credit (limit_of trace p) (charge_in trace b heap p)
    (without_pins own p (registers_in heap.process)
    (without_entries (led_back own (user p) kernel) (without_entries (lost_with own heap kernel) b))))) { ended = λ q. b.ended q || (p == q) }

-- the book after the absorption of the shared heap
abbrev pub when_taken : (ℕ → Heap) → ℕ → CellPart → CellPart → BookPart → BookPart
when_taken own s heap kernel b =
    record (with_phase s Absorbed (without_entries (led_back own (shared s) kernel) (without_entries heap.exits b))) { shared_bytes = slice_set b.shared_bytes s 0 }
