-- The book's value when a heap becomes the kernel's, by the end of its process or by an absorption. What changes is in the order in
-- which code changes it; the values between are those after each drain.
use Rattle.std.specs.Prelude.{◌≡◌, ℕ, ◌+◌, ◌-◌, ◌==◌, ◌&&◌, ◌||◌, not, List, filter, slice_index_or, slice_set, Option, if◌then◌else◌}
use Rattle.k_laws.specs.k_types.declared.names.Heap.{Heap}
use Rattle.k_laws.specs.k_types.declared.names.Heap.TheVariants.{Kernel}
use Rattle.k_laws.specs.k_types.declared.names.Name.{Name}
use Rattle.k_laws.specs.k_types.declared.names.Phase.TheVariants.{Absorbed}
use Rattle.k_laws.specs.k_types.Agree.{BookValue, CellValue}
use Rattle.k_laws.specs.k_types.Counted.{counted}
use Rattle.k_laws.specs.k_types.Cells.{pins_of}
use Rattle.k_laws.specs.k_types.Names.{among, heap_eq, name_among}
use Rattle.k_laws.specs.k_types.Numbers.{numbers_below}
use Rattle.k_laws.specs.k_types.Owners.{object_bytes, shared, user}
use Rattle.k_laws.specs.k_types.Reach.{is_shared_heap}
use Rattle.k_laws.specs.k_types.State.{has_share}
use Rattle.k_laws.specs.k_types.Totals.{total}
use Rattle.k_laws.specs.k_types.Trace.{Trace, limit_of, segment_of}
use Rattle.k_laws.specs.Counts.{one_if}
use Rattle.k_laws.specs.BookChanges.{registers_in}
use Rattle.k_agree.specs.Ending.{HasLeft}

-- the exit items of the cell into the heap g
abbrev pub leading_into : (ℕ → Heap) → Heap → CellValue → List Name
leading_into own g value = filter (λ n. heap_eq (own n.seg.0) g) value.exits

-- the exit items of the heap that are passed to the kernel and new there: those into shared heaps that the kernel has not
abbrev pub new_to_kernel : (ℕ → Heap) → CellValue → CellValue → List Name
new_to_kernel own heap kernel = filter (λ n. is_shared_heap (own n.seg.0) && not (name_among n kernel.exits)) heap.exits

-- each of these objects is entered once more, and no other
abbrev pub HasEntered : List Name → BookValue → BookValue → Type 0
HasEntered come before after = (n : Name) → counted after.entries n ≡ counted before.entries n + one_if (name_among n come)

-- the pins of what these registers of the process hold are let go, each as often as it is held
abbrev pub HasUnpinned : (ℕ → Heap) → ℕ → List (Option Name) → BookValue → BookValue → Type 0
HasUnpinned own p registers before after =
    (n : Name) → counted after.pins n + (if heap_eq (user p) (own n.seg.0) then 0 else pins_of registers n) ≡ counted before.pins n

-- what the process is charged, by its cell and the book: the bytes of its objects, and those of each heap that it shares in full
abbrev pub charged : Trace → BookValue → CellValue → ℕ → ℕ
charged trace book value p =
    total object_bytes value.objects
    + total (λ t. if has_share book.shares p t then slice_index_or book.shared_bytes t 0 else 0) (numbers_below trace.shared_heaps)

-- the book after the absorption of the shared heap. It has left the heap's exit items one by one, then the kernel's into the heap;
-- the heap is absorbed and has no bytes, and its segment is the kernel's; all else is as it was
pub record HasAbsorbed (trace : Trace) (own : ℕ → Heap) (s : ℕ) (heap kernel : CellValue) (before drained after : BookValue) : Type 0 where
  pub left : HasLeft heap.exits before drained
  pub cut : HasLeft (leading_into own (shared s) kernel) drained after
  pub phases : after.phases ≡ slice_set before.phases s Absorbed
  pub bytes : after.shared_bytes ≡ slice_set before.shared_bytes s 0
  pub homes : after.homes ≡ slice_set before.homes (segment_of trace (shared s)) Kernel
  pub rest : after ≡ record before {
    phases = after.phases;
    shared_bytes = after.shared_bytes;
    homes = after.homes;
    entries = after.entries;
  }

-- the book after the end of the process. It has left the heap's exit items one by one, then the kernel's into the heap, and entered
-- what the kernel is passed where that is new to it; the pins of the registers are let go; the charge is credited and the shares
-- are dropped; the segment is the kernel's, and the process has ended; all else is as it was
pub record HasEnded (trace : Trace) (own : ℕ → Heap) (p : ℕ) (heap kernel : CellValue) (before drained without after : BookValue) : Type 0 where
  pub left : HasLeft heap.exits before drained
  pub cut : HasLeft (leading_into own (user p) kernel) drained without
  pub passed : HasEntered (new_to_kernel own heap kernel) without after
  pub unpinned : HasUnpinned own p (registers_in heap.process) before after
  pub credited : after.direct ≡ slice_set before.direct (limit_of trace p) (slice_index_or before.direct (limit_of trace p) 0 - charged trace before heap p)
  pub shares : (q t : ℕ) → has_share after.shares q t ≡ (has_share before.shares q t && not (q == p))
  pub homes : after.homes ≡ slice_set before.homes (segment_of trace (user p)) Kernel
  pub ended : (q : ℕ) → among q after.ended ≡ (among q before.ended || (p == q))
  pub rest : after ≡ record before {
    ended = after.ended;
    shares = after.shares;
    direct = after.direct;
    homes = after.homes;
    entries = after.entries;
    pins = after.pins;
  }

-- there are such values for an absorption
abbrev pub CanBeAbsorbed : Trace → (ℕ → Heap) → ℕ → CellValue → CellValue → BookValue → Type 0
CanBeAbsorbed trace own s heap kernel before =
    (drained : BookValue) × (after : BookValue) × HasAbsorbed trace own s heap kernel before drained after

-- there are such values for the end of a process
abbrev pub CanBeEnded : Trace → (ℕ → Heap) → ℕ → CellValue → CellValue → BookValue → Type 0
CanBeEnded trace own p heap kernel before =
    (drained : BookValue) × (without : BookValue) × (after : BookValue) × HasEnded trace own p heap kernel before drained without after
