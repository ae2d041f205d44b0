-- What the book has counted of what a process or a heap holds, so that it is there when it is let go.
use Rattle.std.specs.Prelude.{◌≡◌, ◌<◌, ◌≤◌, ℕ, ◌+◌, ◌-◌, not, IsTrue, IsFalse, slice_index_or, Some}
use Rattle.k_types.specs.declared.names.Name.{Name}
use Rattle.k_types.specs.declared.names.Heap.{Heap}
use Rattle.k_types.specs.Names.{heap_eq}
use Rattle.k_types.specs.Trace.{Trace, limit_of}
use Rattle.k_types.specs.State.{State}
use Rattle.k_types.specs.Owners.{user}
use Rattle.k_types.specs.Cells.{part, book_part, pins_of}
use Rattle.k_laws.specs.CellChanges.{collected}
use Rattle.k_laws.specs.BookChanges.{owner_in, bytes_in, charge_in, has_way_into, registers_in, shared_by}
use Rattle.k_laws.specs.CellAfter.{register_in}

-- an object of another heap that a register of the process holds is pinned, as often as its registers hold it
pub record PinsAreCounted (trace : Trace) (st : State) (p : ℕ) : Type 0 where
  pub one : (r : ℕ) (n : Name) → register_in (part trace st) p r ≡ Some n →
      IsFalse (heap_eq (user p) (owner_in trace (book_part trace st) n.seg.0)) → 0 < (book_part trace st).pins n
  pub all : (n : Name) → IsFalse (heap_eq (user p) (owner_in trace (book_part trace st) n.seg.0)) →
      pins_of (registers_in (part trace st (user p)).process) n ≤ (book_part trace st).pins n

-- an object to which a heap has an exit item is entered, and twice where two heaps have one
pub record EntriesAreCounted (trace : Trace) (st : State) : Type 0 where
  pub one : (h : Heap) (n : Name) → IsTrue ((part trace st h).exits n) → 0 < (book_part trace st).entries n
  pub two : (h g : Heap) (n : Name) → IsFalse (heap_eq h g) → IsTrue ((part trace st h).exits n) → IsTrue ((part trace st g).exits n) →
      1 < (book_part trace st).entries n

-- at the process's limit its whole charge is charged directly, and so is what the end of its heap's collection frees: the bytes
-- of the freed objects, and those of the shared heaps into which it has no way left
pub record ChargesAreCounted (trace : Trace) (st : State) (p : ℕ) : Type 0 where
  pub whole : charge_in trace (book_part trace st) (part trace st (user p)) p ≤ slice_index_or (book_part trace st).direct (limit_of trace p) 0
  pub freed : (bytes_in (part trace st (user p)) - bytes_in (collected (part trace st (user p))))
      + shared_by trace (book_part trace st) p (λ t. not (has_way_into (owner_in trace (book_part trace st)) (book_part trace st) (part trace st (user p)) p t))
      ≤ slice_index_or (book_part trace st).direct (limit_of trace p) 0
