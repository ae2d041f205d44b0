-- A process that comes to share a frozen heap.
use Rattle.std.specs.Prelude.{◌≡◌, ◌<◌, ℕ, None, Some, IsFalse, if◌then◌else◌, slice_index_or}
use Rattle.k_types.specs.declared.event.Fault.TheVariants.{LimitFull}
use Rattle.k_types.specs.declared.names.LimitId.{LimitId}
use Rattle.k_types.specs.Agree.{book_shown_by}
use Rattle.k_types.specs.State.{has_share}
use Rattle.k_types.specs.Trace.{Trace}
use Rattle.k_commit.specs.k_book.Books.{BookRecord}
use Rattle.k_laws.specs.Answers.{size_fault_in}
use Rattle.k_laws.specs.BookAfter.{book_attached}
use Rattle.k_commit.specs.Charging.{CanCharge}

-- the book stands, and the process and the shared heap are of the trace
pub record CanAttach (trace : Trace) (book : BookRecord) (p s : ℕ) : Type 0 where
  pub charge : CanCharge trace book p
  pub known : s < trace.shared_heaps

-- the process shares the heap, and is charged its bytes where it did not before; nothing else has changed
pub record HasAttached (trace : Trace) (old new : BookRecord) (p s : ℕ) : Type 0 where
  pub book_is : new ≡ record old { value = record old.value { direct = new.value.direct; shares = new.value.shares } }
  pub attached : book_shown_by new.value ≡ book_attached trace p s (book_shown_by old.value)
  pub fits : (if has_share old.value.shares p s then None else size_fault_in trace (book_shown_by old.value) p (slice_index_or old.value.shared_bytes s 0)) ≡ None

-- the process does not share the heap, whose bytes do not fit for it at that limit; and nothing has changed
pub record CannotAttach (trace : Trace) (old new : BookRecord) (p s : ℕ) (limit : LimitId) : Type 0 where
  pub book_is : new ≡ old
  pub apart : IsFalse (has_share old.value.shares p s)
  pub full : size_fault_in trace (book_shown_by old.value) p (slice_index_or old.value.shared_bytes s 0) ≡ Some (LimitFull limit)
