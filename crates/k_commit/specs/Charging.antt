-- Bytes that are charged to a process.
use Rattle.std.specs.Prelude.{◌≡◌, ◌<◌, ℕ, None, Some}
use Rattle.k_types.specs.declared.event.Fault.TheVariants.{LimitFull}
use Rattle.k_types.specs.declared.names.LimitId.{LimitId}
use Rattle.k_types.specs.Agree.{book_shown_by}
use Rattle.k_types.specs.Trace.{Trace, limit_of, process_count}
use Rattle.k_book.specs.Books.{BookRecord}
use Rattle.k_book.specs.k_laws.BookChanges.{with_charge}
use Rattle.k_agree.specs.Answers.{size_fault_in}
use Rattle.k_commit.specs.Standing.{BookStands}

-- the book stands, and the process is one of the trace's
pub record CanCharge (trace : Trace) (book : BookRecord) (p : ℕ) : Type 0 where
  pub stands : BookStands trace book
  pub known : p < process_count trace

-- so many bytes fit for the process, and are charged at its limit; nothing else has changed
pub record HasCharged (trace : Trace) (old new : BookRecord) (p bytes : ℕ) : Type 0 where
  pub book_is : new ≡ record old { value = record old.value { direct = new.value.direct } }
  pub charged : book_shown_by new.value ≡ with_charge (limit_of trace p) bytes (book_shown_by old.value)
  pub fits : size_fault_in trace (book_shown_by old.value) p bytes ≡ None

-- so many bytes do not fit for the process at that limit, and nothing has changed
pub record IsFullFor (trace : Trace) (old new : BookRecord) (p bytes : ℕ) (limit : LimitId) : Type 0 where
  pub book_is : new ≡ old
  pub full : size_fault_in trace (book_shown_by old.value) p bytes ≡ Some (LimitFull limit)
