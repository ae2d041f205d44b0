-- The three numbers of a book, and of the machine after a history.
use Rattle.std.specs.Prelude.{ℕ, List, length}
use Rattle.k_types.specs.declared.event.Event.{Event}
use Rattle.k_types.specs.Limits.{use_of}
use Rattle.k_types.specs.State.{State}
use Rattle.k_types.specs.Steps.{state_after}
use Rattle.k_types.specs.Trace.{Trace, process_count}
use Rattle.k_limits.specs.Limits.{use_at}
use Rattle.k_shares.specs.Sharers.{living_of}
use Rattle.k_book.specs.Books.{BookRecord, book_limits}
use Rattle.k_watch.specs.declared.sample.Sample.{Sample}
use Rattle.k_watch.specs.Samples.{sample}

-- how many processes of the book live
abbrev pub living_in : BookRecord → ℕ
living_in b = living_of b.value.ended (length b.procs)

-- the length of the book's journal, what is used at its root limit, and how many of its processes live
abbrev pub numbers_of : BookRecord → Sample
numbers_of b = sample (length b.journal.list) (use_at (book_limits b) 0) (living_in b)

-- the same of the machine in a state after so many events
abbrev pub numbers_in : Trace → ℕ → State → Sample
numbers_in trace events st = sample events (use_of trace st 0) (living_of st.ended (process_count trace))

-- the same of the machine after a history
abbrev pub numbers_after : Trace → List Event → Sample
numbers_after trace history = numbers_in trace (length history) (state_after trace history)
