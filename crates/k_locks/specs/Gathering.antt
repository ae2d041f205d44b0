-- What is asked where cells are taken from behind their locks.
use Rattle.std.specs.Prelude.{◌≡◌, ℕ, ◌≤◌, List, Option, None, [], replicate}
use Rattle.k_types.specs.Trace.{process_count}
use Rattle.k_process.specs.k_book.Books.{BookRecord}
use Rattle.k_process.specs.k_shared.SharedHeaps.{SharedRecord}
use Rattle.k_process.specs.declared.process.Process.{Process}
use Rattle.k_process.specs.Worlds.{WorldValue}

-- there are as many locks as processes, as many free places, and an empty list with room for them
pub record CanGather (world : WorldValue) (count : ℕ) (free : List (Option Process)) (into : List Process) (capacity : ℕ) (book : BookRecord) : Type 0 where
  pub locks : count ≡ process_count world.trace
  pub places : free ≡ replicate (process_count world.trace) None
  pub empty : into ≡ []
  pub room : process_count world.trace ≤ capacity
  pub table : book.journal.table ≡ world.table

-- the same for shared heaps
pub record CanGatherShared (world : WorldValue) (count : ℕ) (free : List (Option SharedRecord)) (into : List SharedRecord) (capacity : ℕ) (book : BookRecord) : Type 0 where
  pub locks : count ≡ world.trace.shared_heaps
  pub places : free ≡ replicate world.trace.shared_heaps None
  pub empty : into ≡ []
  pub room : world.trace.shared_heaps ≤ capacity
  pub table : book.journal.table ≡ world.table
