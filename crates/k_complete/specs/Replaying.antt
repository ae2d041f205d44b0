-- The operations of a trace in the order of the file.
use Rattle.std.specs.Prelude.{◌≡◌, ◌<◌, ℕ, List, [], ◌++◌, length, map}
use Rattle.k_types.specs.declared.names.Pid.{Pid}
use Rattle.k_types.specs.FileOrder.{events_of, file_order, next_operation}
use Rattle.k_types.specs.Steps.{state_after}
use Rattle.k_operate.specs.k_process.Heaps.{HeapsValue}
use Rattle.k_operate.specs.k_process.BetweenSteps.{AllStand, ArePublished}
use Rattle.k_operate.specs.k_process.Worlds.{WorldValue}
use Rattle.k_operate.specs.k_process.Over.{AllMet}

-- all stand, there is a process of that number, and nothing of any process is unpublished
pub record CanDoLine (world : WorldValue) (heaps : HeapsValue) (at : ℕ) : Type 0 where
  pub stand : AllStand world heaps
  pub inside : at < length heaps.processes
  pub published : ArePublished heaps.processes

-- all stand still, nothing of any process is unpublished, and the newest events are those of the next operation of the process of that
-- number, if it has one
pub record HasDoneLine (world : WorldValue) (at : ℕ) (old new : HeapsValue) : Type 0 where
  pub stand : AllStand world new
  pub published : ArePublished new.processes
  pub journal : new.book.journal.list ≡ old.book.journal.list
      ++ events_of world.trace (state_after world.trace old.book.journal.list) at (next_operation world.trace (state_after world.trace old.book.journal.list) at)

-- all stands and nothing has happened yet, and the order is the file's
pub record CanReplay (world : WorldValue) (heaps : HeapsValue) (order : List Pid) : Type 0 where
  pub stand : AllStand world heaps
  pub published : ArePublished heaps.processes
  pub empty : heaps.book.journal.list ≡ []
  pub order_is : map (λ p. p.0) order ≡ world.trace.order

-- each cell has met the journal, which is the history of the trace in the order of the file
pub record HasReplayed (world : WorldValue) (heaps : HeapsValue) : Type 0 where
  pub met : AllMet world heaps
  pub journal : heaps.book.journal.list ≡ file_order world.trace
