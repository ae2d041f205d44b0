-- What an event adds to the counts of a journal.
use Rattle.std.specs.Prelude.{ℕ}
use Rattle.k_types.specs.declared.event.Event.{Event}
use Rattle.k_types.specs.declared.event.Event.TheVariants.{Done, Ended}
use Rattle.k_types.specs.declared.event.Reply.TheVariants.{Refused}

-- one for an operation
abbrev pub operations_in : Event → ℕ
operations_in (Done pid op reply) = 1
operations_in _ = 0

-- one for an operation that was answered by a fault
abbrev pub faults_in : Event → ℕ
faults_in (Done pid op (Refused fault)) = 1
faults_in _ = 0

-- the objects that the end of a collection freed
abbrev pub freed_in : Event → ℕ
freed_in (Ended heap objects bytes exits shares) = objects
freed_in _ = 0
