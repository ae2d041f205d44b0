-- A run whose heaps and book stand behind locks.
use Rattle.std.specs.Prelude.{◌≡◌, ℕ, List}
use Rattle.k_types.specs.declared.setup.Setup.{Setup}
use Rattle.k_types.specs.Trace.{process_count, trace_of}
use Rattle.k_trace.specs.Named.{DeclaredNames}
use Rattle.k_turns.specs.Values.{AreFree, PassValue, TurnsValue}
use Rattle.k_outcome.specs.k_process.Worlds.{WorldValue}
use Rattle.k_outcome.specs.Listed.{AreRoomsFor}
use Rattle.k_locks.specs.declared.rooms.EndRooms.{EndRooms}
use Rattle.k_locks.specs.Rooms.{AreEndRooms}

-- what callers see of a run: the names that its trace declares, and its setup
pub record RunValue : Type 0 where
  pub names : DeclaredNames
  pub setup : Setup

-- there is a lock for each process and each shared heap of the trace, there are rooms to end the run and for what a report lists of it,
-- the passes are free, and the setup is the trace's
pub record HoldsRun (world : WorldValue) (process_locks shared_locks : ℕ) (rooms : EndRooms) (report_rooms : List ℕ) (turns : TurnsValue) (passes : List PassValue) (setup : Setup) : Type 0 where
  pub processes : process_locks ≡ process_count world.trace
  pub shared : shared_locks ≡ world.trace.shared_heaps
  pub have_rooms : AreEndRooms (process_count world.trace) world.trace.shared_heaps rooms
  pub report : AreRoomsFor world.trace report_rooms
  pub are_free : AreFree turns passes
  pub setup_is : world.trace ≡ trace_of setup world.trace.operations world.trace.order
