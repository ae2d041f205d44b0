use Rattle.k_trace.specs.Meaning.{meaning_of}
use Rattle.k_still.proofs.Serials.{AreCounted}
use Rattle.k_still.proofs.rooms.serial_rooms.Given as goal

abbrev pub invariant-loop-pid : goal.invariant-loop-pid
invariant-loop-pid l = AreCounted (meaning_of l.trace).trace l.pid l.rooms.items
