use Rattle.k_trace.specs.Meaning.{meaning_of}
use Rattle.k_still.proofs.Raised.{AreRaised}
use Rattle.k_still.proofs.rooms.shared_rooms.Given as goal

abbrev pub invariant-loop-ops : goal.invariant-loop-ops
invariant-loop-ops l = AreRaised (meaning_of l.trace).trace l.ops-index l.most l.rooms.items
