use Rattle.k_still.proofs.Serials.{AreCountedBy}
use Rattle.k_still.proofs.rooms.count_serials.Given as goal

abbrev pub invariant-loop-op : goal.invariant-loop-op
invariant-loop-op l = AreCountedBy l.procs l.pid l.ops l.initial.counts l.op-index l.counts
