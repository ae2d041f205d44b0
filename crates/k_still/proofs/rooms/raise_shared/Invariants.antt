use Rattle.k_still.proofs.Raised.{AreRaisedBy}
use Rattle.k_still.proofs.rooms.raise_shared.Given as goal

abbrev pub invariant-loop-op : goal.invariant-loop-op
invariant-loop-op l = AreRaisedBy l.most l.stores l.ops l.initial.rooms l.op-index l.rooms
