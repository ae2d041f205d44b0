use Rattle.std.proofs.Common.{◌≡◌, drop}
use Rattle.k_types.specs.Replies.{first_fault}
use Rattle.k_reply.proofs.firsts.first_of.Given as goal

abbrev pub invariant-loop-fault : goal.invariant-loop-fault
invariant-loop-fault l = first_fault l.faults ≡ first_fault (drop l.fault-index l.faults)
