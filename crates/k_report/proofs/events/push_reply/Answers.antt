use Rattle.k_report.proofs.Known.{named_fault}
use Rattle.k_report.proofs.events.push_reply.Goals as goal

pub push_fault-requires-clause-known : goal.push_fault-requires-clause-known
push_fault-requires-clause-known g c = named_fault _ _ c.in-Refused.fault c.requires.named (rw c.in-Refused.is at c.requires.known)
