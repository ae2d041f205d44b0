use Rattle.std.proofs.Common.{subst}
use Rattle.k_types.specs.Known.{IsKnownEvent}
use Rattle.k_report.proofs.Known.{named_op}
use Rattle.k_print.proofs.tracing.add_line.Goals as goal

pub push_operation-requires-clause-known : goal.push_operation-requires-clause-known
push_operation-requires-clause-known c =
    named_op c.args.names.now c.requires.known.0 c.in-Done.op c.requires.known.1 (subst (IsKnownEvent c.requires.known.0) c.in-Done.is c.requires.known.2).1
