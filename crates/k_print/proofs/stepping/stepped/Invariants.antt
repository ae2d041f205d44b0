use Rattle.std.proofs.Common.{[], take}
use Rattle.k_types.specs.Trace.{trace_of}
use Rattle.k_print.proofs.Stepped.{HasStepped}
use Rattle.k_print.proofs.stepping.stepped.Given as goal

abbrev pub invariant-loop-event : goal.invariant-loop-event
invariant-loop-event l = HasStepped (trace_of l.setup [] []) (take l.event-index l.events) l.state
