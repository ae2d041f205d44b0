use Rattle.std.proofs.Common.{[], take}
use Rattle.k_types.specs.Trace.{trace_of}
use Rattle.k_work.proofs.Tallied.{IsTallied}
use Rattle.k_work.proofs.working.work_of.Given as goal

abbrev pub invariant-loop-i : goal.invariant-loop-i
invariant-loop-i g l = IsTallied (trace_of l.setup [] []) (take l.i (g.V.View.events l.view)) l.state l.kernel l.table
