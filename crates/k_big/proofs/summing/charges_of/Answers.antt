use Rattle.std.proofs.Common.{◌<◌, arith}
use Rattle.k_types.specs.Owners.{charge_of}
use Rattle.k_types.specs.Trace.{process_count}
use Rattle.k_big.proofs.summing.charges_of.Goals as goal
use Rattle.k_types.proofs.Totals.{total_more, total_within}

pub overflow_add-sum : goal.overflow_add-sum
overflow_add-sum g c =
    let inside : c.loop-pid.pid < process_count (g.V.View.trace c.args.view.now) = omega (arith, c.procs-pid-end.ensures.count) in
    let within = total_within (charge_of (g.V.View.trace c.args.view.now) (g.V.View.state c.args.view.now)) c.loop-pid.pid (process_count (g.V.View.trace c.args.view.now)) inside in
    omega (arith, within, c.loop-pid.invariant, c.charge-sum.ensures, c.requires)

pub loop-pid-preserved : goal.loop-pid-preserved
loop-pid-preserved g c =
    let more = total_more (charge_of (g.V.View.trace c.args.view.now) (g.V.View.state c.args.view.now)) c.loop-pid.pid in
    omega (arith, more, c.loop-pid.invariant, c.charge-sum.ensures)
