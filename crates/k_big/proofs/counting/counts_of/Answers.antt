use Rattle.std.proofs.Common.{arith}
use Rattle.k_big.specs.Counts.{faults_in, freed_in, operations_in}
use Rattle.k_big.proofs.Totals.{total_so_far}
use Rattle.k_big.proofs.counting.counts_of.Goals as goal

pub loop-i-preserved : goal.loop-i-preserved
loop-i-preserved g c =
    let before = c.loop-i.invariant in
    let operations = total_so_far operations_in (g.V.View.events c.args.view.now) c.loop-i.i c.event-event.result.now c.event-event.ensures.there in
    let faults = total_so_far faults_in (g.V.View.events c.args.view.now) c.loop-i.i c.event-event.result.now c.event-event.ensures.there in
    let freed = total_so_far freed_in (g.V.View.events c.args.view.now) c.loop-i.i c.event-event.result.now c.event-event.ensures.there in
    record {
      operations_are = omega (arith, before.operations_are, operations, c.operations_in-operations.ensures.exact);
      faults_are = omega (arith, before.faults_are, faults, c.faults_in-faults.ensures.exact);
      freed_are = omega (arith, before.freed_are, freed, c.freed_in.ensures);
      few_operations = omega arith;
      few_faults = omega arith;
      few_freed = omega arith;
    }
