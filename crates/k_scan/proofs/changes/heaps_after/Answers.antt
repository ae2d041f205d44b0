use Rattle.std.proofs.Common.{arith}
use Rattle.std.proofs.lemmas.List.{length_push}
use Rattle.k_types.specs.Effects.{exit_after}
use Rattle.k_scan.proofs.Turning.{turned_more}
use Rattle.k_scan.proofs.changes.heaps_after.Goals as goal

pub loop-item-preserved : goal.loop-item-preserved
loop-item-preserved c =
    let m = c.args.lists.now in
    let more = length_push c.loop-item.heaps.items c.heap_after.result in
    rw c.in_ok-push.ensures.items
    (record {
      size = omega (arith, more, c.loop-item.invariant.size);
      heaps =
          turned_more (exit_after m.setup m.state c.args.pid.0) c.loop-item.heaps.items c.exits-item-items.result.now c.loop-item.item-index c.heap_after.result c.item-item.result
          c.loop-item-test.true c.item-item.is c.loop-item.invariant.size c.heap_after.ensures c.loop-item.invariant.heaps;
    })
