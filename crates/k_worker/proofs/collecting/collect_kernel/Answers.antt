use Rattle.k_worker.proofs.Stepped.{left_twice}
use Rattle.k_worker.proofs.collecting.collect_kernel.Goals as goal

pub loop-preserved : goal.loop-preserved
loop-preserved g c = record {
  next = c.in-Some-try_collect_kernel.ensures.left.next;
  same = left_twice g.W.WorldName.world.trace c.args.process.now c.loop.process c.try_collect_kernel.new.process c.loop.invariant.same c.in-Some-try_collect_kernel.ensures.same;
}
