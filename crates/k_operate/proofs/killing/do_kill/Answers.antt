use Rattle.k_types.specs.declared.names.Heap.TheVariants.{Kernel, Shared}
use Rattle.k_operate.proofs.Killed.{can_alone_now, can_end, ended_now, kill_adds_now, never_one_now, reaches, spared_now}
use Rattle.k_operate.proofs.killing.do_kill.Goals as goal

pub publish_all-requires : goal.publish_all-requires
publish_all-requires g c = c.requires.pair

pub publish_all-requires-2 : goal.publish_all-requires-2
publish_all-requires-2 g c = record { process = c.requires.target; book = c.publish_all.ensures.pair.book }

pub reach-requires : goal.reach-requires
reach-requires g c = reaches g.world' c.args.process.now c.args.target.now c.args.kernel.now c.args.book.now c.args.op.now c.requires c.publish_all.new.process c.publish_all.new.book c.publish_all.ensures c.publish_all-2.new.process c.publish_all-2.new.book c.publish_all-2.ensures

pub end_other-requires : goal.end_other-requires
end_other-requires g c = can_end g.world' c.args.process.now c.args.target.now c.args.kernel.now c.args.book.now c.args.op.now c.requires c.publish_all.new.process c.publish_all.new.book c.publish_all.ensures c.publish_all-2.new.process c.publish_all-2.new.book c.publish_all-2.ensures c.in-End.field-0 c.in-End.ensures

pub do_alone-requires : goal.do_alone-requires
do_alone-requires g c = can_alone_now g.world' c.args.process.now c.args.target.now c.args.kernel.now c.args.book.now c.args.op.now c.requires c.publish_all.new.process c.publish_all.new.book c.publish_all.ensures c.publish_all-2.new.process c.publish_all-2.new.book c.publish_all-2.ensures c.in-Own.ensures

pub unreachable-requires : goal.unreachable-requires
unreachable-requires g c = never_one_now g.world' c.args.process.now c.args.target.now c.args.kernel.now c.args.book.now c.args.op.now c.requires c.publish_all.new.process c.publish_all.new.book c.publish_all.ensures c.publish_all-2.new.process c.publish_all-2.new.book c.publish_all-2.ensures Kernel c.in-Kernel.ensures

pub unreachable-requires-in-Shared : goal.unreachable-requires-in-Shared
unreachable-requires-in-Shared g c = never_one_now g.world' c.args.process.now c.args.target.now c.args.kernel.now c.args.book.now c.args.op.now c.requires c.publish_all.new.process c.publish_all.new.book c.publish_all.ensures c.publish_all-2.new.process c.publish_all-2.new.book c.publish_all-2.ensures (Shared c.in-Shared.field-0) c.in-Shared.ensures

pub returns-in-End : goal.returns-in-End
returns-in-End g c = record {
  done = ended_now g.world' c.args.process.now c.args.target.now c.args.kernel.now c.args.book.now c.args.op.now c.requires c.publish_all.new.process c.publish_all.new.book c.publish_all.ensures c.publish_all-2.new.process c.publish_all-2.new.book c.publish_all-2.ensures c.end_other.new.process c.end_other.new.target c.end_other.new.kernel c.end_other.new.book c.end_other.ensures.done;
  events = kill_adds_now g.world' c.args.process.now c.args.target.now c.args.kernel.now c.args.book.now c.args.op.now c.requires c.publish_all.new.process c.publish_all.new.book c.publish_all.ensures c.publish_all-2.new.process c.publish_all-2.new.book c.publish_all-2.ensures _ c.end_other.ensures.events;
}

pub returns-in-Own : goal.returns-in-Own
returns-in-Own g c = record {
  done = spared_now g.world' c.args.process.now c.args.target.now c.args.kernel.now c.args.book.now c.args.op.now c.requires c.publish_all.new.process c.publish_all.new.book c.publish_all.ensures c.publish_all-2.new.process c.publish_all-2.new.book c.publish_all-2.ensures c.do_alone.new.process c.do_alone.new.book c.do_alone.ensures.done;
  events = kill_adds_now g.world' c.args.process.now c.args.target.now c.args.kernel.now c.args.book.now c.args.op.now c.requires c.publish_all.new.process c.publish_all.new.book c.publish_all.ensures c.publish_all-2.new.process c.publish_all-2.new.book c.publish_all-2.ensures _ c.do_alone.ensures.events;
}
