use Rattle.k_operate.proofs.Added.{stepped_adds}
use Rattle.k_operate.proofs.StepsKept.{can_with_shared, done_with_shared}
use Rattle.k_operate.proofs.stepping.do_with_shared.Goals as goal

pub step_shared-requires : goal.step_shared-requires
step_shared-requires g c = can_with_shared g.world' c.args.process.now c.args.book.now c.args.op.now c.know_entries.ensures c.args.shared.now c.requires c.know_shared_exits.ensures

pub returns : goal.returns
returns g c = record {
  done =
      done_with_shared g.world' c.args.process.now c.args.book.now c.step_shared.new.book c.args.op.now c.step_shared.new.cell c.step_shared.result c.args.shared.now c.step_shared.new.shared c.requires c.step_shared.ensures;
  events =
      stepped_adds g.world'.trace c.args.op.now c.args.process.now (record c.args.process.now { cell = c.step_shared.new.cell }) c.args.book.now c.step_shared.new.book c.step_shared.result c.requires.due.steps c.requires.due.settled c.step_shared.ensures.beside.own;
}
