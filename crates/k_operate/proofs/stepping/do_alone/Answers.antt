use Rattle.k_operate.proofs.Added.{stepped_adds}
use Rattle.k_operate.proofs.StepsKept.{can_alone, done_alone}
use Rattle.k_operate.proofs.stepping.do_alone.Goals as goal

pub step_own-requires : goal.step_own-requires
step_own-requires g c = can_alone g.world' c.args.process.now c.args.book.now c.args.op.now c.know_entries.ensures c.requires c.know_exits.ensures

pub returns : goal.returns
returns g c = record {
  done =
      done_alone g.world' c.args.process.now c.args.book.now c.step_own.new.book c.args.op.now c.step_own.new.cell c.step_own.result c.requires.pair c.requires.next c.step_own.ensures;
  events =
      stepped_adds g.world'.trace c.args.op.now c.args.process.now (record c.args.process.now { cell = c.step_own.new.cell }) c.args.book.now c.step_own.new.book c.step_own.result c.requires.steps c.requires.settled c.step_own.ensures;
}
