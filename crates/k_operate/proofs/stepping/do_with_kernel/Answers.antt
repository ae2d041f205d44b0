use Rattle.k_operate.proofs.Added.{stepped_adds}
use Rattle.k_operate.proofs.StepsKept.{can_with_kernel, done_with_kernel}
use Rattle.k_operate.proofs.stepping.do_with_kernel.Goals as goal

pub step_kernel-requires : goal.step_kernel-requires
step_kernel-requires g c = can_with_kernel g.world' c.args.process.now c.args.book.now c.args.op.now c.know_entries.ensures c.args.kernel.now c.requires c.know_kernel_exits.ensures

pub returns : goal.returns
returns g c = record {
  done =
      done_with_kernel g.world' c.args.process.now c.args.book.now c.step_kernel.new.book c.args.op.now c.step_kernel.new.cell c.step_kernel.result c.args.kernel.now c.step_kernel.new.kernel c.requires c.step_kernel.ensures;
  events =
      stepped_adds g.world'.trace c.args.op.now c.args.process.now (record c.args.process.now { cell = c.step_kernel.new.cell }) c.args.book.now c.step_kernel.new.book c.step_kernel.result c.requires.due.steps c.requires.due.settled c.step_kernel.ensures.beside.own;
}
