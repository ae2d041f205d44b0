use Rattle.k_operate.proofs.Exited.{can_exit, exit_adds, has_exited}
use Rattle.k_operate.proofs.exiting.do_exit.Goals as goal

pub exit-requires : goal.exit-requires
exit-requires g c = can_exit g.world' c.args.process.now c.args.kernel.now c.args.book.now c.requires c.know_exits.ensures c.know_kernel_exits.ensures

pub returns : goal.returns
returns g c = record { done = has_exited g.world' c.args.process.now c.args.kernel.now c.args.book.now c.requires c.exit.new.cell c.exit.new.kernel c.exit.new.book c.exit.result c.exit.ensures; events = exit_adds g.world' c.args.process.now c.args.kernel.now c.args.book.now c.requires c.exit.new.cell c.exit.new.kernel c.exit.new.book c.exit.result c.exit.ensures }
