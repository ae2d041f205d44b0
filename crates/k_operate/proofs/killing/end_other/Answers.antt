use Rattle.k_operate.proofs.Killed.{can_kill, has_killed, kill_adds}
use Rattle.k_operate.proofs.killing.end_other.Goals as goal

pub kill-requires : goal.kill-requires
kill-requires g c =
    can_kill g.world' c.args.process.now c.args.target.now c.args.kernel.now c.args.book.now c.args.op.now c.requires c.know_exits.ensures c.know_kernel_exits.ensures

pub returns : goal.returns
returns g c = record {
  done =
      has_killed g.world' c.args.process.now c.args.target.now c.args.kernel.now c.args.book.now c.args.op.now c.requires c.kill.new.cell c.kill.new.target c.kill.new.kernel c.kill.new.book c.kill.result c.kill.ensures;
  events =
      kill_adds g.world' c.args.process.now c.args.target.now c.args.kernel.now c.args.book.now c.args.op.now c.requires c.kill.new.cell c.kill.new.target c.kill.new.kernel c.kill.new.book c.kill.result c.kill.ensures;
}
