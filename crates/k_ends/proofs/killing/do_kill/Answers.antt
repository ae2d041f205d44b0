use Rattle.k_ends.proofs.Killed.{can_kill, has_killed, publishes_own, publishes_target}
use Rattle.k_ends.proofs.killing.do_kill.Goals as goal

pub publish-requires : goal.publish-requires
publish-requires g c = publishes_own g.basis c.args.guest.now c.args.target.now c.args.kernel.now c.args.book.now c.args.op.now c.requires

pub publish-requires-2 : goal.publish-requires-2
publish-requires-2 g c =
    publishes_target g.basis c.args.guest.now c.args.target.now c.args.kernel.now c.args.book.now c.args.op.now c.requires c.publish.new.cell c.publish.new.book c.publish.ensures

pub kill-requires : goal.kill-requires
kill-requires g c =
    can_kill g.basis c.args.guest.now c.args.target.now c.args.kernel.now c.args.book.now c.args.op.now c.requires c.publish.new.cell c.publish.new.book c.publish.ensures
    c.publish-2.new.cell c.publish-2.new.book c.publish-2.ensures c.know_exits.ensures.room c.know_kernel_exits.ensures

pub returns : goal.returns
returns g c =
    has_killed g.basis c.args.guest.now c.args.target.now c.args.kernel.now c.args.book.now c.args.op.now c.requires c.publish.new.cell c.publish.new.book c.publish.ensures
    c.publish-2.new.cell c.publish-2.new.book c.publish-2.ensures c.know_exits.ensures.distinct c.know_exits.ensures.room c.kill.new.cell c.kill.new.target c.kill.new.kernel c.kill.new.book c.kill.result c.kill.ensures
