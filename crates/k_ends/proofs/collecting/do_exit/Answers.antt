use Rattle.k_ends.proofs.Collected.{can_exit, exited, publishes}
use Rattle.k_ends.proofs.collecting.do_exit.Goals as goal

pub publish-requires : goal.publish-requires
publish-requires g c = publishes g.basis c.args.guest.now c.args.book.now c.requires.own.can

pub exit-requires : goal.exit-requires
exit-requires g c = can_exit g.basis c.args.guest.now c.args.book.now c.requires.own.can c.publish.new.cell c.publish.new.book c.publish.ensures c.args.kernel.now c.requires
    c.know_exits.ensures.room c.know_kernel_exits.ensures

pub returns : goal.returns
returns g c =
    exited g.basis c.args.guest.now c.args.book.now c.requires.own.can c.publish.new.cell c.publish.new.book c.publish.ensures c.exit.new.cell c.args.kernel.now c.exit.new.kernel c.exit.new.book
    c.exit.result c.requires.kernel c.know_exits.ensures.distinct c.know_exits.ensures.room c.exit.ensures
