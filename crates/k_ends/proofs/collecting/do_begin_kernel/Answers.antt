use Rattle.k_ends.proofs.Collected.{begun_kernel, can_begin_kernel, publishes}
use Rattle.k_ends.proofs.collecting.do_begin_kernel.Goals as goal

pub publish-requires : goal.publish-requires
publish-requires g c = publishes g.basis c.args.guest.now c.args.book.now c.requires.own.can

pub begin_kernel-requires : goal.begin_kernel-requires
begin_kernel-requires g c =
    can_begin_kernel g.basis c.args.guest.now c.args.book.now c.requires.own.can c.publish.new.cell c.publish.new.book c.publish.ensures c.args.kernel.now c.requires

pub returns : goal.returns
returns g c =
    begun_kernel g.basis c.args.guest.now c.args.book.now c.requires.own.can c.publish.new.cell c.publish.new.book c.publish.ensures c.begin_kernel.new.cell c.args.kernel.now c.begin_kernel.new.kernel c.begin_kernel.new.book
    c.begin_kernel.result c.requires.kernel c.begin_kernel.ensures
