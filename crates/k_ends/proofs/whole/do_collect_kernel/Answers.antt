use Rattle.std.proofs.Common.{arith}
use Rattle.k_ends.proofs.Collected.{can_begin_kernel, publishes}
use Rattle.k_ends.proofs.Wholly.{begins_kernel, goes_on, kernel_can_end_then, kernel_can_mark_then, kernel_collected, kernel_objects_few, last_freed}
use Rattle.k_ends.proofs.whole.do_collect_kernel.Goals as goal

pub publish-requires : goal.publish-requires
publish-requires g c = publishes g.basis c.args.guest.now c.args.book.now (goes_on g.basis c.args.guest.now c.args.book.now c.requires.own)

pub begin_kernel-requires : goal.begin_kernel-requires
begin_kernel-requires g c =
    can_begin_kernel g.basis c.args.guest.now c.args.book.now (goes_on g.basis c.args.guest.now c.args.book.now c.requires.own) c.publish.new.cell c.publish.new.book c.publish.ensures c.args.kernel.now
    (begins_kernel g.basis c.args.guest.now c.args.kernel.now c.args.book.now c.requires)

pub mark_kernel-requires : goal.mark_kernel-requires
mark_kernel-requires g c =
    kernel_can_mark_then g.basis c.args.guest.now c.args.book.now c.requires.own c.publish.new.cell c.publish.new.book c.publish.ensures c.args.kernel.now c.requires.kernel
    c.begin_kernel.new.cell c.begin_kernel.new.kernel c.begin_kernel.new.book c.begin_kernel.result c.begin_kernel.ensures

pub end_kernel_listing-requires : goal.end_kernel_listing-requires
end_kernel_listing-requires g c =
    kernel_can_end_then g.basis c.args.guest.now c.args.book.now c.requires.own c.publish.new.cell c.publish.new.book c.publish.ensures c.args.kernel.now c.requires.kernel
    c.begin_kernel.new.cell c.begin_kernel.new.kernel c.begin_kernel.new.book c.begin_kernel.result c.begin_kernel.ensures c.mark_kernel.new.kernel c.mark_kernel.ensures.rest c.mark_kernel.ensures.marked

pub returns-clause-done : goal.returns-clause-done
returns-clause-done g c =
    kernel_collected g.basis c.args.guest.now c.args.book.now c.requires.own c.publish.new.cell c.publish.new.book c.publish.ensures c.args.kernel.now c.requires.kernel
    c.begin_kernel.new.cell c.begin_kernel.new.kernel c.begin_kernel.new.book c.begin_kernel.result c.begin_kernel.ensures c.mark_kernel.new.kernel c.mark_kernel.ensures.rest c.mark_kernel.ensures.marked
    c.end_kernel_listing.new.kernel c.end_kernel_listing.new.book c.end_kernel_listing.result c.end_kernel_listing.ensures.ended

pub returns-clause-freed : goal.returns-clause-freed
returns-clause-freed g c = λ fits.
    let few =
    kernel_objects_few g.basis c.args.guest.now c.args.book.now c.requires.own c.publish.new.cell c.publish.new.book c.publish.ensures c.args.kernel.now c.requires.kernel
    c.begin_kernel.new.cell c.begin_kernel.new.kernel c.begin_kernel.new.book c.begin_kernel.result c.begin_kernel.ensures c.mark_kernel.new.kernel c.mark_kernel.ensures.rest c.mark_kernel.ensures.marked in
    last_freed g.basis.trace c.begin_kernel.new.book.journal.list c.end_kernel_listing.new.book.journal.list c.end_kernel_listing.result c.end_kernel_listing.new.freed.names c.end_kernel_listing.ensures.ended.appended.journal
    (c.end_kernel_listing.ensures.listed (omega (arith, few, fits)))
