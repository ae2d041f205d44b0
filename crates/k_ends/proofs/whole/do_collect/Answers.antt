use Rattle.std.proofs.Common.{arith}
use Rattle.k_ends.proofs.Collected.{can_begin, publishes}
use Rattle.k_ends.proofs.Wholly.{can_end_then, can_mark_then, collected, goes_on, last_freed, objects_few}
use Rattle.k_ends.proofs.whole.do_collect.Goals as goal

pub publish-requires : goal.publish-requires
publish-requires g c = publishes g.basis c.args.guest.now c.args.book.now (goes_on g.basis c.args.guest.now c.args.book.now c.requires)

pub begin_heap-requires : goal.begin_heap-requires
begin_heap-requires g c =
    can_begin g.basis c.args.guest.now c.args.book.now (goes_on g.basis c.args.guest.now c.args.book.now c.requires) c.publish.new.cell c.publish.new.book c.publish.ensures c.requires.idle

pub mark_heap-requires : goal.mark_heap-requires
mark_heap-requires g c =
    can_mark_then g.basis c.args.guest.now c.args.book.now c.requires c.publish.new.cell c.publish.new.book c.publish.ensures c.begin_heap.new.cell c.begin_heap.new.book c.begin_heap.result c.begin_heap.ensures

pub end_heap_listing-requires : goal.end_heap_listing-requires
end_heap_listing-requires g c =
    can_end_then g.basis c.args.guest.now c.args.book.now c.requires c.publish.new.cell c.publish.new.book c.publish.ensures c.begin_heap.new.cell c.begin_heap.new.book c.begin_heap.result c.begin_heap.ensures
    c.mark_heap.new.cell c.mark_heap.ensures.rest c.mark_heap.ensures.marked

pub returns-clause-done : goal.returns-clause-done
returns-clause-done g c =
    collected g.basis c.args.guest.now c.args.book.now c.requires c.publish.new.cell c.publish.new.book c.publish.ensures c.begin_heap.new.cell c.begin_heap.new.book c.begin_heap.result c.begin_heap.ensures
    c.mark_heap.new.cell c.mark_heap.ensures.rest c.mark_heap.ensures.marked c.end_heap_listing.new.cell c.end_heap_listing.new.book c.end_heap_listing.result c.end_heap_listing.ensures.ended

pub returns-clause-freed : goal.returns-clause-freed
returns-clause-freed g c = λ fits.
    let few =
    objects_few g.basis c.args.guest.now c.args.book.now c.requires c.publish.new.cell c.publish.new.book c.publish.ensures c.begin_heap.new.cell c.begin_heap.new.book c.begin_heap.result c.begin_heap.ensures
    c.mark_heap.new.cell c.mark_heap.ensures.rest c.mark_heap.ensures.marked in
    last_freed g.basis.trace c.begin_heap.new.book.journal.list c.end_heap_listing.new.book.journal.list c.end_heap_listing.result c.end_heap_listing.new.freed.names c.end_heap_listing.ensures.ended.appended.journal
    (c.end_heap_listing.ensures.listed (omega (arith, few, fits)))
