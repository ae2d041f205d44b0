use Rattle.k_ends.proofs.Collected.{can_mark, marked_guest}
use Rattle.k_ends.proofs.collecting.do_mark.Goals as goal

pub mark_heap-requires : goal.mark_heap-requires
mark_heap-requires g c = can_mark g.basis c.args.guest.now c.requires

pub returns : goal.returns
returns g c = marked_guest g.basis c.args.guest.now c.requires c.mark_heap.new.cell c.mark_heap.ensures.rest c.mark_heap.ensures.marked
