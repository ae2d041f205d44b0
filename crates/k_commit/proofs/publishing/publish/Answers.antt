use Rattle.k_commit.proofs.Tails.{met_list, met_objects, met_room, met_table, published}
use Rattle.k_commit.proofs.publishing.publish.Goals as goal

pub meet_heap-requires : goal.meet_heap-requires
meet_heap-requires g c = record { agrees = c.requires.agrees; book_agrees = c.requires.book_agrees; table = c.requires.table }

pub append_tail-requires-clause-table : goal.append_tail-requires-clause-table
append_tail-requires-clause-table g c = met_table g.trace c.args.cell.now c.args.book.now c.requires c.meet_heap.new.cell c.meet_heap.new.book c.meet_heap.ensures

pub append_tail-requires-clause-met : goal.append_tail-requires-clause-met
append_tail-requires-clause-met g c = met_list g.trace c.args.cell.now c.args.book.now c.requires c.meet_heap.new.cell c.meet_heap.new.book c.meet_heap.ensures

pub append_tail-requires-clause-room : goal.append_tail-requires-clause-room
append_tail-requires-clause-room g c = met_room g.trace c.args.cell.now c.args.book.now c.requires c.meet_heap.new.cell c.meet_heap.new.book c.meet_heap.ensures

pub append_tail-requires-clause-objects : goal.append_tail-requires-clause-objects
append_tail-requires-clause-objects g c = met_objects g.trace c.args.cell.now c.args.book.now c.requires c.meet_heap.new.cell c.meet_heap.new.book c.meet_heap.ensures

pub returns : goal.returns
returns g c =
    published g.trace c.args.cell.now c.args.book.now c.requires c.meet_heap.new.cell c.meet_heap.new.book c.meet_heap.ensures
    c.append_tail.new.cell c.append_tail.new.book c.append_tail.ensures.cell c.append_tail.ensures.book
