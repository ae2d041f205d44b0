use Rattle.k_collect.proofs.Sweeps.{kernel_can_append, kernel_entries_still, kernel_marked_still, kernel_note_table, kernel_swept_has_ended}
use Rattle.k_collect.proofs.ending.end_swept_kernel.Goals as goal

pub meet_kernel_note-requires : goal.meet_kernel_note-requires
meet_kernel_note-requires g c = kernel_note_table g.trace c.args.kernel.now c.args.book.now c.args.freed c.requires

pub leave_kernel_unmarked-exits_dropped-requires-clause-marked : goal.leave_kernel_unmarked-exits_dropped-requires-clause-marked
leave_kernel_unmarked-exits_dropped-requires-clause-marked g c = kernel_marked_still g.trace c.args.kernel.now c.args.book.now c.args.freed c.requires c.meet_kernel_note.new.kernel c.meet_kernel_note.new.book c.meet_kernel_note.ensures

pub leave_kernel_unmarked-exits_dropped-requires-clause-entries : goal.leave_kernel_unmarked-exits_dropped-requires-clause-entries
leave_kernel_unmarked-exits_dropped-requires-clause-entries g c = kernel_entries_still g.trace c.args.kernel.now c.args.book.now c.args.freed c.requires c.meet_kernel_note.new.kernel c.meet_kernel_note.new.book c.meet_kernel_note.ensures

pub append_kernel-requires : goal.append_kernel-requires
append_kernel-requires g c =
    let can =
    kernel_can_append g.trace c.args.kernel.now c.args.book.now c.args.freed c.requires c.meet_kernel_note.new.kernel c.meet_kernel_note.new.book c.meet_kernel_note.ensures c.leave_kernel_unmarked-exits_dropped.new.kernel c.end_collection.new.self
    c.leave_kernel_unmarked-exits_dropped.new.book c.leave_kernel_unmarked-exits_dropped.ensures.rest c.leave_kernel_unmarked-exits_dropped.ensures.cell c.leave_kernel_unmarked-exits_dropped.ensures.distinct
    c.leave_kernel_unmarked-exits_dropped.ensures.book c.leave_kernel_unmarked-exits_dropped.ensures.left c.end_collection.ensures c.leave_kernel_unmarked-exits_dropped.result c.leave_kernel_unmarked-exits_dropped.ensures.count in
    record { table = can.table; met = can.list; room = can.room }

pub returns : goal.returns
returns g c =
    rw (c.append_kernel.ensures.kernel, c.append_kernel.ensures.book)
    (kernel_swept_has_ended g.trace c.args.kernel.now c.args.book.now c.args.freed c.requires c.meet_kernel_note.new.kernel c.meet_kernel_note.new.book c.meet_kernel_note.ensures c.leave_kernel_unmarked-exits_dropped.new.kernel c.end_collection.new.self
    c.leave_kernel_unmarked-exits_dropped.new.book c.leave_kernel_unmarked-exits_dropped.ensures.rest c.leave_kernel_unmarked-exits_dropped.ensures.cell c.leave_kernel_unmarked-exits_dropped.ensures.distinct
    c.leave_kernel_unmarked-exits_dropped.ensures.book c.leave_kernel_unmarked-exits_dropped.ensures.left c.end_collection.ensures c.leave_kernel_unmarked-exits_dropped.result c.leave_kernel_unmarked-exits_dropped.ensures.count)
