use Rattle.std.proofs.Common.{arith}
use Rattle.k_collect.proofs.Sweeps.{can_append, can_unshare_now, credit_there, entries_still, limit_below, marked_still, note_table, process_below, sum_fits, swept_has_ended}
use Rattle.k_collect.proofs.ending.end_swept_heap.Goals as goal

pub meet_note-requires : goal.meet_note-requires
meet_note-requires g c = note_table g.trace c.args.cell.now c.args.book.now c.args.freed c.requires

pub leave_unmarked-exits_dropped-requires-clause-marked : goal.leave_unmarked-exits_dropped-requires-clause-marked
leave_unmarked-exits_dropped-requires-clause-marked g c = marked_still g.trace c.args.cell.now c.args.book.now c.args.freed c.requires c.meet_note.new.cell c.meet_note.new.book c.meet_note.ensures

pub leave_unmarked-exits_dropped-requires-clause-entries : goal.leave_unmarked-exits_dropped-requires-clause-entries
leave_unmarked-exits_dropped-requires-clause-entries g c = entries_still g.trace c.args.cell.now c.args.book.now c.args.freed c.requires c.meet_note.new.cell c.meet_note.new.book c.meet_note.ensures

pub drop_shares-unshared-requires : goal.drop_shares-unshared-requires
drop_shares-unshared-requires g c =
    can_unshare_now g.trace c.args.cell.now c.args.book.now c.args.freed c.requires c.meet_note.new.cell c.meet_note.new.book c.meet_note.ensures c.leave_unmarked-exits_dropped.new.cell c.end_collection.new.self
    c.leave_unmarked-exits_dropped.new.book c.leave_unmarked-exits_dropped.ensures.rest c.leave_unmarked-exits_dropped.ensures.cell c.leave_unmarked-exits_dropped.ensures.distinct
    c.leave_unmarked-exits_dropped.ensures.book c.leave_unmarked-exits_dropped.ensures.left c.end_collection.ensures

pub limit_of-limit-requires : goal.limit_of-limit-requires
limit_of-limit-requires g c =
    process_below g.trace c.args.cell.now c.args.book.now c.args.freed c.requires c.meet_note.new.cell c.meet_note.new.book c.meet_note.ensures c.leave_unmarked-exits_dropped.new.cell c.end_collection.new.self
    c.leave_unmarked-exits_dropped.new.book c.leave_unmarked-exits_dropped.ensures.rest c.leave_unmarked-exits_dropped.ensures.cell c.leave_unmarked-exits_dropped.ensures.distinct
    c.leave_unmarked-exits_dropped.ensures.book c.leave_unmarked-exits_dropped.ensures.left c.end_collection.ensures
    c.drop_shares-unshared.new.book c.drop_shares-unshared.ensures.book c.pid.result c.pid.ensures

pub overflow_add-freed : goal.overflow_add-freed
overflow_add-freed g c =
    let fits =
    sum_fits g.trace c.args.cell.now c.args.book.now c.args.freed c.requires c.meet_note.new.cell c.meet_note.new.book c.meet_note.ensures c.leave_unmarked-exits_dropped.new.cell c.end_collection.new.self
    c.leave_unmarked-exits_dropped.new.book c.leave_unmarked-exits_dropped.ensures.rest c.leave_unmarked-exits_dropped.ensures.cell c.leave_unmarked-exits_dropped.ensures.distinct
    c.leave_unmarked-exits_dropped.ensures.book c.leave_unmarked-exits_dropped.ensures.left c.end_collection.ensures
    c.drop_shares-unshared.new.book c.drop_shares-unshared.ensures.book c.pid.result c.pid.ensures c.limit_of-limit.result c.limit_of-limit.ensures c.drop_shares-unshared.result.bytes c.drop_shares-unshared.ensures.bytes in
    omega (arith, fits)

pub credit-requires-clause-there : goal.credit-requires-clause-there
credit-requires-clause-there g c =
    limit_below g.trace c.args.cell.now c.args.book.now c.args.freed c.requires c.meet_note.new.cell c.meet_note.new.book c.meet_note.ensures c.leave_unmarked-exits_dropped.new.cell c.end_collection.new.self
    c.leave_unmarked-exits_dropped.new.book c.leave_unmarked-exits_dropped.ensures.rest c.leave_unmarked-exits_dropped.ensures.cell c.leave_unmarked-exits_dropped.ensures.distinct
    c.leave_unmarked-exits_dropped.ensures.book c.leave_unmarked-exits_dropped.ensures.left c.end_collection.ensures
    c.drop_shares-unshared.new.book c.drop_shares-unshared.ensures.book c.pid.result c.pid.ensures c.limit_of-limit.result c.limit_of-limit.ensures

pub credit-requires-clause-charged : goal.credit-requires-clause-charged
credit-requires-clause-charged g c =
    credit_there g.trace c.args.cell.now c.args.book.now c.args.freed c.requires c.meet_note.new.cell c.meet_note.new.book c.meet_note.ensures c.leave_unmarked-exits_dropped.new.cell c.end_collection.new.self
    c.leave_unmarked-exits_dropped.new.book c.leave_unmarked-exits_dropped.ensures.rest c.leave_unmarked-exits_dropped.ensures.cell c.leave_unmarked-exits_dropped.ensures.distinct
    c.leave_unmarked-exits_dropped.ensures.book c.leave_unmarked-exits_dropped.ensures.left c.end_collection.ensures
    c.drop_shares-unshared.new.book c.drop_shares-unshared.ensures.book c.pid.result c.pid.ensures c.limit_of-limit.result c.limit_of-limit.ensures c.drop_shares-unshared.result.bytes c.drop_shares-unshared.ensures.bytes

pub append_heap-requires : goal.append_heap-requires
append_heap-requires g c =
    let can =
    can_append g.trace c.args.cell.now c.args.book.now c.args.freed c.requires c.meet_note.new.cell c.meet_note.new.book c.meet_note.ensures c.leave_unmarked-exits_dropped.new.cell c.end_collection.new.self
    c.leave_unmarked-exits_dropped.new.book c.leave_unmarked-exits_dropped.ensures.rest c.leave_unmarked-exits_dropped.ensures.cell c.leave_unmarked-exits_dropped.ensures.distinct
    c.leave_unmarked-exits_dropped.ensures.book c.leave_unmarked-exits_dropped.ensures.left c.end_collection.ensures
    c.drop_shares-unshared.new.book c.drop_shares-unshared.ensures.book c.pid.result c.pid.ensures c.limit_of-limit.result c.limit_of-limit.ensures c.drop_shares-unshared.result.bytes c.drop_shares-unshared.ensures.bytes
    c.credit.new.self c.credit.ensures c.pid-2.result c.pid-2.ensures c.leave_unmarked-exits_dropped.result c.drop_shares-unshared.result.shares
    c.leave_unmarked-exits_dropped.ensures.count c.drop_shares-unshared.ensures.shares in
    record { table = can.table; met = can.list; room = can.room }

pub returns-clause-ended : goal.returns-clause-ended
returns-clause-ended g c =
    rw (c.append_heap.ensures.cell, c.append_heap.ensures.book)
    (swept_has_ended g.trace c.args.cell.now c.args.book.now c.args.freed c.requires c.meet_note.new.cell c.meet_note.new.book c.meet_note.ensures c.leave_unmarked-exits_dropped.new.cell c.end_collection.new.self
    c.leave_unmarked-exits_dropped.new.book c.leave_unmarked-exits_dropped.ensures.rest c.leave_unmarked-exits_dropped.ensures.cell c.leave_unmarked-exits_dropped.ensures.distinct
    c.leave_unmarked-exits_dropped.ensures.book c.leave_unmarked-exits_dropped.ensures.left c.end_collection.ensures
    c.drop_shares-unshared.new.book c.drop_shares-unshared.ensures.book c.pid.result c.pid.ensures c.limit_of-limit.result c.limit_of-limit.ensures c.drop_shares-unshared.result.bytes c.drop_shares-unshared.ensures.bytes
    c.credit.new.self c.credit.ensures c.pid-2.result c.pid-2.ensures c.leave_unmarked-exits_dropped.result c.drop_shares-unshared.result.shares
    c.leave_unmarked-exits_dropped.ensures.count c.drop_shares-unshared.ensures.shares)

pub returns-clause-fits : goal.returns-clause-fits
returns-clause-fits g c = c.meet_note.ensures.fits
