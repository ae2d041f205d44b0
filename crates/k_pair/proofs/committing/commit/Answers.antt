use Rattle.k_commit.proofs.Commits.{both_done_small, both_lists, both_step, both_tables, event_room}
use Rattle.k_pair.proofs.committing.commit.Goals as goal

pub count_done-requires : goal.count_done-requires
count_done-requires g c = both_done_small g.S.StepName.before c.args.cell.now (g.O.OtherCell.seen c.args.other.now) c.args.book.now c.args.op c.args.said c.requires

pub append-requires-clause-table : goal.append-requires-clause-table
append-requires-clause-table g c = rw (c.count_done.ensures) (both_tables g.S.StepName.before c.args.cell.now (g.O.OtherCell.seen c.args.other.now) c.args.book.now c.args.op c.args.said c.requires)

pub append-requires-clause-met : goal.append-requires-clause-met
append-requires-clause-met g c = rw (c.count_done.ensures) (both_lists g.S.StepName.before c.args.cell.now (g.O.OtherCell.seen c.args.other.now) c.args.book.now c.args.op c.args.said c.requires)

pub append-requires-clause-room : goal.append-requires-clause-room
append-requires-clause-room g c = event_room g.S.StepName.before c.args.cell.now (g.O.OtherCell.seen c.args.other.now) c.args.book.now c.args.op c.args.said c.requires

pub returns : goal.returns
returns g c =
    rw (c.append.ensures.cell, c.append.ensures.other, c.append.ensures.book, c.pid.ensures, c.count_done.ensures)
    (both_step g.S.StepName.before c.args.cell.now (g.O.OtherCell.seen c.args.other.now) c.args.book.now c.args.op c.args.said c.requires)
