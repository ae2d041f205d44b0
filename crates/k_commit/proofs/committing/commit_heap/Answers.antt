use Rattle.k_commit.proofs.Commits.{heap_done_small, heap_steps}
use Rattle.k_commit.proofs.committing.commit_heap.Goals as goal

pub count_done-requires : goal.count_done-requires
count_done-requires g c = heap_done_small g.before c.args.cell.now c.args.book.now c.args.op c.args.said c.requires

pub returns : goal.returns
returns g c = rw (c.append_heap.ensures.cell, c.append_heap.ensures.book, c.pid.ensures, c.count_done.ensures) (heap_steps g.before c.args.cell.now c.args.book.now c.args.op c.args.said c.requires)
