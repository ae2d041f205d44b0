use Rattle.k_measure.proofs.Several.{distinct_same}
use Rattle.k_measure.proofs.heap.roots.Goals as goal

pub root_at-requires-then-both-clause-distinct : goal.root_at-requires-then-both-clause-distinct
root_at-requires-then-both-clause-distinct c = distinct_same c.args.area.now c.root_at.new.area c.root_at.ensures.kept c.requires.distinct
