use Rattle.k_types.specs.declared.names.Heap.TheVariants.{User}
use Rattle.k_collect.proofs.Marked.{can_be_marked, marked_on}
use Rattle.k_collect.proofs.marking.mark_heap.Goals as goal

pub mark-requires-clause-exits : goal.mark-requires-clause-exits
mark-requires-clause-exits g c = can_be_marked g.trace (User c.args.cell.now.pid) c.args.cell.now.note c.args.cell.now.value c.requires

pub returns-clause-marked : goal.returns-clause-marked
returns-clause-marked g c = marked_on g.trace (User c.args.cell.now.pid) c.args.cell.now.note c.args.cell.now.value c.mark.new.self.value c.requires c.mark.ensures.marked
