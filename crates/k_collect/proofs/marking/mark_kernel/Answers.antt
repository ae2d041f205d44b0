use Rattle.k_types.specs.declared.names.Heap.TheVariants.{Kernel}
use Rattle.k_collect.proofs.Marked.{can_be_marked, marked_on}
use Rattle.k_collect.proofs.marking.mark_kernel.Goals as goal

pub mark-requires-clause-exits : goal.mark-requires-clause-exits
mark-requires-clause-exits g c = can_be_marked g.trace Kernel c.args.kernel.now.note c.args.kernel.now.value c.requires

pub returns-clause-marked : goal.returns-clause-marked
returns-clause-marked g c = marked_on g.trace Kernel c.args.kernel.now.note c.args.kernel.now.value c.mark.new.self.value c.requires c.mark.ensures.marked
