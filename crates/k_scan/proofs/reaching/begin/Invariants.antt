use Rattle.std.proofs.Common.{take}
use Rattle.k_types.specs.Names.{name_among}
use Rattle.k_types.specs.Owners.{objects_of, owner_of}
use Rattle.k_scan.specs.Marks.{HasLooked}
use Rattle.k_scan.proofs.reaching.begin.Given as goal

abbrev pub invariant-loop-root : goal.invariant-loop-root
invariant-loop-root l =
    HasLooked l.lists.state.objects (objects_of (owner_of l.lists.setup l.lists.state) l.heap l.lists.state.objects) (λ n. name_among n (take l.root-index l.roots))
    l.fn.marks l.marks l.fn.work.items l.work.items
