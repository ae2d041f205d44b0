use Rattle.k_types.specs.Owners.{objects_of, owner_of}
use Rattle.k_types.specs.Reach.{is_pinned}
use Rattle.k_scan.specs.Marks.{HasFound}
use Rattle.k_scan.proofs.holding.find_pinned.Given as goal

abbrev pub invariant-loop-p : goal.invariant-loop-p
invariant-loop-p l =
    HasFound l.lists.state.objects (objects_of (owner_of l.lists.setup l.lists.state) l.heap l.lists.state.objects)
    (λ n. is_pinned l.p (λ seg. l.heap) l.lists.state.registers n) l.fn.marks l.marks
