use Rattle.std.proofs.Common.{take}
use Rattle.k_types.specs.Owners.{objects_of, owner_of}
use Rattle.k_types.specs.Reach.{has_entry}
use Rattle.k_scan.specs.Marks.{HasFound}
use Rattle.k_scan.proofs.holding.find_entered.Given as goal

abbrev pub invariant-loop-item : goal.invariant-loop-item
invariant-loop-item l =
    HasFound l.lists.state.objects (objects_of (owner_of l.lists.setup l.lists.state) l.heap l.lists.state.objects)
    (λ n. has_entry (λ seg. l.heap) (take l.item-index l.item-items) n) l.fn.marks l.marks
