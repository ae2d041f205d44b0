use Rattle.std.proofs.Common.{take}
use Rattle.std.specs.List.{list_any}
use Rattle.k_types.specs.Names.{leads_to}
use Rattle.k_types.specs.Owners.{objects_of, owner_of}
use Rattle.k_scan.specs.Marks.{HasFound}
use Rattle.k_scan.proofs.holding.find_in_registers.Given as goal

abbrev pub invariant-loop-register : goal.invariant-loop-register
invariant-loop-register l =
    HasFound l.lists.state.objects (objects_of (owner_of l.lists.setup l.lists.state) l.heap l.lists.state.objects)
    (λ n. list_any (λ r. leads_to r n) (take l.register-index l.registers)) l.fn.marks l.marks
