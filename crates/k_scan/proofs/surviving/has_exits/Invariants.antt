use Rattle.std.proofs.Common.{◌≡◌, drop}
use Rattle.std.specs.List.{list_any}
use Rattle.k_types.specs.Names.{heap_eq}
use Rattle.k_types.specs.State.{ExitItem}
use Rattle.k_scan.proofs.surviving.has_exits.Given as goal

abbrev pub invariant-loop-item : goal.invariant-loop-item
invariant-loop-item l =
    list_any (λ (x : ExitItem). heap_eq x.heap l.heap) l.lists.state.exits ≡ list_any (λ (x : ExitItem). heap_eq x.heap l.heap) (drop l.item-index l.item-items)
