use Rattle.std.proofs.Common.{◌≡◌, ◌&&◌, drop}
use Rattle.std.specs.List.{list_any}
use Rattle.k_types.specs.Effects.{exit_stays, lies_in}
use Rattle.k_types.specs.Names.{heap_eq}
use Rattle.k_types.specs.State.{ExitItem}
use Rattle.k_scan.proofs.leading.some_exit_leads_in.Given as goal

abbrev pub invariant-loop-at : goal.invariant-loop-at
invariant-loop-at l =
    list_any (λ (x : ExitItem). heap_eq x.heap l.heap && lies_in l.lists.setup l.lists.state l.shared.0 x.target && exit_stays l.lists.setup l.lists.state l.heap x) l.lists.state.exits
    ≡ list_any (λ (x : ExitItem). heap_eq x.heap l.heap && lies_in l.lists.setup l.lists.state l.shared.0 x.target && exit_stays l.lists.setup l.lists.state l.heap x) (drop l.at l.item-items)
