use Rattle.std.proofs.Common.{◌≡◌, map, take}
use Rattle.k_types.specs.Effects.{exit_stays}
use Rattle.k_scan.proofs.surviving.surviving_among.Given as goal

abbrev pub invariant-loop-item : goal.invariant-loop-item
invariant-loop-item l =
    l.stays.items ≡ map (exit_stays l.lists.setup l.lists.state l.heap) (take l.item-index l.item-items)
