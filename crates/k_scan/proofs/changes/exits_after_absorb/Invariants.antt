use Rattle.std.proofs.Common.{◌≡◌, map, take}
use Rattle.k_types.specs.Effects.{stays_after_absorb}
use Rattle.k_scan.proofs.changes.exits_after_absorb.Given as goal

abbrev pub invariant-loop-item : goal.invariant-loop-item
invariant-loop-item l =
    l.stays.items ≡ map (stays_after_absorb l.lists.setup l.lists.state l.shared.0) (take l.item-index l.item-items)
