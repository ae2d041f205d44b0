use Rattle.std.proofs.Common.{◌≡◌, map, take}
use Rattle.k_types.specs.Effects.{share_stays}
use Rattle.k_scan.proofs.surviving.surviving_shares.Given as goal

abbrev pub invariant-loop-share : goal.invariant-loop-share
invariant-loop-share l =
    l.stays.items ≡ map (share_stays l.lists.setup l.lists.state l.heap) (take l.share-index l.share-items)
