use Rattle.std.proofs.Common.{◌≡◌, ◌==◌, not, map, take}
use Rattle.k_types.specs.State.{Sharing}
use Rattle.k_scan.proofs.changes.shares_of_others.Given as goal

abbrev pub invariant-loop-share : goal.invariant-loop-share
invariant-loop-share l =
    l.stays.items ≡ map (λ (e : Sharing). not (e.process == l.pid.0)) (take l.share-index l.share-items)
