use Rattle.std.proofs.Common.{get_or, arith}
use Rattle.std.proofs.lemmas.List.{get_or_default}
use Rattle.std.proofs.lemmas.List.Edits.{map_over_more}
use Rattle.k_space.specs.Chains.{blank}
use Rattle.k_space.specs.Stamps.{plain}
use Rattle.k_space.proofs.marks.restamp.Goals as goal

pub loop-spot-preserved : goal.loop-spot-preserved
loop-spot-preserved c =
    map_over_more plain c.args.spots.now c.loop-spot.spots c.loop-spot.spot-index (get_or c.loop-spot.spots c.loop-spot.spot-index blank) (omega arith) c.loop-spot.invariant
    (get_or_default c.loop-spot.spots c.loop-spot.spot-index blank (get_or c.loop-spot.spots c.loop-spot.spot-index blank) (omega arith))
