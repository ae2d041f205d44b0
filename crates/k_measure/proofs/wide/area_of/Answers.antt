use Rattle.std.proofs.Common.{◌∷◌, [], ap, ◌∙◌, arith}
use Rattle.std.proofs.lemmas.List.{length-append}
use Rattle.k_space.specs.Areas.{segment_at}
use Rattle.k_measure.proofs.Several.{new_number, inside_pushed, below_pushed}
use Rattle.k_measure.proofs.wide.area_of.Goals as goal

pub add-requires-clause-new : goal.add-requires-clause-new
add-requires-clause-new c =
    ap (segment_at c.loop-number.area.segments) c.in_ok-segment.ensures.number ∙ new_number c.loop-number.area.segments c.loop-number.number c.loop-number.invariant.below

pub loop-number-preserved : goal.loop-number-preserved
loop-number-preserved c =
    let at = c.loop-number.invariant in
    let segments = c.loop-number.area.segments in
    let segment = c.in_ok-segment.segment in
    rw c.add.ensures.added (record {
      inside = inside_pushed segments segment at.inside (λ i s there. omega (arith, at.below i s there, c.in_ok-segment.ensures.number)) c.in_ok-segment.ensures.inside;
      below = below_pushed segments segment c.loop-number.number at.below c.in_ok-segment.ensures.number;
      count = omega (arith, length-append segments (segment ∷ []), at.count);
      room = at.room;
    })
