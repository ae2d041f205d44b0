use Rattle.std.proofs.Common.{◌≡◌, get_or, length, set, ap, sym, ◌∙◌, arith}
use Rattle.std.proofs.lemmas.List.Edits.{map_over_more}
use Rattle.k_space.specs.Areas.{blackened_in}
use Rattle.k_space.specs.Bounds.{bound_in}
use Rattle.k_space.specs.Segments.{SegmentValue, blackened_segment}
use Rattle.k_space.proofs.area.blacken.Goals as goal

pub loop-segment-preserved : goal.loop-segment-preserved
loop-segment-preserved c =
    let s : SegmentValue = get_or c.loop-segment.segments c.loop-segment.segment-index c.segment-item.result in
    let below : c.below_in-below.result ≡ bound_in c.args.bound s.number (length s.rows) = c.below_in-below.ensures (length s.rows) c.made.ensures.begun ∙ ap (λ k. bound_in c.args.bound k (length s.rows)) c.number.ensures.value in
    ap (set c.loop-segment.segments c.loop-segment.segment-index) (c.blacken_below.ensures ∙ ap (λ n. blackened_segment n s) below ∙ ap (λ (x : SegmentValue). blackened_in c.args.bound x) (sym c.segment-item.is))
    ∙ map_over_more (blackened_in c.args.bound) c.args.segments.now c.loop-segment.segments c.loop-segment.segment-index c.segment-item.result (omega arith) c.loop-segment.invariant c.segment-item.is
