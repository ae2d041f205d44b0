use Rattle.std.proofs.Common.{◌≡◌, ◌+◌, ℕ, List, Some, None, ap, ◌∙◌, sum_by, slice_get, take, take_all, arith}
use Rattle.k_exit.proofs.BaseLists.{some_one}
use Rattle.k_space.specs.Segments.{SegmentValue}
use Rattle.k_space.specs.Areas.{segment_at, place_of}
use Rattle.k_mark.specs.Listening.{dead_at, dead_in}
use Rattle.k_mark.specs.Sweeping.{swept_segment, dead_objects, dead_row, dead_bytes_of}
use Rattle.k_mark.proofs.SweepAll.{next_one, distinct_set, swept_more, sum_more, sum_within}
use Rattle.k_mark.proofs.Telling.{told_by, told_by_all, told_on, told_same}
use Rattle.k_mark.proofs.sweeping.sweep_telling.Goals as goal

pub unreachable-requires : goal.unreachable-requires
unreachable-requires g c =
    let n = next_one c.args.area.now.segments c.loop-i.area.segments c.loop-i.i c.loop-i.invariant.segments c.loop-i.invariant.distinct (omega (arith, c.loop-i.invariant.len)) in
    let seg = c.seg_at-seg.ensures n.s n.is in
    let both : None ≡ Some n.s = c.in_default.ensures.value ∙ ap (segment_at c.loop-i.area.segments) seg ∙ n.found in
    cc

pub sweep_segment-requires-clause-objects : goal.sweep_segment-requires-clause-objects
sweep_segment-requires-clause-objects g c =
    let n = next_one c.args.area.now.segments c.loop-i.area.segments c.loop-i.i c.loop-i.invariant.segments c.loop-i.invariant.distinct (omega (arith, c.loop-i.invariant.len)) in
    let seg = c.seg_at-seg.ensures n.s n.is in
    let s : c.in-Some.segment.now ≡ n.s = some_one (c.in-Some.ensures.value ∙ ap (segment_at c.loop-i.area.segments) seg ∙ n.found) in
    let f : SegmentValue → ℕ = λ t. sum_by dead_row t.rows in
    let here : sum_by dead_row c.in-Some.segment.now.rows ≡ sum_by dead_row n.s.rows = ap (λ (t : SegmentValue). sum_by dead_row t.rows) s in
    omega (arith, here, c.requires.objects, c.loop-i.invariant.objects, sum_more (λ (t : SegmentValue). sum_by dead_row t.rows) c.args.area.now.segments c.loop-i.i n.s n.was, sum_within (λ (t : SegmentValue). sum_by dead_row t.rows) c.args.area.now.segments (c.loop-i.i + 1))

pub sweep_segment-requires-clause-bytes : goal.sweep_segment-requires-clause-bytes
sweep_segment-requires-clause-bytes g c =
    let n = next_one c.args.area.now.segments c.loop-i.area.segments c.loop-i.i c.loop-i.invariant.segments c.loop-i.invariant.distinct (omega (arith, c.loop-i.invariant.len)) in
    let seg = c.seg_at-seg.ensures n.s n.is in
    let s : c.in-Some.segment.now ≡ n.s = some_one (c.in-Some.ensures.value ∙ ap (segment_at c.loop-i.area.segments) seg ∙ n.found) in
    let here : sum_by dead_bytes_of c.in-Some.segment.now.rows ≡ sum_by dead_bytes_of n.s.rows = ap (λ (t : SegmentValue). sum_by dead_bytes_of t.rows) s in
    omega (arith, here, c.requires.bytes, c.loop-i.invariant.bytes, sum_more (λ (t : SegmentValue). sum_by dead_bytes_of t.rows) c.args.area.now.segments c.loop-i.i n.s n.was, sum_within (λ (t : SegmentValue). sum_by dead_bytes_of t.rows) c.args.area.now.segments (c.loop-i.i + 1))

pub loop-i-preserved : goal.loop-i-preserved
loop-i-preserved g c =
    let i = c.loop-i.invariant in
    let n = next_one c.args.area.now.segments c.loop-i.area.segments c.loop-i.i i.segments i.distinct (omega (arith, i.len)) in
    let seg = c.seg_at-seg.ensures n.s n.is in
    let s : c.in-Some.segment.now ≡ n.s = some_one (c.in-Some.ensures.value ∙ ap (segment_at c.loop-i.area.segments) seg ∙ n.found) in
    let place : place_of c.loop-i.area.segments c.seg_at-seg.result.0 ≡ c.loop-i.i = ap (place_of c.loop-i.area.segments) seg ∙ n.place in
    let new : c.sweep_segment.new.segment ≡ swept_segment n.s = c.sweep_segment.ensures.segment ∙ ap (λ (t : SegmentValue). swept_segment t) s in
    let objects : sum_by dead_row c.in-Some.segment.now.rows ≡ sum_by dead_row n.s.rows = ap (λ (t : SegmentValue). sum_by dead_row t.rows) s in
    let bytes : sum_by dead_bytes_of c.in-Some.segment.now.rows ≡ sum_by dead_bytes_of n.s.rows = ap (λ (t : SegmentValue). sum_by dead_bytes_of t.rows) s in
    record {
      segments = swept_more c.args.area.now.segments c.loop-i.area.segments c.loop-i.i (place_of c.loop-i.area.segments c.seg_at-seg.result.0) c.sweep_segment.new.segment n i.segments place new;
      room = i.room;
      distinct =
          distinct_set c.loop-i.area.segments (place_of c.loop-i.area.segments c.seg_at-seg.result.0) n.s c.sweep_segment.new.segment i.distinct (ap (slice_get c.loop-i.area.segments) place ∙ n.is)
          (ap (λ (t : SegmentValue). t.number) new);
      len = i.len;
      objects = omega (arith, c.sweep_segment.ensures.objects, objects, i.objects, sum_more (λ (t : SegmentValue). sum_by dead_row t.rows) c.args.area.now.segments c.loop-i.i n.s n.was);
      bytes = omega (arith, c.sweep_segment.ensures.bytes, bytes, i.bytes, sum_more (λ (t : SegmentValue). sum_by dead_bytes_of t.rows) c.args.area.now.segments c.loop-i.i n.s n.was);
      names_room = c.sweep_segment.ensures.room ∙ i.names_room;
      told = λ fits.
          let was = i.told fits in
          let so_far = was.more in
          let counted = sum_more (λ (t : SegmentValue). sum_by dead_row t.rows) c.args.area.now.segments c.loop-i.i n.s n.was in
          let within = sum_within (λ (t : SegmentValue). sum_by dead_row t.rows) c.args.area.now.segments (c.loop-i.i + 1) in
          let kept = i.names_room in
          let now = c.sweep_segment.ensures.told (omega (arith, fits, so_far, counted, within, objects, kept)) in
          told_same (λ m. told_by (take c.loop-i.i c.args.area.now.segments) m + dead_in c.in-Some.segment.now m) (told_by (take (c.loop-i.i + 1) c.args.area.now.segments))
          (sum_by (λ (t : SegmentValue). sum_by dead_row t.rows) (take c.loop-i.i c.args.area.now.segments) + sum_by dead_row c.in-Some.segment.now.rows) (sum_by (λ (t : SegmentValue). sum_by dead_row t.rows) (take (c.loop-i.i + 1) c.args.area.now.segments))
          (g.L.Listener.heard c.args.listener.now) (g.L.Listener.heard c.sweep_segment.new.listener)
          (told_on (told_by (take c.loop-i.i c.args.area.now.segments)) (dead_in c.in-Some.segment.now) (sum_by (λ (t : SegmentValue). sum_by dead_row t.rows) (take c.loop-i.i c.args.area.now.segments)) (sum_by dead_row c.in-Some.segment.now.rows)
          (g.L.Listener.heard c.args.listener.now) (g.L.Listener.heard c.loop-i.listener) (g.L.Listener.heard c.sweep_segment.new.listener) was now)
          (λ m.
          let more = sum_more (λ (t : SegmentValue). dead_in t m) c.args.area.now.segments c.loop-i.i n.s n.was in
          let here : dead_in c.in-Some.segment.now m ≡ dead_in n.s m = ap (λ (t : SegmentValue). dead_in t m) s in
          omega (arith, more, here))
          (omega (arith, counted, objects));
    }

pub returns-clause-told : goal.returns-clause-told
returns-clause-told g c = λ fits.
    let i = c.loop-i.invariant in
    let whole : take c.loop-i.i c.args.area.now.segments ≡ c.args.area.now.segments = take_all c.loop-i.i c.args.area.now.segments (omega (arith, i.len)) in
    told_same (told_by (take c.loop-i.i c.args.area.now.segments)) (dead_at c.args.area.now) (sum_by (λ (t : SegmentValue). sum_by dead_row t.rows) (take c.loop-i.i c.args.area.now.segments)) (dead_objects c.args.area.now)
    (g.L.Listener.heard c.args.listener.now) (g.L.Listener.heard c.loop-i.listener) (i.told fits)
    (λ m. ap (λ (ss : List SegmentValue). told_by ss m) whole ∙ told_by_all m c.args.area.now.segments c.requires.distinct)
    (ap (λ (ss : List SegmentValue). sum_by (λ (t : SegmentValue). sum_by dead_row t.rows) ss) whole)
