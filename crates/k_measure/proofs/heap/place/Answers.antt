use Rattle.std.proofs.Common.{◌≡◌, ◌+◌, ◌∷◌, ◌∙◌, zero, suc, refl, sym, subst, ap, arith, List, [], length, Some, length-append}
use Rattle.std.specs.Vec.Iter.{into_iter_items}
use Rattle.k_space.specs.Objects.{BodyValue}
use Rattle.k_space.specs.Segments.{SegmentValue, new_row}
use Rattle.k_space.proofs.Taken.{room_made}
use Rattle.k_measure.specs.Inside.{AreNew, KeepsInside}
use Rattle.k_measure.proofs.Inside.{placed_inside}
use Rattle.k_measure.proofs.heap.place.Goals as goal

pub place-requires : goal.place-requires
place-requires c =
    let at = c.loop-body.invariant in
    let steps : into_iter_items c.loop-body.body-iterator ≡ c.in-Some.body ∷ into_iter_items c.next.new.self = c.in-Some.ensures.steps.0 in
    let left : length (into_iter_items c.loop-body.body-iterator) ≡ suc (length (into_iter_items c.next.new.self)) = ap (λ (bs : List BodyValue). length bs) steps in
    room_made c.loop-body.segment c.made-given.ensures.sound (omega (arith, at.begun, at.room, left))

pub loop-body-preserved : goal.loop-body-preserved
loop-body-preserved c =
    let at = c.loop-body.invariant in
    let b = c.in-Some.body in
    let steps : into_iter_items c.loop-body.body-iterator ≡ b ∷ into_iter_items c.next.new.self = c.in-Some.ensures.steps.0 in
    let new : AreNew (b ∷ into_iter_items c.next.new.self) = subst (λ (bs : List BodyValue). AreNew bs) steps at.new in
    let placed = c.place.ensures.placed in
    let rows : length c.place.new.self.rows ≡ length c.loop-body.segment.rows + 1 =
    ap (λ (s : SegmentValue). length s.rows) placed ∙ length-append c.loop-body.segment.rows (Some (new_row c.place.result.slot.0 b) ∷ []) in
    let room : c.place.new.self.room ≡ c.loop-body.segment.room = ap (λ (s : SegmentValue). s.room) placed in
    let left : length (into_iter_items c.loop-body.body-iterator) ≡ suc (length (into_iter_items c.next.new.self)) = ap (λ (bs : List BodyValue). length bs) steps in
    record {
      begun = omega (arith, rows);
      room = omega (arith, rows, room, at.room, left);
      new = λ i x there. new (suc i) x there;
      inside = subst (λ (s : SegmentValue). KeepsInside s) (sym placed) (placed_inside c.loop-body.segment c.place.result.slot.0 b (new zero b refl) at.inside);
      number = ap (λ (s : SegmentValue). s.number) placed ∙ at.number;
    }
