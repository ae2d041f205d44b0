use Rattle.std.proofs.Common.{◌≡◌, Option, Some, option_map, sym, ap, subst, ◌∙◌}
use Rattle.k_mark.specs.k_space.Objects.{HasRef}
use Rattle.k_mark.specs.k_space.Segments.{Row, SegmentValue, row_at}
use Rattle.k_mark.specs.k_space.Areas.{row_in_segment, segment_at}
use Rattle.k_cell.proofs.Areas.{same_row}
use Rattle.k_cell.proofs.writing.write_ref_in.Goals as goal

pub write_ref-requires-clause-kind : goal.write_ref-requires-clause-kind
write_ref-requires-clause-kind c = λ serial row lies.
    let at : Some c.in-Some.segment.now ≡ segment_at c.args.area.now.segments c.args.at.seg.0 = c.in-Some.ensures.value in
    let there : row_at c.in-Some.segment.now c.args.at.serial.0 ≡ Some c.requires.field.row = ap (λ (o : Option SegmentValue). row_in_segment o c.args.at.serial.0) at ∙ c.requires.field.there in
    let slot : Some c.in-Some-find_near.slot.0 ≡ Some c.requires.field.row.slot = c.in-Some-find_near.ensures ∙ ap (option_map (λ (r : Row). r.slot)) there in
    let is : c.in-Some-find_near.slot.0 ≡ c.requires.field.row.slot = cc in
    subst (λ (r : Row). HasRef r.fields c.args.field)
    (sym (same_row c.in-Some.segment.now c.in-Some-find_near.slot.0 serial c.args.at.serial.0 row c.requires.field.row c.made-given.ensures.sound lies there is)) c.requires.field.is
