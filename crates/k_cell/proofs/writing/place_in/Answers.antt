use Rattle.std.proofs.Common.{◌≡◌, Some, sym, ap, ◌∙◌, arith}
use Rattle.k_mark.specs.k_space.Areas.{segment_at, with_segment}
use Rattle.k_mark.proofs.AreaRows.{number_found}
use Rattle.k_cell.proofs.Living.{room_there}
use Rattle.k_cell.proofs.writing.place_in.Goals as goal

pub place-requires : goal.place-requires
place-requires c = room_there c.args.area.now.segments c.args.seg.0 c.in-Some.segment.now (sym c.in-Some.ensures.value) c.made-given.ensures.sound c.requires.room

pub returns : goal.returns
returns c =
    let there : segment_at c.args.area.now.segments c.args.seg.0 ≡ Some c.in-Some.segment.now = sym c.in-Some.ensures.value in
    record {
      segment = c.in-Some.segment.now;
      there = there;
      begun = omega (arith, c.made-given.ensures.begun);
      seg = c.place.ensures.seg ∙ number_found c.args.area.now.segments c.args.seg.0 c.in-Some.segment.now there;
      serial = c.place.ensures.serial;
      placed = ap (with_segment c.args.area.now c.args.seg.0) c.place.ensures.placed;
    }
