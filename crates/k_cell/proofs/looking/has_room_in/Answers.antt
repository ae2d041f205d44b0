use Rattle.std.proofs.Common.{◌≡◌, Some, sym, inr}
use Rattle.k_mark.specs.k_space.Areas.{segment_at}
use Rattle.k_cell.proofs.Living.{room_there}
use Rattle.k_cell.proofs.looking.has_room_in.Goals as goal

pub returns-in-Some : goal.returns-in-Some
returns-in-Some c =
    let there : segment_at c.args.area.now.segments c.args.seg.0 ≡ Some c.in-Some.segment.now = sym c.in-Some.ensures in (
      λ yes. record { segment = c.in-Some.segment.now; there = there; left = inr (c.has_room.ensures.0 yes) },
      λ can. c.has_room.ensures.1 (room_there c.args.area.now.segments c.args.seg.0 c.in-Some.segment.now there c.made-given.ensures.sound can),
    )
