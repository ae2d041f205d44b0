use Rattle.std.proofs.Common.{◌≡◌, sym, ap, ◌∙◌}
use Rattle.k_mark.specs.k_space.Areas.{unmarked}
use Rattle.k_cell.proofs.Areas.{can_place_alike}
use Rattle.k_cell.proofs.Rooted.{all_same, distinct_inside}
use Rattle.k_cell.proofs.rooting.RootedArea.has_room_in.Goals as goal

pub has_room_in-requires : goal.has_room_in-requires
has_room_in-requires c = distinct_inside c.self.inside.area c.args.self.now c.self.inside.noted.items c.self.view_is c.requires

pub returns : goal.returns
returns c =
    let same : unmarked c.args.self.now ≡ unmarked c.self.inside.area = sym (ap unmarked c.self.view_is) ∙ all_same c.self.inside.area c.self.inside.noted.items in (
      λ yes. can_place_alike c.self.inside.area c.args.self.now same c.args.seg.0 (c.has_room_in.ensures.0 yes),
      λ can. c.has_room_in.ensures.1 (can_place_alike c.args.self.now c.self.inside.area (sym same) c.args.seg.0 can),
    )
