use Rattle.std.proofs.Common.{Some, sym, ap, ◌∙◌, option_map}
use Rattle.k_space.specs.Segments.{Row}
use Rattle.k_space.proofs.Rows.{row_there}
use Rattle.k_space.proofs.segment.Segment.find.Goals as goal

pub returns-in-At : goal.returns-in-At
returns-in-At c =
    let places = c.self.inside.places.items in
    let here = sym c.at.ensures ∙ c.in-At.is in
    let placed = c.self.invariant.sound.placed c.args.serial.0 c.in-At.slot c.in-At.field-1 here in
    ap (option_map (λ (row : Row). row.slot)) (sym (row_there _ _ places c.self.inside.cells c.args.self.now c.args.serial.0 c.in-At.slot c.in-At.field-1 (Some placed.cell) c.self.view_is here placed.there))
