use Rattle.std.proofs.Common.{◌≡◌, Some, sym, ap, ◌∙◌, get_or, option_map}
use Rattle.std.specs.Option.{option_copied}
use Rattle.k_space.specs.Cells.{get}
use Rattle.k_space.specs.declared.marks.Place.TheVariants.{Empty}
use Rattle.k_space.specs.Segments.{Row}
use Rattle.k_space.proofs.Rows.{row_there}
use Rattle.k_space.proofs.segment.Segment.find_near.Goals as goal

pub returns-then-cell-serial : goal.returns-then-cell-serial
returns-then-cell-serial c =
    let places = c.self.inside.places.items in
    let cells = c.self.inside.cells in
    let found : get cells c.args.hint.0 ≡ Some c.in-Some.cell.now = sym c.get.ensures ∙ ap option_copied c.in-Some.is in
    let kept = c.self.invariant.sound.kept c.args.hint.0 c.in-Some.cell.now found in
    let here = ap (λ i. get_or places i Empty) (sym c.if-cell-serial.true) ∙ kept.there in
    ap (option_map (λ (row : Row). row.slot)) (sym (row_there _ _ places cells c.args.self.now c.args.serial.0 c.args.hint.0 kept.mark (Some c.in-Some.cell.now) c.self.view_is here found))
