use Rattle.std.proofs.Common.{◌≡◌, is_some, sym, ap, ◌∙◌}
use Rattle.k_space.specs.declared.cells.Cell.{Cell}
use Rattle.k_space.specs.Segments.{Row, body_of}
use Rattle.k_space.proofs.Rows.{lies_in, same_cell}
use Rattle.k_space.proofs.segment.Segment.body_at.Goals as goal

pub at-requires : goal.at-requires
at-requires c =
    let live = c.requires in
    let l = lies_in _ _ c.self.inside.places.items c.self.inside.cells c.args.self.now c.args.slot.0 live.serial live.row c.self.view_is live.lies in
    ap is_some l.there

pub returns : goal.returns
returns c = λ serial row lies.
    let l = lies_in _ _ c.self.inside.places.items c.self.inside.cells c.args.self.now c.args.slot.0 serial row c.self.view_is lies in
    let one : l.cell ≡ c.at.result.now = same_cell (sym l.there ∙ c.at.ensures) in
    sym (ap (λ (r : Row). body_of r) l.row_is ∙ ap (λ (x : Cell). x.body) one)
