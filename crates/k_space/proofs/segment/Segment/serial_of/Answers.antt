use Rattle.std.proofs.Common.{◌≡◌, is_some, sym, ap, ◌∙◌}
use Rattle.k_space.specs.declared.cells.Cell.{Cell}
use Rattle.k_space.proofs.Rows.{lies_in, same_cell}
use Rattle.k_space.proofs.segment.Segment.serial_of.Goals as goal

pub at-requires : goal.at-requires
at-requires c =
    let live = c.requires in
    let l = lies_in _ _ c.self.inside.places.items c.self.inside.cells c.args.self.now c.args.slot.0 live.serial live.row c.self.view_is live.lies in
    ap is_some l.there

pub returns : goal.returns
returns c = λ serial row lies.
    let l = lies_in _ _ c.self.inside.places.items c.self.inside.cells c.args.self.now c.args.slot.0 serial row c.self.view_is lies in
    let placed = c.self.invariant.sound.placed serial c.args.slot.0 l.mark l.at in
    let one : c.at.result.now ≡ placed.cell = same_cell (sym c.at.ensures ∙ placed.there) in
    ap (λ (x : Cell). x.serial.0) one ∙ placed.serial_is
