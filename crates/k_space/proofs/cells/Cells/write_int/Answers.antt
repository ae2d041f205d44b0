use Rattle.std.proofs.Common.{◌≡◌, slice_set, sym, ap, ◌∙◌, is_some}
use Rattle.std.proofs.lemmas.Option.{slice_get_within}
use Rattle.k_types.specs.State.{Holds}
use Rattle.k_space.specs.Objects.{BodyValue}
use Rattle.k_space.specs.declared.cells.Cell.{Cell}
use Rattle.k_space.specs.declared.cells.SlotState.TheVariants.{Full}
use Rattle.k_space.specs.Cells.{CellsValue, get, with_cell}
use Rattle.k_space.proofs.FreeSlots.{cell_there, full_there, kept, read_there, rewritten_value}
use Rattle.k_space.proofs.Rows.{same_cell}
use Rattle.k_space.proofs.cells.Cells.write_int.Goals as goal

pub invariant_of-self : goal.invariant_of-self
invariant_of-self c =
    let states = c.self.inside.states.items in
    let there = full_there states c.args.slot (ap (λ (v : CellsValue). is_some (get v c.args.slot)) c.self.view_is ∙ c.requires.there) in
    let within = slice_get_within states c.args.slot (Full there.0) there.1 in
    let here = read_there states c.args.slot c.index_mut.result.now (Full c.in-Full.cell) within c.index_mut.ensures.value c.in-Full.is in
    kept states c.self.inside.free c.self.inside.count c.args.slot c.in-Full.cell _ c.self.invariant here

pub returns : goal.returns
returns c = λ cell found.
    let states = c.self.inside.states.items in
    let there = full_there states c.args.slot (ap (λ (v : CellsValue). is_some (get v c.args.slot)) c.self.view_is ∙ c.requires.there) in
    let within = slice_get_within states c.args.slot (Full there.0) there.1 in
    let here = read_there states c.args.slot c.index_mut.result.now (Full c.in-Full.cell) within c.index_mut.ensures.value c.in-Full.is in
    let one : c.in-Full.cell ≡ cell = same_cell (sym (cell_there states c.args.slot (Full c.in-Full.cell) here) ∙ ap (λ (v : CellsValue). get v c.args.slot) c.self.view_is ∙ found) in
    rewritten_value states _ c.args.slot _ c.args.self.now c.self.view_is
    ∙ ap (λ (b : BodyValue). with_cell c.args.self.now c.args.slot (record { serial = c.in-Full.cell.serial; body = b })) c.write_int.ensures
    ∙ ap (λ (x : Cell). with_cell c.args.self.now c.args.slot (record x { body = record x.body { fields = slice_set x.body.fields c.args.field (Holds c.args.value) } })) one
