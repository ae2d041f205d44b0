use Rattle.std.proofs.Common.{◌≡◌, ◌<◌, Some, List, is_some, refl, sym, ap, subst, ◌∙◌, set, length}
use Rattle.k_space.specs.declared.cells.Cell.{Cell}
use Rattle.k_types.specs.State.{Content, Holds}
use Rattle.k_space.specs.Segments.{Row, with_row}
use Rattle.std.proofs.lemmas.Option.{slice_get_within}
use Rattle.k_space.proofs.Rows.{lies_in, same_cell, rewritten, rewritten_view, slot_inside}
use Rattle.std.proofs.lemmas.List.{length-set}
use Rattle.k_space.proofs.Bytes.{bytes_rewritten}
use Rattle.k_space.proofs.segment.Segment.write_int.Goals as goal

pub write_int-requires-clause-there : goal.write_int-requires-clause-there
write_int-requires-clause-there c =
    let live = c.requires.live in
    let l = lies_in _ _ c.self.inside.places.items c.self.inside.cells c.args.self.now c.args.slot.0 live.serial live.row c.self.view_is live.lies in
    ap is_some l.there

pub write_int-requires-clause-field : goal.write_int-requires-clause-field
write_int-requires-clause-field c = λ cell found.
    let live = c.requires.live in
    let l = lies_in _ _ c.self.inside.places.items c.self.inside.cells c.args.self.now c.args.slot.0 live.serial live.row c.self.view_is live.lies in
    let one : l.cell ≡ cell = same_cell (sym l.there ∙ found) in
    let fields : live.row.fields ≡ cell.body.fields = ap (λ (r : Row). r.fields) l.row_is ∙ ap (λ (x : Cell). x.body.fields) one in
    let kind = c.requires.kind live.serial live.row live.lies in
    subst (λ (f : List Content). c.args.field < length f) fields (slice_get_within _ _ _ kind.is)

pub invariant_of-self : goal.invariant_of-self
invariant_of-self c =
    let live = c.requires.live in
    let l = lies_in _ _ c.self.inside.places.items c.self.inside.cells c.args.self.now c.args.slot.0 live.serial live.row c.self.view_is live.lies in
    let cell = l.cell in
    let new : Cell = record cell { body = record cell.body { fields = set cell.body.fields c.args.field (Holds c.args.value) } } in
    let fields : length new.body.fields ≡ length cell.body.fields = length-set cell.body.fields c.args.field (Holds c.args.value) in
    rw (c.write_int.ensures cell l.there) (record {
      sound = rewritten c.self.inside.places.items c.self.inside.cells c.self.inside.room _ c.self.inside.gray c.args.slot.0 cell new c.self.invariant.sound l.there refl fields;
      bytes = bytes_rewritten c.self.inside.places.items c.self.inside.cells c.self.inside.bytes c.args.slot.0 cell new c.self.invariant.bytes l.there fields (slot_inside c.self.inside.cells.slots c.args.slot.0 cell l.there);
      listed = c.self.invariant.listed;
      reserved = c.self.invariant.reserved;
      last = c.self.invariant.last;
    })

pub returns : goal.returns
returns c = λ serial row lies.
    let l = lies_in _ _ c.self.inside.places.items c.self.inside.cells c.args.self.now c.args.slot.0 serial row c.self.view_is lies in
    let cell = l.cell in
    let new : Cell = record cell { body = record cell.body { fields = set cell.body.fields c.args.field (Holds c.args.value) } } in
    let fields : cell.body.fields ≡ row.fields = sym (ap (λ (r : Row). r.fields) l.row_is) in
    let tys : cell.body.ty ≡ row.ty = sym (ap (λ (r : Row). r.ty) l.row_is) in
    rw (c.write_int.ensures cell l.there)
    (rewritten_view _ _ _ c.self.inside.places.items c.self.inside.cells c.self.inside.gray c.args.self.now c.args.slot.0 serial cell new row c.self.invariant.sound c.self.view_is l.there lies tys
    ∙ ap (λ (f : List Content). with_row c.args.self.now serial (Some (record row { fields = set f c.args.field (Holds c.args.value) }))) fields)
