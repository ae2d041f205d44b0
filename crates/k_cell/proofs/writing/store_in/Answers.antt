use Rattle.std.proofs.Common.{inl, inr, refl, Some, None, slice_get, sym, ap, ◌∙◌, option_map}
use Rattle.k_mark.specs.k_types.Names.{name_of}
use Rattle.k_mark.specs.k_types.State.{Refers}
use Rattle.k_mark.specs.k_space.Areas.{row_of_name}
use Rattle.k_cell.specs.Looks.{row_fields}
use Rattle.k_cell.proofs.Written.{has_ref, holds_ref_of, kind_there, lent_same, none_there, same_if}
use Rattle.k_cell.proofs.writing.store_in.Goals as goal

pub returns-in_err-slot-clause-stored : goal.returns-in_err-slot-clause-stored
returns-in_err-slot-clause-stored c =
    rw (none_there c.args.area.now (name_of c.args.at) c.in_ok-segment.segment.now c.args.field (sym c.in_ok-segment.ensures.value) c.in_err-slot.ensures)
    (lent_same c.args.area.now c.args.at.seg.0 c.in_ok-segment.segment.now (sym c.in_ok-segment.ensures.value))

pub returns-in_err-kind-clause-stored : goal.returns-in_err-kind-clause-stored
returns-in_err-kind-clause-stored c =
    let held = slice_get (row_fields (row_of_name c.args.area.now.segments (name_of c.args.at))) c.args.field in
    same_if _ c.args.area.now _ (name_of c.args.at) c.args.field (Refers (option_map name_of c.args.value))
    (holds_ref_of held None (kind_there c.args.area.now (name_of c.args.at) c.in_ok-segment.segment.now c.in_ok-slot.slot.0 (sym c.in_ok-segment.ensures.value) c.in_ok-slot.ensures c.args.field None c.in_err-kind.ensures) (inl refl))
    (lent_same c.args.area.now c.args.at.seg.0 c.in_ok-segment.segment.now (sym c.in_ok-segment.ensures.value))

pub write_ref-requires-clause-kind : goal.write_ref-requires-clause-kind
write_ref-requires-clause-kind c = λ serial row lies. has_ref row.fields c.args.field (sym (ap Some c.in-Ref.is) ∙ c.in_ok-kind.ensures serial row lies)

pub returns-in-Int-clause-stored : goal.returns-in-Int-clause-stored
returns-in-Int-clause-stored c =
    let held = slice_get (row_fields (row_of_name c.args.area.now.segments (name_of c.args.at))) c.args.field in
    same_if _ c.args.area.now _ (name_of c.args.at) c.args.field (Refers (option_map name_of c.args.value))
    (holds_ref_of held (Some c.in_ok-kind.kind) (kind_there c.args.area.now (name_of c.args.at) c.in_ok-segment.segment.now c.in_ok-slot.slot.0 (sym c.in_ok-segment.ensures.value) c.in_ok-slot.ensures c.args.field (Some c.in_ok-kind.kind) c.in_ok-kind.ensures) (inr (ap Some c.in-Int.is)))
    (lent_same c.args.area.now c.args.at.seg.0 c.in_ok-segment.segment.now (sym c.in_ok-segment.ensures.value))
