use Rattle.std.proofs.Common.{List, get_or, sym, ap, ◌∙◌}
use Rattle.k_mark.specs.k_types.Names.{name_of}
use Rattle.k_mark.specs.k_types.State.{Content, Holds}
use Rattle.k_cell.proofs.Found.{fields_found}
use Rattle.k_cell.proofs.holding.Holdings.field.Goals as goal

pub returns : goal.returns
returns c =
    rw (← c.self.view_is)
    (c.field_at.ensures ∙ sym (ap (λ (xs : List Content). get_or xs c.args.field (Holds 0)) (fields_found (name_of c.args.at) c.self.inside.area.segments c.self.inside.bound c.self.invariant.tables.numbered.none)))
