use Rattle.std.proofs.Common.{sym, ◌∙◌}
use Rattle.k_mark.specs.k_types.Names.{name_of}
use Rattle.k_cell.proofs.Found.{field_found}
use Rattle.k_cell.proofs.holding.Holdings.found.Goals as goal

pub returns : goal.returns
returns c =
    rw (← c.self.view_is)
    (c.found_at.ensures ∙ sym (field_found (name_of c.args.at) c.self.inside.area.segments c.self.inside.bound c.args.field c.self.invariant.tables.numbered.none))
