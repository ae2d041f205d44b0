use Rattle.std.proofs.Common.{sym, ◌∙◌}
use Rattle.k_cell.proofs.Found.{type_found}
use Rattle.k_cell.proofs.holding.Holdings.type_of.Goals as goal

pub returns : goal.returns
returns c = rw (← c.self.view_is) (c.type_at.ensures ∙ sym (type_found c.args.at c.self.inside.area.segments c.self.inside.bound c.self.invariant.tables.numbered.none))
