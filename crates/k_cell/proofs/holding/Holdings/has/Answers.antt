use Rattle.std.proofs.Common.{sym, ◌∙◌}
use Rattle.k_mark.proofs.Foreign.{area_has}
use Rattle.k_cell.proofs.holding.Holdings.has.Goals as goal

pub returns : goal.returns
returns c = rw (← c.self.view_is) (c.lives_at.ensures ∙ sym (area_has c.self.inside.area.segments c.self.inside.bound c.self.invariant.tables.numbered.none c.args.at))
