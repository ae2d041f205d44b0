use Rattle.k_cell.proofs.Marks.{dropped}
use Rattle.k_cell.proofs.holding.Holdings.take_first.Goals as goal

pub returns-in-Some-clause-some : goal.returns-in-Some-clause-some
returns-in-Some-clause-some c =
    rw (← c.self.view_is, c.name.ensures) (dropped c.self.inside.bound c.self.inside.area c.self.inside.exits c.take_first.new.self c.in-Some.link c.in-Some.ensures.some.0 c.in-Some.ensures.some.1 c.self.inside.phase)
