use Rattle.k_mark.proofs.Takes.{targets_distinct}
use Rattle.k_cell.proofs.holding.Holdings.exit_count.Goals as goal

pub returns-clause-distinct : goal.returns-clause-distinct
returns-clause-distinct c = rw (← c.self.view_is) (targets_distinct c.self.inside.exits.items c.len.ensures.distinct)
