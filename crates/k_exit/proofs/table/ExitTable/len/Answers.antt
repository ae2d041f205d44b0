use Rattle.std.proofs.Common.{subst}
use Rattle.k_exit.specs.Exits.{ExitList, AreDistinct}
use Rattle.k_exit.proofs.table.ExitTable.len.Goals as goal

pub returns-clause-distinct : goal.returns-clause-distinct
returns-clause-distinct c = subst (λ (e : ExitList). AreDistinct e.items) c.self.view_is c.self.invariant.distinct
