use Rattle.std.proofs.Common.{sym, ◌∙◌}
use Rattle.k_mark.proofs.Named.{targets_named}
use Rattle.k_cell.proofs.holding.Holdings.has_exit.Goals as goal

pub returns : goal.returns
returns c = rw (← c.self.view_is) (c.has.ensures ∙ sym (targets_named c.self.inside.exits.items c.args.target))
