use Rattle.std.proofs.Common.{◌==◌, ◌∙◌}
use Rattle.k_mark.specs.k_types.declared.names.Name.{Name}
use Rattle.k_cell.proofs.Lists.{targets_lead}
use Rattle.k_cell.proofs.holding.Holdings.leads_into.Goals as goal

pub returns : goal.returns
returns c = rw (← c.self.view_is) (c.leads_into.ensures ∙ targets_lead c.self.inside.exits.items (λ (n : Name). n.seg.0 == c.args.seg.0))
