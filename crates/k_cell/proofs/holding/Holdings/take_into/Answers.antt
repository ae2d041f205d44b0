use Rattle.std.proofs.Common.{◌==◌, sym, ap, ◌∙◌}
use Rattle.k_mark.specs.k_types.declared.names.Name.{Name}
use Rattle.k_cell.proofs.Lists.{targets_lead}
use Rattle.k_cell.proofs.Marks.{dropped}
use Rattle.k_cell.proofs.holding.Holdings.take_into.Goals as goal

pub returns-in-Some-clause-some : goal.returns-in-Some-clause-some
returns-in-Some-clause-some c =
    rw (← c.self.view_is, c.name.ensures)
    (dropped c.self.inside.bound c.self.inside.area c.self.inside.exits c.take_into.new.self c.in-Some.link c.in-Some.ensures.some.0 c.in-Some.ensures.some.1 c.self.inside.phase, ap (λ (n : Name). n.seg.0) (sym c.in-Some.ensures.some.1.target) ∙ c.in-Some.ensures.some.2)

pub returns-in-None-clause-none : goal.returns-in-None-clause-none
returns-in-None-clause-none c = rw (← c.self.view_is) (sym (targets_lead c.self.inside.exits.items (λ (n : Name). n.seg.0 == c.args.seg.0)) ∙ c.in-None.ensures.none)
