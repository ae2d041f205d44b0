use Rattle.std.proofs.Common.{sym, subst, ◌∙◌, map}
use Rattle.std.proofs.lemmas.List.{length-map}
use Rattle.k_exit.specs.declared.table.Wanted.{Wanted}
use Rattle.k_exit.specs.Exits.{ExitList}
use Rattle.k_exit.specs.Chains.{HasPassed, row_of}
use Rattle.k_exit.proofs.Lists.{passed_end}
use Rattle.k_exit.proofs.table.ExitTable.start.Goals as goal

pub returns-then-is_same : goal.returns-then-is_same
returns-then-is_same c =
    subst (λ (e : ExitList). HasPassed e.items c.args.wanted c.self.inside.from) c.self.view_is
    (subst (λ (w : Wanted). HasPassed (map row_of c.self.inside.items.items) w c.self.inside.from) (c.is_same.ensures c.if-is_same.true) c.self.invariant.passed)

pub returns-else-is_same : goal.returns-else-is_same
returns-else-is_same c =
    subst (λ (e : ExitList). HasPassed e.items c.args.wanted c.len.result) c.self.view_is
    (passed_end (map row_of c.self.inside.items.items) c.args.wanted c.len.result (c.len.ensures ∙ c.self.inside.items.ok.0 ∙ sym (length-map c.self.inside.items.items row_of)))
