use Rattle.std.proofs.Common.{List, map, ap, ◌∙◌}
use Rattle.k_exit.specs.declared.chains.Item.{Item}
use Rattle.k_exit.specs.Chains.{row_of}
use Rattle.k_exit.specs.Exits.{ExitList, has_target}
use Rattle.k_exit.proofs.Lists.{has_by}
use Rattle.k_exit.proofs.table.ExitTable.has_in.Goals as goal

pub returns : goal.returns
returns c =
    c.is_some.ensures
    ∙ has_by c.deref.result.now c.args.target c.find_in.result c.find_in.ensures.within c.find_in.ensures.there c.find_in.ensures.none
    ∙ ap (λ (xs : List Item). has_target (map row_of xs) c.args.target) c.deref.ensures.value
    ∙ ap (λ (e : ExitList). has_target e.items c.args.target) c.self.view_is
