use Rattle.std.proofs.Common.{◌∙◌, List, get_or, refl, sym, subst}
use Rattle.k_words.specs.declared.name_list.Declared.{Declared}
use Rattle.k_words.specs.Chained.{texts, befores, AreChained}
use Rattle.k_words.proofs.Chains.{one_more_kept}
use Rattle.k_words.proofs.name_list.NameList.declare.Goals as goal

pub returns-clause-ok : goal.returns-clause-ok
returns-clause-ok c =
    (one_more_kept c.self.inside.names.items c.push.new.self.items c.self.inside.last c.args.self.now (record { name = c.in_ok-owned.owned; before = get_or c.self.inside.last c.chain-chain.result 0 }) c.args.name.now c.chain-chain.result c.len.result
    c.self.invariant c.self.told c.self.view_is c.requires c.in_ok-owned.ensures.items c.chain-chain.ensures.value c.chain-chain.ensures.below refl c.in_ok-push.ensures.items (c.len.ensures ∙ c.push.new.self.ok.0)).value

pub invariant_of-self : goal.invariant_of-self
invariant_of-self c = subst (λ (names : List Declared). AreChained (texts names) (befores names) c.self.inside.last) (sym c.in_err-push.ensures.items) c.self.invariant

pub invariant_of-self-2 : goal.invariant_of-self-2
invariant_of-self-2 c =
    (one_more_kept c.self.inside.names.items c.push.new.self.items c.self.inside.last c.args.self.now (record { name = c.in_ok-owned.owned; before = get_or c.self.inside.last c.chain-chain.result 0 }) c.args.name.now c.chain-chain.result c.len.result
    c.self.invariant c.self.told c.self.view_is c.requires c.in_ok-owned.ensures.items c.chain-chain.ensures.value c.chain-chain.ensures.below refl c.in_ok-push.ensures.items (c.len.ensures ∙ c.push.new.self.ok.0)).chained
