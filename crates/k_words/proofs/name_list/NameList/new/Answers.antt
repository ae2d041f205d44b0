use Rattle.std.proofs.Common.{List, replicate, sym, subst}
use Rattle.k_words.specs.declared.name_list.Declared.{Declared}
use Rattle.k_words.specs.declared.name_list.TheConstants.{CHAINS}
use Rattle.k_words.specs.Chained.{texts, befores, AreChained}
use Rattle.k_words.proofs.Chains.{none_chained}
use Rattle.k_words.proofs.name_list.NameList.new.Goals as goal

pub invariant_of-result : goal.invariant_of-result
invariant_of-result c = subst (λ (names : List Declared). AreChained (texts names) (befores names) (replicate CHAINS 0)) (sym c.new.ensures.items) none_chained
