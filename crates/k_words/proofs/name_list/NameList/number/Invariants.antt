use Rattle.k_words.specs.Chained.{texts}
use Rattle.k_words.proofs.Chains.{IsAhead}
use Rattle.k_words.proofs.name_list.NameList.number.Given as goal

abbrev pub invariant-loop-link : goal.invariant-loop-link
invariant-loop-link l = IsAhead (texts l.self-inside.names.items) l.name l.link

abbrev pub decreases-loop-link : goal.decreases-loop-link
decreases-loop-link l = l.link
