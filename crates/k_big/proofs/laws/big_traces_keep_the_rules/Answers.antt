use Rattle.k_big.proofs.Rules.{big_is_trace}
use Rattle.k_big.proofs.laws.big_traces_keep_the_rules.Goals as goal

pub returns : goal.returns
returns c = big_is_trace
