-- The theorem, by the induction on the lines.
use Rattle.k_spawn.proofs.ScriptsAgree.{judged_agrees}
use Rattle.k_spawn.proofs.laws.trees_agree.Goals as goal

pub returns : goal.returns
returns c = judged_agrees
