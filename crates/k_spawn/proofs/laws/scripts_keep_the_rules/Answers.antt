use Rattle.k_spawn.proofs.ScriptsKeep.{judged_keeps, judged_lines_known}
use Rattle.k_spawn.proofs.laws.scripts_keep_the_rules.Goals as goal

pub returns-clause-rules : goal.returns-clause-rules
returns-clause-rules c bytes s judged = judged_keeps bytes s judged

pub returns-clause-lines : goal.returns-clause-lines
returns-clause-lines c bytes s judged = judged_lines_known bytes s judged
