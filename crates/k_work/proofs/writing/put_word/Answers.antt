use Rattle.std.proofs.Common.{◌∷◌, [], arith}
use Rattle.std.proofs.lemmas.Grind.{common_steps}
use Rattle.k_report.proofs.LineLemmas.{writes_line}
use Rattle.k_work.proofs.writing.put_word.Goals as goal

pub returns-clause-written : goal.returns-clause-written
returns-clause-written g c = writes_line _ _ _ _ _ _ (c.args.word.now ∷ []) (grind (arith, common_steps)) c.write_to.ensures.written
