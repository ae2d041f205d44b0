use Rattle.std.proofs.Common.{arith}
use Rattle.std.proofs.lemmas.Grind.{common_steps}
use Rattle.k_report.proofs.LineLemmas.{writes_line}
use Rattle.k_answers.specs.Samples.{sample_words}
use Rattle.k_answers.proofs.samples.put_sample.Goals as goal

pub returns-clause-written : goal.returns-clause-written
returns-clause-written g c = writes_line _ _ _ _ _ _ (sample_words c.args.sample.now) (grind (arith, common_steps)) c.write_to.ensures.written
