use Rattle.std.proofs.Common.{◌∷◌, [], arith}
use Rattle.std.proofs.lemmas.Grind.{common_steps}
use Rattle.k_io.proofs.Writings.{writes_nothing}
use Rattle.k_words.specs.Words.{word_at}
use Rattle.k_words.specs.Numbers.{register_word}
use Rattle.k_text.specs.Named.{name_word}
use Rattle.k_text.specs.Report.{root_lines}
use Rattle.k_report.proofs.LineLemmas.{writes_line}
use Rattle.k_report.proofs.roots.put_root.Goals as goal

pub returns-in-None-clause-written : goal.returns-in-None-clause-written
unfolding root_lines
returns-in-None-clause-written g c = rw c.in-None.is (writes_nothing _ _ _)

pub returns-in-Some-clause-written : goal.returns-in-Some-clause-written
unfolding root_lines
returns-in-Some-clause-written g c =
    rw c.in-Some.is
    (writes_line _ _ _ _ _ _ (word_at c.args.names.now.procs c.args.pid.0 ∷ register_word c.args.r.0 ∷ name_word c.args.names.now c.in-Some.name ∷ [])
    (grind (arith, common_steps)) c.write_to.ensures.written)
