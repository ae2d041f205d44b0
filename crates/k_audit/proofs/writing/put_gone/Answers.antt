use Rattle.std.proofs.Common.{◌∷◌, [], arith, codes}
use Rattle.std.proofs.lemmas.Grind.{common_steps}
use Rattle.k_io.proofs.Writings.{writes_nothing}
use Rattle.k_words.specs.Words.{word_at}
use Rattle.k_report.proofs.LineLemmas.{writes_line}
use Rattle.k_audit.specs.Snapshots.{gone_line}
use Rattle.k_audit.proofs.writing.put_gone.Goals as goal

pub returns-then-lives-clause-written : goal.returns-then-lives-clause-written
unfolding gone_line
returns-then-lives-clause-written g c = rw c.if-lives.true (writes_nothing _ _ _)

pub returns-else-lives-clause-written : goal.returns-else-lives-clause-written
unfolding gone_line
returns-else-lives-clause-written g c =
    rw c.if-lives.false
    (writes_line _ _ _ _ _ _ (codes "gone" ∷ word_at c.args.names.now.procs c.args.pid.0 ∷ []) (grind (arith, common_steps)) c.write_to.ensures.written)
