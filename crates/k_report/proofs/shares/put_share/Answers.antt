use Rattle.std.proofs.Common.{◌∷◌, [], arith}
use Rattle.std.proofs.lemmas.Grind.{common_steps}
use Rattle.k_io.proofs.Writings.{writes_nothing}
use Rattle.k_words.specs.Words.{word_at}
use Rattle.k_text.specs.Report.{share_lines}
use Rattle.k_report.proofs.LineLemmas.{writes_line}
use Rattle.k_report.proofs.shares.put_share.Goals as goal

pub returns-then-shares-clause-written : goal.returns-then-shares-clause-written
unfolding share_lines
returns-then-shares-clause-written g c =
    rw c.if-shares.true
    (writes_line _ _ _ _ _ _ (word_at c.args.names.now.procs c.args.pid.0 ∷ word_at c.args.names.now.shared c.args.shared.0 ∷ [])
    (grind (arith, common_steps)) c.write_to.ensures.written)

pub returns-else-shares-clause-written : goal.returns-else-shares-clause-written
unfolding share_lines
returns-else-shares-clause-written g c = rw c.if-shares.false (writes_nothing _ _ _)
