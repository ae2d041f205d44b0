use Rattle.std.proofs.Common.{arith}
use Rattle.std.proofs.lemmas.Grind.{common_steps}
use Rattle.k_report.proofs.LineLemmas.{writes_line}
use Rattle.k_audit.specs.Snapshots.{made_line}
use Rattle.k_audit.proofs.writing.put_made.Goals as goal

pub returns-clause-written : goal.returns-clause-written
unfolding made_line
returns-clause-written g c =
    writes_line _ _ _ _ _ _ (made_line c.args.names.now (g.V.View.state c.args.view.now) c.args.seg.0) (grind (arith, common_steps)) c.write_to.ensures.written
