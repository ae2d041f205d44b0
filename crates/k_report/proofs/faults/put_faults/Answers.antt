use Rattle.std.proofs.Common.{arith}
use Rattle.std.proofs.lemmas.Grind.{common_steps}
use Rattle.k_text.specs.Report.{fault_line}
use Rattle.k_report.proofs.LineLemmas.{writes_line}
use Rattle.k_report.proofs.faults.put_faults.Goals as goal

pub returns-clause-written : goal.returns-clause-written
unfolding fault_line
returns-clause-written g c =
    writes_line _ _ _ _ _ _ (fault_line c.args.names.now (g.V.View.events c.args.view.now) c.args.pid.0)
    (grind (arith, common_steps)) c.write_to.ensures.written
