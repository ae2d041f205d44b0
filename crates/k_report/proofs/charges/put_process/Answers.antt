use Rattle.std.proofs.Common.{arith}
use Rattle.std.proofs.lemmas.Grind.{common_steps}
use Rattle.k_text.specs.Report.{process_charge_line}
use Rattle.k_report.proofs.LineLemmas.{writes_line}
use Rattle.k_report.proofs.charges.put_process.Goals as goal

pub returns-clause-written : goal.returns-clause-written
unfolding process_charge_line
returns-clause-written g c =
    writes_line _ _ _ _ _ _ (process_charge_line c.args.names.now (g.V.View.trace c.args.view.now) (g.V.View.state c.args.view.now) c.args.pid.0)
    (grind (arith, common_steps)) c.write_to.ensures.written
