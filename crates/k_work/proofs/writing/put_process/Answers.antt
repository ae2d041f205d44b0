use Rattle.std.proofs.Common.{arith}
use Rattle.std.proofs.lemmas.Grind.{common_steps}
use Rattle.k_report.proofs.LineLemmas.{writes_line}
use Rattle.k_work.specs.Lines.{process_line}
use Rattle.k_work.proofs.writing.put_process.Goals as goal

pub returns-clause-written : goal.returns-clause-written
unfolding process_line
returns-clause-written g c = writes_line _ _ _ _ _ _ (process_line c.args.names.now c.args.table.now c.args.pid.0) (grind (arith, common_steps)) c.write_to.ensures.written
