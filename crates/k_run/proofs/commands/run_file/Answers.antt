use Rattle.k_status.proofs.Answered.{answered_written}
use Rattle.k_run.proofs.Runs.{run_named, run_told}
use Rattle.k_run.proofs.commands.run_file.Goals as goal

pub tell_end-requires : goal.tell_end-requires
tell_end-requires g c = run_named _ _ c.run_source-ended.ensures.ok

pub returns-clause-answered : goal.returns-clause-answered
returns-clause-answered g c = answered_written _ _ _ _ _ (run_told _ _ c.run_source-ended.ensures.ok c.run_source-ended.ensures.err) c.tell_end.ensures.written
