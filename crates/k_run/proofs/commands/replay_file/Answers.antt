use Rattle.k_status.proofs.Answered.{answered_written}
use Rattle.k_run.proofs.Runs.{replay_named, replay_told}
use Rattle.k_run.proofs.commands.replay_file.Goals as goal

pub tell_end-requires : goal.tell_end-requires
tell_end-requires g c = replay_named _ _ c.replay_source-ended.ensures.ok

pub returns-clause-answered : goal.returns-clause-answered
returns-clause-answered g c = answered_written _ _ _ _ _ (replay_told _ _ c.replay_source-ended.ensures.ok c.replay_source-ended.ensures.err) c.tell_end.ensures.written
