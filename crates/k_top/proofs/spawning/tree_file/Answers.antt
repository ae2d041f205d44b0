use Rattle.k_status.proofs.Answered.{answered_written}
use Rattle.k_top.proofs.Scripts.{script_named, script_told}
use Rattle.k_top.proofs.spawning.tree_file.Goals as goal

pub tell_end-requires : goal.tell_end-requires
tell_end-requires g c = script_named _ _ c.tree_source-ended.ensures.ok

pub returns-clause-answered : goal.returns-clause-answered
returns-clause-answered g c = answered_written _ _ _ _ _ (script_told _ _ c.tree_source-ended.ensures.ok c.tree_source-ended.ensures.err) c.tell_end.ensures.written
