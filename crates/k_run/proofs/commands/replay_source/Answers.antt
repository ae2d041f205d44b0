use Rattle.k_run.proofs.commands.replay_source.Goals as goal

pub replay_trace-requires : goal.replay_trace-requires
replay_trace-requires g c = c.in_ok-trace.ensures.ok.spelled.is_trace
