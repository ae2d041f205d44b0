use Rattle.k_run.proofs.commands.run_source.Goals as goal

pub run_trace-requires : goal.run_trace-requires
run_trace-requires g c = (c.type_bounds.sync-G, (c.type_bounds.sync-R, c.in_ok-trace.ensures.ok.spelled.is_trace))
