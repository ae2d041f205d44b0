use Rattle.std.proofs.Common.{rules}
use Rattle.k_top.proofs.Works.{run_few, setup_legal, setup_ruled, worked_run}
use Rattle.k_top.proofs.working.work_source.Goals as goal

pub run_trace-requires : goal.run_trace-requires
run_trace-requires g c = (search rules, (search rules, c.in_ok-trace.ensures.ok.spelled.is_trace))

pub work_of-requires-clause-setup : goal.work_of-requires-clause-setup
work_of-requires-clause-setup g c = setup_ruled _ _ c.setup.ensures.setup c.setup.ensures.end

pub work_of-requires-clause-legal : goal.work_of-requires-clause-legal
work_of-requires-clause-legal g c = setup_legal _ _ c.setup.ensures.setup c.setup.ensures.end

pub work_of-requires-clause-few : goal.work_of-requires-clause-few
work_of-requires-clause-few g c = run_few _ _ c.in_ok-trace.ensures.ok.spelled.is_trace c.in_ok-outcome.ensures

pub returns-clause-ok : goal.returns-clause-ok
returns-clause-ok g c = worked_run _ _ _ _ _ c.in_ok-trace.ensures.ok c.in_ok-outcome.ensures c.setup.ensures.setup c.in_ok-table.ensures.exact c.in_ok-table.ensures.small
