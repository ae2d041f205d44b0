use Rattle.std.proofs.Common.{subst}
use Rattle.std.specs.Prelude.{IfOk}
use Rattle.k_trace.specs.Named.{NamedTrace}
use Rattle.k_run.specs.Runs.{IsRunOf}
use Rattle.k_top.proofs.workload.run_big.Goals as goal

pub run_trace-requires : goal.run_trace-requires
run_trace-requires g c = (c.type_bounds.sync-G, (c.type_bounds.sync-R, c.in_ok-trace.ensures.rules))

pub returns : goal.returns
returns g c = subst (λ (named : NamedTrace). IfOk c.run_trace.result (IsRunOf named)) c.in_ok-trace.ensures.meaning c.run_trace.ensures
