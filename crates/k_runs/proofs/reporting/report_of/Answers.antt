use Rattle.std.proofs.Common.{sym, subst}
use Rattle.k_text.specs.Named.{AreNamed}
use Rattle.k_run.specs.k_outcome.Ends.{EndValue}
use Rattle.k_runs.proofs.reporting.report_of.Goals as goal

pub report-requires : goal.report-requires
report-requires c = subst (λ (e : EndValue). AreNamed e.names c.args.end.now.setup) (sym c.end.view_is) c.requires
