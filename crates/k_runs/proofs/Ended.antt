-- What the end of a run of a trace has.
use Rattle.k_trace.specs.Named.{NamedTrace}
use Rattle.k_trace.specs.Rules.{IsTrace}
use Rattle.k_text.specs.Named.{AreNamed}
use Rattle.k_run.specs.k_outcome.Ends.{EndValue}
use Rattle.k_run.specs.Runs.{IsRunOf}

-- all that the trace declares has a name
pub named_in_run : (t : NamedTrace) (end : EndValue) → IsTrace t → IsRunOf t end → AreNamed end.names end.setup
named_in_run t end is run = rw run.names (rw run.setup (record { types = is.types_named; limits = is.limits_named; procs = is.procs_named; shared = is.shared_named }))
