-- The setup of a trace, and the rules that speak of it alone.
use Rattle.std.specs.Prelude.{◌<◌, ◌≤◌, [], length}
use Rattle.k_types.specs.Trace.{Trace, process_count}
use Rattle.k_types.specs.Types.{HaveFewFields}
use Rattle.k_types.specs.TraceRules.{AreLimits}

-- The trace of the same setup that has no operations.
abbrev pub setup_of : Trace → Trace
setup_of trace = record trace { operations = []; order = [] }

-- The rules of traces that speak of the setup alone.
pub record AreSetupRules (setup : Trace) : Type 0 where
  pub directory : setup.dir_fields ≤ 16
  pub fields : HaveFewFields setup.types
  pub limit_count : length setup.limits ≤ 128
  pub processes : process_count setup ≤ 64
  pub some_process : 0 < process_count setup
  pub shared : setup.shared_heaps ≤ 64
  pub limits : AreLimits setup
