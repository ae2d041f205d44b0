-- The rules of a trace that its setup keeps alone.
use Rattle.k_types.specs.Trace.{Trace}
use Rattle.k_types.specs.TraceRules.{KeepsRules}
use Rattle.k_laws.specs.Setups.{AreSetupRules, setup_of}

-- the setup keeps the rules that speak of it alone
pub setup_rules : (trace : Trace) → KeepsRules trace → AreSetupRules (setup_of trace)
setup_rules trace rules = record {
  directory = rules.directory;
  fields = rules.fields;
  limit_count = rules.limit_count;
  processes = rules.processes;
  some_process = rules.some_process;
  shared = rules.shared;
  limits = record {
    tree = rules.limits.tree;
    rooted = rules.limits.rooted;
    root = rules.limits.root;
    limited = rules.limits.limited;
    fits = rules.limits.fits;
    small = rules.limits.small;
  };
}
