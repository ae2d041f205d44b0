-- Which run it is.
use Rattle.std.specs.Prelude.{[]}
use Rattle.atomic_table.specs.Seated.{TableId}
use Rattle.k_types.specs.Trace.{Trace}
use Rattle.k_tie.specs.Values.{no_table}

-- the trace that is run, and the table of its journal
pub record WorldValue : Type 0 where
  pub trace : Trace
  pub table : TableId

-- the world of no run
abbrev pub no_world : WorldValue
no_world = record {
  trace = record { version = 0; ceiling = 0; dir_fields = 0; types = []; limits = []; procs = []; shared_heaps = 0; operations = []; order = [] };
  table = no_table;
}
