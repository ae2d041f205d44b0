-- The names of a trace.
use Rattle.k_trace.specs.Named.{NamedTrace}
use Rattle.k_trace.specs.Rules.{IsTrace}
use Rattle.k_reports.specs.Spelled.{AreProper}

-- The names of a trace can be told apart.
pub proper : (t : NamedTrace) → IsTrace t → AreProper t.names
proper t h = record { types = h.type_names; limits = h.limit_names; heaps = h.heap_names }
