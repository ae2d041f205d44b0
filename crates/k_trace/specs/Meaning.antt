-- What a trace that was read says.
use Rattle.std.specs.Prelude.{map}
use Rattle.k_limits.specs.k_types.Trace.{trace_of}
use Rattle.k_trace.specs.declared.trace.Trace.{Trace}
use Rattle.k_trace.specs.Named.{NamedTrace}

-- the names, and the trace of the machine
abbrev pub meaning_of : Trace → NamedTrace
meaning_of t = record {
  names = t.names;
  trace = trace_of t.setup (map (λ ops. ops.items) t.ops.items) (map (λ pid. pid.0) t.order.items);
}
