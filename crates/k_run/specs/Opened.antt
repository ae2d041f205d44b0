-- Which run was opened.
use Rattle.std.specs.Prelude.{map}
use Rattle.k_types.specs.declared.names.Pid.{Pid}
use Rattle.k_types.specs.Trace.{Trace, trace_of}
use Rattle.k_trace.specs.Named.{NamedTrace}
use Rattle.k_opening.specs.k_outcome.k_process.declared.process.Process.{Process}
use Rattle.k_opening.specs.k_outcome.k_process.Worlds.{WorldValue}
use Rattle.k_opening.specs.k_still.declared.first.FirstCells.{FirstCells}

-- the trace of the cells' setup, of the operations of their processes and of their order
abbrev pub trace_in : FirstCells → Trace
trace_in first = trace_of first.setup (map (λ (p : Process). p.ops.items) first.heaps.processes.items) (map (λ (pid : Pid). pid.0) first.order.items)

-- the trace with the names that it declares
abbrev pub named_in : FirstCells → NamedTrace
named_in first = record { names = first.names; trace = trace_in first }

-- the run of this trace, with the table of its journal
abbrev pub world_in : FirstCells → WorldValue
world_in first = record { trace = trace_in first; table = first.heaps.book.journal.table }
