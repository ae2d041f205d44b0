-- Scripts: a header, children and lines.
use Rattle.std.specs.Prelude.{ℕ, ◌+◌, List, ◌++◌, length, if◌then◌else◌}
use Rattle.k_types.specs.declared.names.Pid.{Pid}
use Rattle.k_types.specs.Trace.{process_count, limit_of}
use Rattle.k_trace.specs.Words.{Text}
use Rattle.k_trace.specs.Named.{NamedTrace}
use Rattle.k_spawn.specs.declared.script.ScriptLine.{ScriptLine}
use Rattle.k_spawn.specs.Families.{Family, is_child, place_of}

-- a script: the header as a trace that has no operations; the name and the parent of each child, in the order of their declaration;
-- and the lines
pub record Script : Type 0 where
  pub header : NamedTrace
  pub child_names : List Text
  pub parents : List Pid
  pub lines : List ScriptLine

-- the header's processes, and the children
abbrev pub family : Script → Family
family s = record { first = process_count s.header.trace; parents = s.parents }

-- the limit of a process: for a child one of its own, behind those of the header
abbrev pub limit_for : Script → ℕ → ℕ
limit_for s p = if is_child (family s) p then length s.header.trace.limits + place_of (family s) p else limit_of s.header.trace p

-- the names of all processes, by their numbers
abbrev pub process_names : Script → List Text
process_names s = s.header.names.procs ++ s.child_names

-- the names of all limits, by their numbers
abbrev pub limit_names : Script → List Text
limit_names s = s.header.names.limits ++ s.child_names
