-- The translation of a script: a trace of the second version.
use Rattle.std.specs.Prelude.{ℕ, ◌+◌, ◌==◌, List, [], ◌∷◌, ◌++◌, map, length, Some, true, if◌then◌else◌}
use Rattle.std.specs.List.{flat_map}
use Rattle.k_types.specs.declared.names.LimitId.{LimitId}
use Rattle.k_types.specs.declared.setup.LimitRow.{LimitRow}
use Rattle.k_types.specs.declared.op.Op.{Op}
use Rattle.k_types.specs.declared.op.Op.TheVariants.{Kill, Resize}
use Rattle.k_types.specs.Numbers.{numbers_below}
use Rattle.k_trace.specs.Named.{NamedTrace}
use Rattle.k_spawn.specs.declared.script.Deed.{Deed}
use Rattle.k_spawn.specs.declared.script.Deed.TheVariants.{Does, Spawns, Reaps}
use Rattle.k_spawn.specs.declared.script.ScriptLine.{ScriptLine}
use Rattle.k_types.specs.Trace.{process_count}
use Rattle.k_spawn.specs.Families.{children, parent_of, reaped_with}
use Rattle.k_spawn.specs.Scripts.{Script, family, limit_for, process_names, limit_names}

-- the limit of a process
abbrev pub limit_id : Script → ℕ → LimitId
limit_id s p = record { 0 = limit_for s p }

-- the end of one child: its process is ended, and its limit gets the maximum 0
abbrev pub ending : Script → ℕ → List Op
ending s c = Kill (record { 0 = c }) ∷ Resize (limit_id s c) 0 ∷ []

-- what a line does, as operations of its process
abbrev pub operations_of_deed : Script → Deed → List Op
operations_of_deed s (Does op) = op ∷ []
operations_of_deed s (Spawns c max) = Resize (limit_id s c.0) max ∷ []
operations_of_deed s (Reaps c) = flat_map (ending s) (reaped_with (family s) c.0)

-- the limit of a child: hard, of maximum 0, under the limit of its parent
abbrev pub child_row : Script → ℕ → LimitRow
child_row s c = record { parent = Some (limit_id s (parent_of (family s) c)); hard = true; max = 0 }

-- the operations of a process in some lines
abbrev pub operations_in : Script → List ScriptLine → ℕ → List Op
operations_in s lines p = flat_map (λ (l : ScriptLine). if l.pid.0 == p then operations_of_deed s l.deed else []) lines

-- the process of each operation in some lines
abbrev pub order_of : Script → List ScriptLine → List ℕ
order_of s lines = flat_map (λ (l : ScriptLine). map (λ op. l.pid.0) (operations_of_deed s l.deed)) lines

-- the trace that the script stands for: the children are limits behind those of the header, and processes behind those of the header
abbrev pub translation : Script → NamedTrace
translation s = record {
  names = record s.header.names { limits = limit_names s; procs = process_names s };
  trace = record s.header.trace {
    version = 2;
    limits = s.header.trace.limits ++ map (child_row s) (children (family s));
    procs = s.header.trace.procs ++ map (limit_id s) (children (family s));
    operations = map (operations_in s s.lines) (numbers_below (process_count s.header.trace + length s.parents));
    order = order_of s s.lines;
  };
}
