-- How the operations of a translation are gathered.
use Rattle.std.specs.Prelude.{ℕ, zero, suc, ◌<◌, ◌+◌, List, [], ◌∷◌, length}
use Rattle.k_types.specs.declared.op.Op.{Op}
use Rattle.k_types.specs.Trace.{process_count}
use Rattle.k_trace.specs.OperationLists.{OperationLists, with_operation, with_no_operations, no_operations}
use Rattle.k_spawn.specs.declared.script.ScriptLine.{ScriptLine}
use Rattle.k_spawn.specs.Courses.{IsDeedOf}
use Rattle.k_spawn.specs.Scripts.{Script, family}
use Rattle.k_spawn.specs.Translation.{operations_of_deed}

-- with these operations more of the process, in order
unfoldable pub with_operations : OperationLists → ℕ → List Op → OperationLists
with_operations o p [] = o
with_operations o p (op ∷ ops) = with_operations (with_operation o p op) p ops

-- with the operations of these lines more, in order
unfoldable pub with_lines : Script → OperationLists → List ScriptLine → OperationLists
with_lines s o [] = o
with_lines s o (l ∷ ls) = with_lines s (with_operations o l.pid.0 (operations_of_deed s l.deed)) ls

-- so many processes without operations
unfoldable pub idle : ℕ → OperationLists
idle zero = no_operations
idle (suc n) = with_no_operations (idle n)

-- the process and whom the deed speaks of are processes of the script
pub record IsLineOf (s : Script) (l : ScriptLine) : Type 0 where
  pub process : l.pid.0 < process_count s.header.trace + length s.parents
  pub deed : IsDeedOf (family s) l.deed
