-- The operations of processes, and their order.
use Rattle.std.specs.Prelude.{◌≡◌, ℕ, ◌<◌, Bool, false, List, [], ◌∷◌, ◌++◌, slice_set, slice_index_or}
use Rattle.k_limits.specs.k_types.declared.op.Op.{Op}
use Rattle.k_trace.specs.Grown.{has_exit}

-- the operations of each process, and the process of each operation in the order of the file
pub record OperationLists : Type 0 where
  pub operations : List (List Op)
  pub order : List ℕ

-- there is no process
abbrev pub no_operations : OperationLists
no_operations = record { operations = []; order = [] }

-- with one process more, which has no operations
abbrev pub with_no_operations : OperationLists → OperationLists
with_no_operations o = record o { operations = o.operations ++ [] ∷ [] }

-- with one operation more, of that process
abbrev pub with_operation : OperationLists → ℕ → Op → OperationLists
with_operation o p op = record {
  operations = slice_set o.operations p (slice_index_or o.operations p [] ++ op ∷ []);
  order = o.order ++ p ∷ [];
}

-- exactly the processes that are marked have an exit
abbrev pub AreEnded : List (List Op) → List Bool → Type 0
AreEnded operations ended = (p : ℕ) → p < 64 → slice_index_or ended p false ≡ has_exit (slice_index_or operations p [])
