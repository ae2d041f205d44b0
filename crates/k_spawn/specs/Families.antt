-- Processes and their children. Processes are numbered through: those of the header first, then the children.
use Rattle.std.specs.Prelude.{ℕ, zero, suc, ◌<◌, ◌≤◌, ◌+◌, ◌-◌, ◌==◌, ◌&&◌, nat_le, Bool, List, [], ◌∷◌, ◌++◌, filter, length, slice_index_or}
use Rattle.std.specs.List.{flat_map}
use Rattle.k_types.specs.declared.names.Pid.{Pid}
use Rattle.k_types.specs.Numbers.{numbers_from}

-- the number of the processes that are no children, and the parent of each child in the order of their declaration
pub record Family : Type 0 where
  pub first : ℕ
  pub parents : List Pid

-- the process is a child
abbrev pub is_child : Family → ℕ → Bool
is_child f p = nat_le f.first p

-- the place of a child among the children
abbrev pub place_of : Family → ℕ → ℕ
place_of f p = p - f.first

-- the processes of the children
abbrev pub children : Family → List ℕ
children f = numbers_from f.first (length f.parents)

-- the parent of a child
abbrev pub parent_of : Family → ℕ → ℕ
parent_of f p = (slice_index_or f.parents (place_of f p) (record { 0 = 0 })).0

-- the first process is the parent of the second, which is a child
abbrev pub is_parent : Family → ℕ → ℕ → Bool
is_parent f p c = is_child f c && (parent_of f c == p)

-- the children of a process, in the order of their declaration
abbrev pub children_of : Family → ℕ → List ℕ
children_of f p = filter (λ c. parent_of f c == p) (children f)

-- the list of a child where the tree below it is at most so deep: the lists of its own children, whole and in order, and then itself
unfoldable pub reaped_within : Family → ℕ → ℕ → List ℕ
reaped_within f zero p = []
reaped_within f (suc depth) p = flat_map (reaped_within f depth) (children_of f p) ++ p ∷ []

-- the list of a child: whom its reaping ends, in order
abbrev pub reaped_with : Family → ℕ → List ℕ
reaped_with f p = reaped_within f (length f.parents) p

-- there are at most 64 processes, and each parent stands before its child
pub record IsFamily (f : Family) : Type 0 where
  pub few : f.first + length f.parents ≤ 64
  pub before : (k : ℕ) → k < length f.parents → (slice_index_or f.parents k (record { 0 = 0 })).0 < f.first + k
