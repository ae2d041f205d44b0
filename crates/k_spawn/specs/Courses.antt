-- The children and the lines so far, and what is kept beside them.
use Rattle.std.specs.Prelude.{◌≡◌, ℕ, ◌<◌, ◌≤◌, ◌+◌, ◌*◌, ◌||◌, Bool, false, List, [], ◌∷◌, ◌++◌, length, map, slice_index_or}
use Rattle.k_types.specs.declared.names.Pid.{Pid}
use Rattle.k_types.specs.Bounds.{most_operations}
use Rattle.k_types.specs.Names.{among}
use Rattle.k_spawn.specs.declared.script.Deed.{Deed}
use Rattle.k_spawn.specs.declared.script.Deed.TheVariants.{Does, Spawns, Reaps}
use Rattle.k_spawn.specs.declared.script.ScriptLine.{ScriptLine}
use Rattle.k_spawn.specs.Families.{Family, reaped_with}
use Rattle.k_spawn.specs.Timely.{was_spawned, was_reaped, has_left, operations_so_far}

-- the processes and their children, and the lines so far
pub record Course : Type 0 where
  pub family : Family
  pub lines : List ScriptLine

-- a child more of that process
abbrev pub with_child : Course → Pid → Course
with_child c parent = record c { family = record c.family { parents = c.family.parents ++ parent ∷ [] } }

-- a line more
abbrev pub with_deed : Course → Pid → Deed → Course
with_deed c pid deed = record c { lines = c.lines ++ record { pid = pid; deed = deed } ∷ [] }

-- whom the deed reaps, in order
abbrev pub reaped_by : Family → Deed → List ℕ
reaped_by f (Does op) = []
reaped_by f (Spawns c max) = []
reaped_by f (Reaps c) = reaped_with f c.0

-- how many operations the deed becomes that reaps so many
abbrev pub weight_by : Deed → ℕ → ℕ
weight_by (Does op) n = 1
weight_by (Spawns c max) n = 1
weight_by (Reaps c) n = 2 * n

-- whom the deed speaks of is a process of the header or a child
abbrev pub IsDeedOf : Family → Deed → Type 0
IsDeedOf f (Does op) = Unit {0}
IsDeedOf f (Spawns c max) = c.0 < f.first + length f.parents
IsDeedOf f (Reaps c) = c.0 < f.first + length f.parents

-- exactly these are marked beside those that were marked before
abbrev pub AreMarked : List Bool → List Bool → List Pid → Type 0
AreMarked old new pids = (p : ℕ) → p < 64 → slice_index_or new p false ≡ (slice_index_or old p false || among p (map (λ pid. pid.0) pids))

-- the marks and the count are those of the lines, and there are few processes
pub record IsKept (f : Family) (lines : List ScriptLine) (spawned reaped left : List Bool) (operations : ℕ) : Type 0 where
  pub of_spawned : (p : ℕ) → p < 64 → slice_index_or spawned p false ≡ was_spawned lines p
  pub of_reaped : (p : ℕ) → p < 64 → slice_index_or reaped p false ≡ was_reaped f lines p
  pub of_left : (p : ℕ) → p < 64 → slice_index_or left p false ≡ has_left lines p
  pub counted : operations ≡ operations_so_far f lines
  pub few : operations ≤ most_operations
  pub processes : f.first + length f.parents ≤ 64
