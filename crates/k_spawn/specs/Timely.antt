-- Who may spawn and reap a child, and when.
use Rattle.std.specs.Prelude.{ℕ, ◌*◌, ◌==◌, ◌&&◌, ◌||◌, not, Bool, true, false, List, length}
use Rattle.std.specs.List.{list_any}
use Rattle.k_types.specs.Names.{among}
use Rattle.k_types.specs.Totals.{total}
use Rattle.k_types.specs.TraceRules.{is_exit}
use Rattle.k_spawn.specs.declared.script.Deed.{Deed}
use Rattle.k_spawn.specs.declared.script.Deed.TheVariants.{Does, Spawns, Reaps}
use Rattle.k_spawn.specs.declared.script.ScriptLine.{ScriptLine}
use Rattle.k_spawn.specs.Families.{Family, is_child, is_parent, reaped_with}

-- the deed spawns that child
abbrev pub spawns : ℕ → Deed → Bool
spawns c (Does op) = false
spawns c (Spawns d max) = d.0 == c
spawns c (Reaps d) = false

-- the deed reaps that child, by itself or with an ancestor
abbrev pub reaps : Family → ℕ → Deed → Bool
reaps f c (Does op) = false
reaps f c (Spawns d max) = false
reaps f c (Reaps d) = among c (reaped_with f d.0)

-- the deed is an exit
abbrev pub exits : Deed → Bool
exits (Does op) = is_exit op
exits (Spawns c max) = false
exits (Reaps c) = false

-- how many operations the deed becomes: two for each whom a reaping ends
abbrev pub weight : Family → Deed → ℕ
weight f (Does op) = 1
weight f (Spawns c max) = 1
weight f (Reaps c) = 2 * length (reaped_with f c.0)

-- one of the lines spawns the child
abbrev pub was_spawned : List ScriptLine → ℕ → Bool
was_spawned lines c = list_any (λ l. spawns c l.deed) lines

-- one of the lines reaps the child
abbrev pub was_reaped : Family → List ScriptLine → ℕ → Bool
was_reaped f lines c = list_any (λ l. reaps f c l.deed) lines

-- one of the lines is an exit of the process
abbrev pub has_left : List ScriptLine → ℕ → Bool
has_left lines p = list_any (λ l. (l.pid.0 == p) && exits l.deed) lines

-- the operations that the lines become
abbrev pub operations_so_far : Family → List ScriptLine → ℕ
operations_so_far f lines = total (λ l. weight f l.deed) lines

-- whom the deed of the process speaks of is a child of that process
abbrev pub is_of_parent : Family → ℕ → Deed → Bool
is_of_parent f p (Does op) = true
is_of_parent f p (Spawns c max) = is_parent f p c.0
is_of_parent f p (Reaps c) = is_parent f p c.0

-- after the lines the process is one of the header, or was spawned and not reaped
abbrev pub is_running : Family → List ScriptLine → ℕ → Bool
is_running f lines p = not (is_child f p) || (was_spawned lines p && not (was_reaped f lines p))

-- a child is spawned once, and reaped once after that
abbrev pub is_due : Family → List ScriptLine → Deed → Bool
is_due f lines (Does op) = true
is_due f lines (Spawns c max) = not (was_spawned lines c.0)
is_due f lines (Reaps c) = was_spawned lines c.0 && not (was_reaped f lines c.0)
