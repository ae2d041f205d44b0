-- What the lines of a script so far keep.
use Rattle.std.proofs.Common.{◌≡◌, ◌+◌, ◌^◌, ◌<◌, ◌≤◌, true, false, List, [], ◌∷◌, ◌++◌, length}
use Rattle.std.specs.List.{AllByRecursion}
use Rattle.k_types.specs.declared.names.Pid.{Pid}
use Rattle.k_types.specs.Steps.{in_range}
use Rattle.k_types.specs.Trace.{Trace, process_count}
use Rattle.k_types.specs.TraceRules.{is_of_version, is_spelled}
use Rattle.k_trace.specs.Words.{Text}
use Rattle.k_trace.specs.Named.{NamedTrace}
use Rattle.k_trace.specs.Rules.{AreNames}
use Rattle.k_trace.specs.declared.place.Place.{Place}
use Rattle.k_trace.specs.declared.place.Place.TheVariants.{Version, Kernel, Types, Limits, Procs, Shared, Operations}
use Rattle.k_reader.proofs.Kept.{Holds}
use Rattle.k_spawn.specs.declared.script.Deed.{Deed}
use Rattle.k_spawn.specs.declared.script.Deed.TheVariants.{Does, Spawns, Reaps}
use Rattle.k_spawn.specs.declared.script.ScriptLine.{ScriptLine}
use Rattle.k_spawn.specs.Courses.{IsDeedOf}
use Rattle.k_spawn.specs.Families.{Family, IsFamily}
use Rattle.k_spawn.specs.Judgement.{bare}
use Rattle.k_spawn.specs.Scripts.{Script, family}
use Rattle.k_spawn.specs.Timely.{has_left, is_due, is_of_parent, is_running, operations_so_far}

-- children behind a header: each has a parent before it and a name of its own, and there is room for all
pub record AreChildren (header : NamedTrace) (names : List Text) (parents : List Pid) : Type 0 where
  pub in_order : IsFamily (record { first = process_count header.trace; parents = parents })
  pub few_limits : length header.trace.limits + length parents ≤ 128
  pub named : length names ≡ length parents
  pub heap_names : AreNames ((header.names.procs ++ names) ++ header.names.shared)
  pub limit_names : AreNames (header.names.limits ++ names)

-- what a deed that was read is: an operation of the first version that names what the header declares, or of a maximum that a limit
-- may have
abbrev pub IsGoodDeed : Trace → Deed → Type 0
IsGoodDeed t (Does op) = (in_range t op ≡ true) × (is_spelled op ≡ true) × (is_of_version 1 op ≡ true)
IsGoodDeed t (Spawns c max) = max < 2 ^ 40
IsGoodDeed t (Reaps c) = Unit {0}

-- the line and whom it speaks of are of the family, and its deed is good
pub record IsGoodLine (t : Trace) (f : Family) (l : ScriptLine) : Type 0 where
  pub process : l.pid.0 < f.first + length f.parents
  pub deed : IsDeedOf f l.deed
  pub good : IsGoodDeed t l.deed

-- behind these lines the process of the line goes on, whom it speaks of is its child, and the time has come
pub record IsInTime (f : Family) (before : List ScriptLine) (l : ScriptLine) : Type 0 where
  pub goes_on : has_left before l.pid.0 ≡ false
  pub of_parent : is_of_parent f l.pid.0 l.deed ≡ true
  pub running : is_running f before l.pid.0 ≡ true
  pub due : is_due f before l.deed ≡ true

-- each of the later lines is in time behind those before it
abbrev pub AllInTime : Family → List ScriptLine → List ScriptLine → Type 0
AllInTime f before [] = Unit {0}
AllInTime f before (l ∷ ls) = IsInTime f before l × AllInTime f (before ++ l ∷ []) ls

-- the lines are good and each is in time, and there is room for what they become
pub record AreLines (t : Trace) (f : Family) (lines : List ScriptLine) : Type 0 where
  pub good : AllByRecursion (IsGoodLine t f) lines
  pub in_time : AllInTime f [] lines
  pub room : operations_so_far f lines ≤ 200000

-- there is a header alone, of which the next line stands at that place
pub record IsHeader (place : Place) (s : Script) : Type 0 where
  pub spelled : List (List Text)
  pub header : Holds place s.header spelled
  pub names : s.child_names ≡ []
  pub parents : s.parents ≡ []
  pub lines : s.lines ≡ []

-- there are children behind the header, and no line
pub record IsPeopled (place : Place) (s : Script) : Type 0 where
  pub spelled : List (List Text)
  pub header : Holds place s.header spelled
  pub children : AreChildren s.header s.child_names s.parents
  pub lines : s.lines ≡ []

-- there is a whole header with its children, and lines
pub record IsWhole (s : Script) : Type 0 where
  pub spelled : List (List Text)
  pub header : Holds Shared s.header spelled
  pub children : AreChildren s.header s.child_names s.parents
  pub lines : AreLines s.header.trace (family s) s.lines

-- what is kept where the next line stands
abbrev pub Keeps : Place → Script → Type 0
Keeps Version s = s ≡ bare
Keeps Kernel s = IsHeader Kernel s
Keeps Types s = IsHeader Types s
Keeps Limits s = IsHeader Limits s
Keeps Procs s = IsPeopled Procs s
Keeps Shared s = IsPeopled Shared s
Keeps Operations s = IsWhole s
