-- What the lines so far keep.
use Rattle.std.proofs.Common.{◌≡◌, ℕ, ◌^◌, ◌<◌, ◌≤◌, true, List, [], ◌∷◌, ◌++◌, length, get_or, None}
use Rattle.k_limits.specs.k_types.declared.names.Field.{Field}
use Rattle.k_limits.specs.k_types.declared.names.LimitId.{LimitId}
use Rattle.k_limits.specs.k_types.declared.setup.LimitRow.{LimitRow}
use Rattle.k_limits.specs.k_types.Types.{HaveFewFields, object_size}
use Rattle.k_limits.specs.k_types.Trace.{row_of}
use Rattle.k_limits.specs.k_types.TraceRules.{AreOperations, IsBuilt, IsTree}
use Rattle.k_limits.specs.k_types.Limits.{max_of}
use Rattle.k_words.specs.Words.{Text}
use Rattle.k_trace.specs.declared.place.Place.{Place}
use Rattle.k_trace.specs.declared.place.Place.TheVariants.{Version, Kernel, Types, Limits, Procs, Shared, Operations}
use Rattle.k_trace.specs.Named.{NamedTrace}
use Rattle.k_trace.specs.Rules.{AreNames}
use Rattle.k_trace.specs.Spelling.{words}
use Rattle.k_trace.specs.Grown.{blank, with_version}
use Rattle.k_reader.proofs.Steps.{version_words}
use Rattle.k_reader.proofs.OpRules.{none_each}
use Rattle.k_reader.proofs.Reserved.{AllFit}

pub record IsKernel (ceiling dir_fields : ℕ) : Type 0 where
  pub small : ceiling < 2 ^ 40
  pub few : dir_fields ≤ 16
  pub room : object_size dir_fields ≤ ceiling

pub record AreTypes (names : List Text) (types : List (List Field)) : Type 0 where
  pub few : length types ≤ 256
  pub few_fields : HaveFewFields types
  pub are_names : AreNames names
  pub named : length names ≡ length types

pub record AreRows (names : List Text) (rows : List LimitRow) : Type 0 where
  pub few : length rows ≤ 128
  pub tree : IsTree rows
  pub root : (row_of rows 0).hard ≡ true
  pub rooted : (m : ℕ) → m < length rows → (row_of rows m).parent ≡ None → m ≡ 0
  pub fits : AllFit rows
  pub small : (m : ℕ) → m < length rows → max_of rows m < 2 ^ 40
  pub are_names : AreNames names
  pub named : length names ≡ length rows

abbrev pub limit_at : List LimitId → ℕ → ℕ
limit_at procs p = (get_or procs p (record { 0 = 0 })).0

pub record AreHeaps (procs : List Text) (limits : List LimitId) (shared : List Text) (shared_heaps rows : ℕ) : Type 0 where
  pub few_procs : length limits ≤ 64
  pub few_shared : shared_heaps ≤ 64
  pub limited : (p : ℕ) → p < length limits → limit_at limits p < rows
  pub are_names : AreNames (procs ++ shared)
  pub procs_named : length procs ≡ length limits
  pub shared_named : length shared ≡ shared_heaps

-- all rules but that there is a limit and a process
pub record IsBegun (t : NamedTrace) : Type 0 where
  pub version : IsBuilt t.trace.version
  pub kernel : IsKernel t.trace.ceiling t.trace.dir_fields
  pub types : AreTypes t.names.types t.trace.types
  pub limits : AreRows t.names.limits t.trace.limits
  pub heaps : AreHeaps t.names.procs t.trace.procs t.names.shared t.trace.shared_heaps (length t.trace.limits)
  pub operations : AreOperations t.trace

pub record NoLimits (t : NamedTrace) : Type 0 where
  pub names : t.names.limits ≡ []
  pub rows : t.trace.limits ≡ []

pub record NoProcs (t : NamedTrace) : Type 0 where
  pub names : t.names.procs ≡ []
  pub limits : t.trace.procs ≡ []

pub record NoShared (t : NamedTrace) : Type 0 where
  pub names : t.names.shared ≡ []
  pub none : t.trace.shared_heaps ≡ 0

pub record NoOperations (t : NamedTrace) : Type 0 where
  pub each : t.trace.operations ≡ none_each t.trace.procs
  pub order : t.trace.order ≡ []

-- what was said keeps the rules, and is spelled by these lines
pub record IsSaid (t : NamedTrace) (wss : List (List Text)) : Type 0 where
  pub begun : IsBegun t
  pub lines : words t ≡ wss

-- what holds where the next line stands
abbrev pub Holds : Place → NamedTrace → List (List Text) → Type 0
Holds Version t wss = (t ≡ blank) × (wss ≡ [])
Holds Kernel t wss = (t ≡ with_version blank t.trace.version) × IsBuilt t.trace.version × (wss ≡ version_words t.trace.version ∷ [])
Holds Types t wss = IsSaid t wss × NoLimits t × NoProcs t × NoShared t × NoOperations t
Holds Limits t wss = IsSaid t wss × (0 < length t.trace.limits) × NoProcs t × NoShared t × NoOperations t
Holds Procs t wss = IsSaid t wss × (0 < length t.trace.limits) × (0 < length t.trace.procs) × NoShared t × NoOperations t
Holds Shared t wss = IsSaid t wss × (0 < length t.trace.limits) × (0 < length t.trace.procs) × NoOperations t
Holds Operations t wss = IsSaid t wss × (0 < length t.trace.limits) × (0 < length t.trace.procs)
