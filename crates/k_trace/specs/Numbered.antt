-- The numbers of declared names, and what is kept of them.
use Rattle.std.specs.Prelude.{ℕ, ◌<◌, ◌≤◌, List, length, Option, Some, None, if◌then◌else◌}
use Rattle.k_limits.specs.k_types.declared.names.TypeId.{TypeId}
use Rattle.k_limits.specs.k_types.declared.names.LimitId.{LimitId}
use Rattle.k_limits.specs.k_types.declared.names.Pid.{Pid}
use Rattle.k_limits.specs.k_types.declared.names.SharedId.{SharedId}
use Rattle.k_words.specs.Words.{Text, word_at}
use Rattle.k_words.specs.Names.{declares, number_of}
use Rattle.k_trace.specs.Named.{DeclaredNames}

-- the type of that name, where one is declared
abbrev pub type_named : DeclaredNames → Text → Option TypeId
type_named names name = if declares names.types name then Some (record { 0 = number_of names.types name }) else None

-- the limit of that name, where one is declared
abbrev pub limit_named : DeclaredNames → Text → Option LimitId
limit_named names name = if declares names.limits name then Some (record { 0 = number_of names.limits name }) else None

-- the process of that name, where one is declared
abbrev pub proc_named : DeclaredNames → Text → Option Pid
proc_named names name = if declares names.procs name then Some (record { 0 = number_of names.procs name }) else None

-- the shared heap of that name, where one is declared
abbrev pub shared_named : DeclaredNames → Text → Option SharedId
shared_named names name = if declares names.shared name then Some (record { 0 = number_of names.shared name }) else None

-- no name has more than 32 bytes
abbrev pub AllShort : List Text → Type 0
AllShort names = (i : ℕ) → i < length names → length (word_at names i) ≤ 32

-- no more names than a trace may have, and none of more than 32 bytes
pub record AreShort (names : DeclaredNames) : Type 0 where
  pub few_types : length names.types ≤ 256
  pub few_limits : length names.limits ≤ 128
  pub few_procs : length names.procs ≤ 64
  pub few_shared : length names.shared ≤ 64
  pub short_types : AllShort names.types
  pub short_limits : AllShort names.limits
  pub short_procs : AllShort names.procs
  pub short_shared : AllShort names.shared
