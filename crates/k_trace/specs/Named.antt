-- A trace with the names that it declares.
use Rattle.std.specs.Prelude.{List, []}
use Rattle.k_words.specs.Words.{Text, word_at}
use Rattle.k_limits.specs.k_types.Trace.{Trace}
use Rattle.k_limits.specs.k_types.declared.names.TypeId.{TypeId}
use Rattle.k_limits.specs.k_types.declared.names.LimitId.{LimitId}
use Rattle.k_limits.specs.k_types.declared.names.Pid.{Pid}
use Rattle.k_limits.specs.k_types.declared.names.SharedId.{SharedId}

-- the names of the types, limits, processes and shared heaps, each by its number
pub record DeclaredNames : Type 0 where
  pub types : List Text
  pub limits : List Text
  pub procs : List Text
  pub shared : List Text

-- nothing is declared
abbrev pub no_names : DeclaredNames
no_names = record { types = []; limits = []; procs = []; shared = [] }

-- the name of a type
abbrev pub type_name : DeclaredNames → TypeId → Text
type_name names ty = word_at names.types ty.0

-- the name of a limit
abbrev pub limit_name : DeclaredNames → LimitId → Text
limit_name names m = word_at names.limits m.0

-- the name of a process
abbrev pub proc_name : DeclaredNames → Pid → Text
proc_name names p = word_at names.procs p.0

-- the name of a shared heap
abbrev pub shared_name : DeclaredNames → SharedId → Text
shared_name names s = word_at names.shared s.0

-- what a text of a trace says: names, and a trace of the machine
pub record NamedTrace : Type 0 where
  pub names : DeclaredNames
  pub trace : Trace
