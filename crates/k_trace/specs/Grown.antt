-- A trace with one line more.
use Rattle.std.specs.Prelude.{ℕ, ◌+◌, Bool, true, false, List, [], ◌∷◌, ◌++◌, slice_set, Option, Some, None}
use Rattle.std.specs.List.{list_any}
use Rattle.k_limits.specs.k_types.declared.names.Field.{Field}
use Rattle.k_limits.specs.k_types.declared.names.LimitId.{LimitId}
use Rattle.k_limits.specs.k_types.declared.setup.LimitRow.{LimitRow}
use Rattle.k_limits.specs.k_types.declared.op.Op.{Op}
use Rattle.k_limits.specs.k_types.Trace.{Trace, operations_of}
use Rattle.k_limits.specs.k_types.TraceRules.{is_exit}
use Rattle.k_limits.specs.k_types.State.{opening}
use Rattle.k_limits.specs.k_types.Limits.{full_limit}
use Rattle.k_words.specs.Words.{Text}
use Rattle.k_trace.specs.Named.{NamedTrace, no_names}

-- the trace of these limits and nothing else
abbrev pub bare_trace : List LimitRow → Trace
bare_trace rows = record { version = 1; ceiling = 0; dir_fields = 0; types = []; limits = rows; procs = []; shared_heaps = 0; operations = []; order = [] }

-- nothing was said yet
abbrev pub blank : NamedTrace
blank = record { names = no_names; trace = bare_trace [] }

-- no limit is full
abbrev pub fits_by : Option ℕ → Bool
fits_by None = true
fits_by (Some full) = false

-- so many bytes more fit at m and on its path, where nothing is charged but what is reserved
abbrev pub fits : List LimitRow → ℕ → ℕ → Bool
fits rows m n = fits_by (full_limit (bare_trace rows) (opening (bare_trace rows)) m n)

-- the trace of that version
abbrev pub with_version : NamedTrace → ℕ → NamedTrace
with_version t version = record t { trace = record t.trace { version = version } }

-- the trace with the kernel's ceiling and the fields of its directory
abbrev pub with_kernel : NamedTrace → ℕ → ℕ → NamedTrace
with_kernel t ceiling dir_fields = record t { trace = record t.trace { ceiling = ceiling; dir_fields = dir_fields } }

-- a type more, of that name and these fields
abbrev pub with_type : NamedTrace → Text → List Field → NamedTrace
with_type t name fields = record {
  names = record t.names { types = t.names.types ++ name ∷ [] };
  trace = record t.trace { types = t.trace.types ++ fields ∷ [] };
}

-- a limit more
abbrev pub with_limit : NamedTrace → Text → LimitRow → NamedTrace
with_limit t name row = record {
  names = record t.names { limits = t.names.limits ++ name ∷ [] };
  trace = record t.trace { limits = t.trace.limits ++ row ∷ [] };
}

-- a process more, on that limit, which has no operations yet
abbrev pub with_proc : NamedTrace → Text → LimitId → NamedTrace
with_proc t name limit = record {
  names = record t.names { procs = t.names.procs ++ name ∷ [] };
  trace = record t.trace { procs = t.trace.procs ++ limit ∷ []; operations = t.trace.operations ++ [] ∷ [] };
}

-- a shared heap more
abbrev pub with_shared : NamedTrace → Text → NamedTrace
with_shared t name = record {
  names = record t.names { shared = t.names.shared ++ name ∷ [] };
  trace = record t.trace { shared_heaps = t.trace.shared_heaps + 1 };
}

-- an operation more of the process
abbrev pub with_op : NamedTrace → ℕ → Op → NamedTrace
with_op t p op = record t {
  trace = record t.trace { operations = slice_set t.trace.operations p (operations_of t.trace p ++ op ∷ []); order = t.trace.order ++ p ∷ [] };
}

-- an exit is among the operations
abbrev pub has_exit : List Op → Bool
has_exit ops = list_any is_exit ops
