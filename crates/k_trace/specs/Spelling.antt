-- The one spelling of a trace.
use Rattle.std.specs.Prelude.{ℕ, ◌==◌, Bool, true, false, List, [], ◌∷◌, ◌++◌, map, drop, decimal, codes, if◌then◌else◌, Option, Some, None}
use Rattle.k_limits.specs.k_types.declared.names.Field.{Field}
use Rattle.k_limits.specs.k_types.declared.names.Field.TheVariants.{Ref, Int}
use Rattle.k_limits.specs.k_types.declared.names.LimitId.{LimitId}
use Rattle.k_limits.specs.k_types.declared.setup.LimitRow.{LimitRow}
use Rattle.k_limits.specs.k_types.declared.op.Op.{Op}
use Rattle.k_limits.specs.k_types.declared.op.Op.TheVariants.{New, KNew, SNew, Store, Load, Move, Clear, Dir, Put, Get, Collect, KCollect, Share, Freeze, Attach, Exit, Kill, Resize}
use Rattle.k_limits.specs.k_types.Trace.{operations_of}
use Rattle.k_words.specs.Words.{Text, word_at, text_of}
use Rattle.k_words.specs.Numbers.{register_word}
use Rattle.k_trace.specs.Named.{DeclaredNames, NamedTrace, type_name, limit_name, proc_name, shared_name}

-- the word of a field's kind
abbrev pub field_word : Field → Text
field_word Ref = codes "ref"
field_word Int = codes "int"

-- a line for each pair of a name and what it stands for
abbrev pub declarations : {A : Type 0} → (Text → A → List Text) → List Text → List A → List (List Text)
declarations words (name ∷ names) (x ∷ xs) = words name x ∷ declarations words names xs
declarations words _ _ = []

-- the words of a type
abbrev pub type_words : Text → List Field → List Text
type_words name fields = codes "type" ∷ name ∷ map field_word fields

-- the words between a limit's name and its maximum
abbrev pub place_words : DeclaredNames → Option LimitId → Bool → List Text
place_words names None hard = []
place_words names (Some parent) true = limit_name names parent ∷ codes "hard" ∷ []
place_words names (Some parent) false = limit_name names parent ∷ codes "soft" ∷ []

-- the words of a limit
abbrev pub limit_words : DeclaredNames → Text → LimitRow → List Text
limit_words names name row = codes "limit" ∷ name ∷ place_words names row.parent row.hard ++ decimal row.max ∷ []

-- the words of a process
abbrev pub proc_words : DeclaredNames → Text → LimitId → List Text
proc_words names name limit = codes "proc" ∷ name ∷ limit_name names limit ∷ []

-- the words of a shared heap
abbrev pub shared_words : Text → List Text
shared_words name = codes "shared" ∷ name ∷ []

-- the words of an operation, on its line of the trace and on its line of the report
unfoldable pub op_words : DeclaredNames → Op → List Text
op_words names (New r ty) = codes "new" ∷ register_word r.0 ∷ type_name names ty ∷ []
op_words names (KNew r ty) = codes "knew" ∷ register_word r.0 ∷ type_name names ty ∷ []
op_words names (SNew r s ty) = codes "snew" ∷ register_word r.0 ∷ shared_name names s ∷ type_name names ty ∷ []
op_words names (Store base field value) = codes "store" ∷ register_word base.0 ∷ decimal field ∷ register_word value.0 ∷ []
op_words names (Load r base field) = codes "load" ∷ register_word r.0 ∷ register_word base.0 ∷ decimal field ∷ []
op_words names (Move r from) = codes "move" ∷ register_word r.0 ∷ register_word from.0 ∷ []
op_words names (Clear r) = codes "drop" ∷ register_word r.0 ∷ []
op_words names (Dir r) = codes "dir" ∷ register_word r.0 ∷ []
op_words names (Put base field number) = codes "put" ∷ register_word base.0 ∷ decimal field ∷ decimal number ∷ []
op_words names (Get base field) = codes "get" ∷ register_word base.0 ∷ decimal field ∷ []
op_words names Collect = codes "collect" ∷ []
op_words names KCollect = codes "kcollect" ∷ []
op_words names (Share s) = codes "share" ∷ shared_name names s ∷ []
op_words names (Freeze s root) = codes "freeze" ∷ shared_name names s ∷ register_word root.0 ∷ []
op_words names (Attach r s) = codes "attach" ∷ register_word r.0 ∷ shared_name names s ∷ []
op_words names Exit = codes "exit" ∷ []
op_words names (Kill q) = codes "kill" ∷ proc_name names q ∷ []
op_words names (Resize m max) = codes "resize" ∷ limit_name names m ∷ decimal max ∷ []

-- the words of a process's operation
abbrev pub line_words : DeclaredNames → ℕ → Op → List Text
line_words names p op = word_at names.procs p ∷ op_words names op

-- the line of the first of these operations of the process
abbrev pub first_line : DeclaredNames → ℕ → List Op → List (List Text)
first_line names p [] = []
first_line names p (op ∷ ops) = line_words names p op ∷ []

-- the operations of each process, but for the first of p
abbrev pub after_first : ℕ → (ℕ → List Op) → ℕ → List Op
after_first p operations q = if q == p then drop 1 (operations q) else operations q

-- the lines of the operations, in the order of the file
abbrev pub operation_lines : DeclaredNames → (ℕ → List Op) → List ℕ → List (List Text)
operation_lines names operations [] = []
operation_lines names operations (p ∷ order) =
    first_line names p (operations p) ++ operation_lines names (after_first p operations) order

-- the words of the lines before the operations
abbrev pub header_words : NamedTrace → List (List Text)
header_words t =
    (codes "kaffe" ∷ decimal t.trace.version ∷ [])
    ∷ (codes "kernel" ∷ decimal t.trace.ceiling ∷ decimal t.trace.dir_fields ∷ [])
    ∷ declarations type_words t.names.types t.trace.types
    ++ declarations (limit_words t.names) t.names.limits t.trace.limits
    ++ declarations (proc_words t.names) t.names.procs t.trace.procs
    ++ map shared_words t.names.shared

-- the words of each line
abbrev pub words : NamedTrace → List (List Text)
words t = header_words t ++ operation_lines t.names (operations_of t.trace) t.trace.order

-- the whole text
abbrev pub text : NamedTrace → Text
text t = text_of (words t)
