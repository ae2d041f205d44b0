-- The words for what a trace declares.
use Rattle.std.specs.Prelude.{◌≡◌, ◌<◌, List, ◌∷◌, ◌++◌, length, Option, Some, None, decimal, codes}
use Rattle.k_types.specs.declared.names.Name.{Name}
use Rattle.k_types.specs.declared.names.Heap.{Heap}
use Rattle.k_types.specs.declared.names.Heap.TheVariants.{Kernel, User, Shared}
use Rattle.k_types.specs.declared.names.TypeId.{TypeId}
use Rattle.k_types.specs.declared.event.Fault.{Fault}
use Rattle.k_types.specs.declared.event.Fault.TheVariants.{Null, Foreign, NotSharer, NoField, WrongKind, Frozen, Segv, NotPopulating, NotFrozen, Taken, LimitFull, KernelFull, ProcNotBelow, LimitNotBelow, InUse}
use Rattle.k_types.specs.Trace.{Trace, process_count}
use Rattle.k_words.specs.Words.{Text, word_at}
use Rattle.k_trace.specs.Named.{DeclaredNames, type_name, proc_name, shared_name}

-- There is a name for each type, limit, process and shared heap of the trace, and no other.
pub record AreNamed (names : DeclaredNames) (trace : Trace) : Type 0 where
  pub types : length names.types ≡ length trace.types
  pub limits : length names.limits ≡ length trace.limits
  pub procs : length names.procs ≡ process_count trace
  pub shared : length names.shared ≡ trace.shared_heaps

-- The heap is the kernel's, or has a name.
abbrev pub IsNamedHeap : DeclaredNames → Heap → Type 0
IsNamedHeap names Kernel = Unit {0}
IsNamedHeap names (User p) = p.0 < length names.procs
IsNamedHeap names (Shared s) = s.0 < length names.shared

-- The shared heap, the limit or the process of the fault has a name.
abbrev pub IsNamedFault : DeclaredNames → Fault → Type 0
IsNamedFault names Null = Unit {0}
IsNamedFault names Foreign = Unit {0}
IsNamedFault names (NotSharer s) = s.0 < length names.shared
IsNamedFault names NoField = Unit {0}
IsNamedFault names WrongKind = Unit {0}
IsNamedFault names Frozen = Unit {0}
IsNamedFault names Segv = Unit {0}
IsNamedFault names (NotPopulating s) = s.0 < length names.shared
IsNamedFault names (NotFrozen s) = s.0 < length names.shared
IsNamedFault names (Taken s) = s.0 < length names.shared
IsNamedFault names (LimitFull m) = m.0 < length names.limits
IsNamedFault names KernelFull = Unit {0}
IsNamedFault names (ProcNotBelow q) = q.0 < length names.procs
IsNamedFault names (LimitNotBelow m) = m.0 < length names.limits
IsNamedFault names (InUse m) = m.0 < length names.limits

-- The names of the segments: the kernel's, those of the processes, those of the shared heaps.
abbrev pub segment_names : DeclaredNames → List Text
segment_names names = codes "kernel" ∷ names.procs ++ names.shared

-- The word of an object's name: the name of its segment, a dot and the serial.
abbrev pub name_word : DeclaredNames → Name → Text
name_word names n = word_at (segment_names names) n.seg.0 ++ 46 ∷ decimal n.serial.0

-- The word of a reference.
abbrev pub reference_word : DeclaredNames → Option Name → Text
reference_word names None = codes "null"
reference_word names (Some n) = name_word names n

-- The word of a heap.
abbrev pub heap_word : DeclaredNames → Heap → Text
heap_word names Kernel = codes "kernel"
heap_word names (User p) = proc_name names p
heap_word names (Shared s) = shared_name names s

-- The word of an object's type; the directory has none that is declared.
abbrev pub type_word : DeclaredNames → Option TypeId → Text
type_word names None = codes "directory"
type_word names (Some ty) = type_name names ty
