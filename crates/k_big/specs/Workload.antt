-- The trace of `big`: eight processes, each on a limit of its own, make chains of objects, keep some of them in the directory, and collect.
use Rattle.std.specs.Prelude.{ℕ, ◌+◌, ◌*◌, ◌%◌, ◌==◌, true, List, [], ◌∷◌, ◌++◌, length, map, replicate, Some, None, if◌then◌else◌, decimal, codes}
use Rattle.std.specs.List.{flat_map}
use Rattle.k_types.specs.declared.names.Field.TheVariants.{Ref, Int}
use Rattle.k_types.specs.declared.names.LimitId.{LimitId}
use Rattle.k_types.specs.declared.names.Reg.{Reg}
use Rattle.k_types.specs.declared.names.TypeId.{TypeId}
use Rattle.k_types.specs.declared.op.Op.{Op}
use Rattle.k_types.specs.declared.op.Op.TheVariants.{New, Store, Move, Clear, Dir, Put, Collect, Exit}
use Rattle.k_types.specs.declared.setup.LimitRow.{LimitRow}
use Rattle.k_types.specs.Numbers.{numbers_below}
use Rattle.k_words.specs.Words.{Text}
use Rattle.k_trace.specs.Named.{DeclaredNames, NamedTrace}

-- the most objects that each process makes
abbrev pub most_objects : ℕ
most_objects = 5000

-- the number of processes
abbrev pub processes : ℕ
processes = 8

-- the register of that number
abbrev pub r : ℕ → Reg
r n = record { 0 = n }

-- the one type, of two references and a number
abbrev pub node : TypeId
node = record { 0 = 0 }

-- each fifth object is put into the process's field of the directory
abbrev pub kept : ℕ → ℕ → List Op
kept process object = if object % 5 == 0 then Store (r 15) process (r 0) ∷ [] else []

-- behind each tenth object the registers let go of it and the one before it, and the heap is collected
abbrev pub collected : ℕ → List Op
collected object = if (object + 1) % 10 == 0 then Clear (r 0) ∷ Clear (r 1) ∷ Collect ∷ [] else []

-- an object is made, refers to the one before it, and holds its number
abbrev pub round : ℕ → ℕ → List Op
round process object =
    New (r 0) node ∷ Store (r 0) 0 (r 1) ∷ Move (r 1) (r 0) ∷ Put (r 0) 2 object ∷ kept process object ++ collected object

-- every other process ends
abbrev pub ending : ℕ → List Op
ending process = if process % 2 == 0 then Exit ∷ [] else []

-- the operations of a process that makes so many objects
unfoldable pub operations_for : ℕ → ℕ → List Op
operations_for objects process = Dir (r 15) ∷ flat_map (round process) (numbers_below objects) ++ ending process

-- the process's number, once for each of its operations
abbrev pub turns : ℕ → ℕ → List ℕ
turns objects process = replicate (length (operations_for objects process)) process

-- the root of the limits, which has room for all objects
abbrev pub root : ℕ → LimitRow
root objects = record { parent = None; hard = true; max = 320 * objects }

-- the limit of a process, which has room for its objects
abbrev pub share : ℕ → LimitRow
share objects = record { parent = Some (record { 0 = 0 }); hard = true; max = 40 * objects }

-- the limit of the process of that number
abbrev pub limit_for : ℕ → LimitId
limit_for process = record { 0 = process + 1 }

-- the word with the number of each process behind it
abbrev pub numbered : Text → List Text
numbered word = map (λ process. word ++ decimal process) (numbers_below processes)

-- the names that are declared
abbrev pub big_names : DeclaredNames
big_names = record { types = codes "Node" ∷ []; limits = codes "root" ∷ numbered (codes "l"); procs = numbered (codes "w"); shared = [] }

-- what is declared where each process makes so many objects, with these operations in this order
abbrev pub declared_for : ℕ → List (List Op) → List ℕ → NamedTrace
declared_for objects operations order = record {
  names = big_names;
  trace = record {
    version = 1;
    ceiling = 80;
    dir_fields = 8;
    types = (Ref ∷ Ref ∷ Int ∷ []) ∷ [];
    limits = root objects ∷ replicate processes (share objects);
    procs = map limit_for (numbers_below processes);
    shared_heaps = 0;
    operations = operations;
    order = order;
  };
}

-- the trace where each process makes so many objects, with the operations of one process behind those of the other
abbrev pub big_trace : ℕ → NamedTrace
big_trace objects =
    declared_for objects (map (operations_for objects) (numbers_below processes)) (flat_map (turns objects) (numbers_below processes))
