-- What a heap owns, counted.
use Rattle.std.specs.Prelude.{ℕ, Bool, true, false, List, count_by}
use Rattle.k_types.specs.declared.names.Heap.{Heap}
use Rattle.k_types.specs.Owners.{objects_of, owner_of}
use Rattle.k_types.specs.State.{Content, Refers, Holds, Object, State}
use Rattle.k_types.specs.Trace.{Trace}

-- the objects that the heap owns
abbrev pub objects_owned : Trace → State → Heap → List Object
objects_owned trace st h = objects_of (owner_of trace st) h st.objects

-- the field is a reference
abbrev pub is_reference : Content → Bool
is_reference (Refers r) = true
is_reference (Holds number) = false

-- how many of the object's fields are references
abbrev pub references_in : Object → ℕ
references_in o = count_by is_reference o.fields
