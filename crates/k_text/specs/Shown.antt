-- What a view shows of its state.
use Rattle.std.specs.Prelude.{Bool, true, IsTrue, List, [], ◌∷◌, map, filter, find, Option, Some, None, option_map, option_and_then, if◌then◌else◌}
use Rattle.k_types.specs.declared.names.Name.{Name}
use Rattle.k_types.specs.declared.names.Heap.{Heap}
use Rattle.k_types.specs.declared.names.TypeId.{TypeId}
use Rattle.k_types.specs.Names.{name_eq, name_lt, heap_eq}
use Rattle.k_types.specs.State.{Object, ExitItem, object_at, fields_of}

-- The object comes after that name, or there is no such name.
abbrev pub comes_after : Option Name → Object → Bool
comes_after None o = true
comes_after (Some n) o = name_lt n o.name

-- The name of the first object that comes after that name, or of the first of all.
abbrev pub next_name_after : Option Name → List Object → Option Name
next_name_after after objects = option_map (λ o. o.name) (find (comes_after after) objects)

-- The type of the object of that name; none for the directory.
abbrev pub type_at : List Object → Name → Option TypeId
type_at objects n = option_and_then (λ o. o.ty) (object_at objects n)

-- The object of that name, as a view shows it.
abbrev pub shown_object : List Object → Name → Object
shown_object objects n = record { name = n; ty = type_at objects n; fields = fields_of (object_at objects n) }

-- The name in its place among names in order, where it is not there yet.
abbrev pub with_name : Name → List Name → List Name
with_name n [] = n ∷ []
with_name n (m ∷ names) = if name_lt m n then m ∷ with_name n names else if name_eq m n then m ∷ names else n ∷ m ∷ names

-- The names in order by segment and serial, each once.
abbrev pub in_order : List Name → List Name
in_order [] = []
in_order (n ∷ names) = with_name n (in_order names)

-- The targets of the heap's exit items, in order by segment and serial.
abbrev pub exits_of : List ExitItem → Heap → List Name
exits_of exits h = in_order (map (λ e. e.target) (filter (λ e. heap_eq e.heap h) exits))

-- The names come after that name, and rise by segment and serial.
abbrev pub AreRisingFrom : Name → List Name → Type 0
AreRisingFrom n [] = Unit {0}
AreRisingFrom n (m ∷ names) = IsTrue (name_lt n m) × AreRisingFrom m names

-- The names rise by segment and serial, so that none stands twice.
abbrev pub AreRising : List Name → Type 0
AreRising [] = Unit {0}
AreRising (n ∷ names) = AreRisingFrom n names
