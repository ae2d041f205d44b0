-- Where an object stands among the objects in order.
use Rattle.std.specs.Prelude.{ℕ, ◌<◌, ◌≤◌, IsTrue, IsFalse, List, length, slice_index_or}
use Rattle.k_types.specs.declared.names.Name.{Name}
use Rattle.k_types.specs.Names.{name_eq, name_lt}
use Rattle.k_types.specs.State.{Object}

-- The objects below that index come before the name, and the others do not.
pub record IsPlace (objects : List Object) (n : Name) (at : ℕ) : Type 0 where
  pub within : at ≤ length objects
  pub before : (k : ℕ) (d : Object) → k < at → IsTrue (name_lt (slice_index_or objects k d).name n)
  pub after : (k : ℕ) (d : Object) → at ≤ k → k < length objects → IsFalse (name_lt (slice_index_or objects k d).name n)

-- The object of that index has that name.
abbrev pub IsNamedAt : List Object → ℕ → Name → Type 0
IsNamedAt objects k n = (k < length objects) × ((d : Object) → IsTrue (name_eq (slice_index_or objects k d).name n))
