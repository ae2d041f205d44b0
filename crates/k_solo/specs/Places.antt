-- Where the objects begin that come after a name.
use Rattle.std.specs.Prelude.{ℕ, ◌<◌, ◌≤◌, not, nat_lt, Bool, IsTrue, IsFalse, List, length, slice_index_or}
use Rattle.k_types.specs.declared.names.Name.{Name}
use Rattle.k_types.specs.Names.{name_lt}
use Rattle.k_types.specs.State.{Object}

-- the objects from that index on come after the name, and the others do not
pub record IsPlaceAfter (objects : List Object) (n : Name) (at : ℕ) : Type 0 where
  pub within : at ≤ length objects
  pub before : (k : ℕ) (d : Object) → k < at → IsFalse (name_lt n (slice_index_or objects k d).name)
  pub after : (k : ℕ) (d : Object) → at ≤ k → k < length objects → IsTrue (name_lt n (slice_index_or objects k d).name)

-- the object is of that segment or of one after it
abbrev pub is_from : ℕ → Object → Bool
is_from seg o = not (nat_lt o.name.seg.0 seg)
