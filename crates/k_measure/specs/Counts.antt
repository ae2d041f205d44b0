-- How often a name stands in a list, and what an entry table that is counted up and down has of it.
use Rattle.std.specs.Prelude.{ℕ, ◌≡◌, ◌<◌, List, count_by, slice_get, Some}
use Rattle.k_types.specs.declared.names.Name.{Name}
use Rattle.k_types.specs.Names.{name_eq}

-- how often the name stands among these
abbrev pub occurs : List Name → Name → ℕ
occurs names n = count_by (λ t. name_eq t n) names

-- the names lie in segments below that number
abbrev pub AreBelow : ℕ → List Name → Type 0
AreBelow bound names = (i : ℕ) (n : Name) → slice_get names i ≡ Some n → n.seg.0 < bound
