-- What a writer of the standard library tells of its bytes.
use Rattle.std.specs.Prelude.{◌≡◌, ℕ, List, Option, Some}

-- It is known that these are the bytes.
abbrev pub IsKnown : Option (List ℕ) → List ℕ → Type 0
IsKnown known xs = known ≡ Some xs
