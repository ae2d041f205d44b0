-- What is copied to the end of a row that takes no memory.
use Rattle.std.specs.Prelude.{◌≡◌, ◌<◌, ◌++◌, ℕ, Bool, IsTrue, IsFalse, List, [], length}
use Rattle.k_types.specs.declared.names.Name.{Name}

-- the front of the names stands at the end of the row, which has room for so many: all of them, or else the row is full
pub record IsCopied (room : ℕ) (old new names : List Name) (all : Bool) : Type 0 where
  pub written : List Name
  pub left : List Name
  pub parts : names ≡ written ++ left
  pub row : new ≡ old ++ written
  pub whole : IsTrue all → left ≡ []
  pub full : IsFalse all → (length new ≡ room) × (0 < length left)
