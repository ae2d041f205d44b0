-- What a contract sees of lists.
use Rattle.std.specs.Prelude.{◌≡◌, ℕ, ◌<◌, ◌==◌, not, Bool, IsFalse, List, [], filter, slice_get, slice_index_or, Some}
use Rattle.std.specs.List.{list_any}

-- the lists, and the number below which all their members are
pub record ListsValue : Type 0 where
  pub lists : List (List ℕ)
  pub room : ℕ

-- the members of a list in order
abbrev pub members : ListsValue → ℕ → List ℕ
members v list = slice_index_or v.lists list []

-- the number is a member
abbrev pub is_in : List ℕ → ℕ → Bool
is_in xs i = list_any (λ j. j == i) xs

-- the other members
abbrev pub without : ℕ → List ℕ → List ℕ
without i xs = filter (λ j. not (j == i)) xs

-- the number is in no list
abbrev pub IsFree : ListsValue → ℕ → Type 0
IsFree v i = (list : ℕ) → IsFalse (is_in (members v list) i)

-- each member is below the room, and stands in one place of one list
pub record AreApart (v : ListsValue) : Type 0 where
  pub below : (list place i : ℕ) → slice_get (members v list) place ≡ Some i → i < v.room
  pub once : (a b j k i : ℕ) → slice_get (members v a) j ≡ Some i → slice_get (members v b) k ≡ Some i → (a ≡ b) × (j ≡ k)
