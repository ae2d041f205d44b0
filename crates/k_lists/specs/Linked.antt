-- How the lists are linked. No public clause cites this file.
use Rattle.std.specs.Prelude.{◌≡◌, ℕ, zero, suc, ◌<◌, ◌^◌, List, [], ◌∷◌, length, map, slice_index_or, slice_set}
use Rattle.k_lists.specs.declared.lists.Links.{Links}
use Rattle.k_lists.specs.Lists.{ListsValue, AreApart, members}

-- what is read where there is no number
abbrev pub blank : Links
blank = record { prev = 0; next = 0 }

-- the links of the number
abbrev pub at : List Links → ℕ → Links
at links i = slice_index_or links i blank

-- the numbers on the way from a link, so many at most
unfoldable pub walk : List Links → ℕ → ℕ → List ℕ
walk links zero link = []
walk links (suc n) zero = []
walk links (suc n) (suc i) = i ∷ walk links n (at links i).next

-- the lists that these links and heads are
abbrev pub lists_of : List Links → List ℕ → ListsValue
lists_of links heads = record { lists = map (walk links (length links)) heads; room = length links }

-- the list begins at the link, and each member leads to the next one and back
abbrev pub IsList : List Links → ℕ → ℕ → List ℕ → Type 0
IsList links prev link [] = link ≡ 0
IsList links prev link (i ∷ xs) = (link ≡ suc i) × ((at links i).prev ≡ prev) × IsList links (suc i) (at links i).next xs

-- each list is linked both ways, and no number is in two
pub record AreLinked (links : List Links) (heads : List ℕ) : Type 0 where
  pub small : length links < 2 ^ 32
  pub linked : (list : ℕ) → list < length heads → IsList links 0 (slice_index_or heads list 0) (members (lists_of links heads) list)
  pub apart : AreApart (lists_of links heads)

-- the links where the number that a link leads to has another one back
abbrev pub with_prev : List Links → ℕ → ℕ → List Links
with_prev links zero prev = links
with_prev links (suc i) prev = slice_set links i (record (at links i) { prev = prev })

-- and where it has another one on
abbrev pub with_next : List Links → ℕ → ℕ → List Links
with_next links zero next = links
with_next links (suc i) next = slice_set links i (record (at links i) { next = next })

-- the heads where that of the list is another one, if the link leads to no number
abbrev pub with_head : List ℕ → ℕ → ℕ → ℕ → List ℕ
with_head heads list zero next = slice_set heads list next
with_head heads list (suc i) next = heads
