-- Objects in the lists of their segments.
use Rattle.std.specs.Prelude.{◌≡◌, ℕ, suc, ◌==◌, ◌≤◌, nat_lt, List, [], ◌∷◌, ◌++◌, filter}
use Rattle.std.specs.List.{AllByRecursion}
use Rattle.k_types.specs.State.{Object}

-- The objects of the segment of that number, in their order.
abbrev pub objects_in : List Object → ℕ → List Object
objects_in objects seg = filter (λ o. o.name.seg.0 == seg) objects

-- The objects of the segments below that number, in their order.
abbrev pub objects_below : List Object → ℕ → List Object
objects_below objects seg = filter (λ o. nat_lt o.name.seg.0 seg) objects

-- Lists one after another.
abbrev pub joined : List (List Object) → List Object
joined [] = []
joined (xs ∷ lists) = xs ++ joined lists

-- The objects are of that segment.
abbrev pub AreIn : ℕ → List Object → Type 0
AreIn seg xs = AllByRecursion (λ o. o.name.seg.0 ≡ seg) xs

-- The objects are of that segment or of one after it.
abbrev pub AreFrom : ℕ → List Object → Type 0
AreFrom seg xs = AllByRecursion (λ o. seg ≤ o.name.seg.0) xs

-- The objects of the first list are of that segment, those of the next list of the segment after it, and so on.
abbrev pub AreOf : ℕ → List (List Object) → Type 0
AreOf seg [] = Unit {0}
AreOf seg (xs ∷ lists) = AreIn seg xs × AreOf (suc seg) lists

-- All objects, in the order of their segments, and a number for each segment.
pub record Segmented : Type 0 where
  pub objects : List Object
  pub totals : List ℕ
