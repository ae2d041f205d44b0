-- Roots that are noted before they are gray.
use Rattle.std.specs.Prelude.{◌≡◌, ◌⊎◌, IsTrue, IsFalse, List, [], ◌∷◌}
use Rattle.k_mark.specs.k_types.declared.names.Name.{Name}
use Rattle.k_mark.specs.k_types.Names.{name_among}
use Rattle.k_mark.specs.k_space.declared.bound.Bound.{Bound}
use Rattle.k_mark.specs.k_space.Bounds.{is_covered}
use Rattle.k_mark.specs.k_space.Areas.{AreaValue, black_at, gray_at, grayed, unmarked}

-- the area where each of these objects is gray, if it was white
abbrev pub grayed_all : AreaValue → List Name → AreaValue
grayed_all a [] = a
grayed_all a (n ∷ ns) = grayed_all (grayed a n) ns

-- of these objects those are gray that are no roots which the bound covers, and nothing else has become gray
pub record AreGrayBut (old : AreaValue) (noted roots : List Name) (b : Bound) (new : AreaValue) : Type 0 where
  pub same : unmarked new ≡ unmarked old
  pub black : (n : Name) → IsFalse (black_at new n)
  pub gray : (n : Name) → IsTrue (gray_at new n) → IsTrue (gray_at (grayed_all old noted) n)
  pub rest : (n : Name) → IsTrue (gray_at (grayed_all old noted) n) → IsTrue (gray_at new n) ⊎ (IsTrue (name_among n roots) × (IsTrue (is_covered b n)))
