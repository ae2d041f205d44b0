-- What an earlier collection kept.
use Rattle.std.specs.Prelude.{◌&&◌, ◌⊎◌, Bool, IsTrue}
use Rattle.k_laws.specs.k_types.declared.names.Name.{Name}
use Rattle.k_space.specs.declared.bound.Bound.{Bound}
use Rattle.k_space.specs.Bounds.{is_covered}
use Rattle.k_space.specs.Areas.{AreaValue, gray_at, is_foreign}
use Rattle.k_mark.specs.Reached.{IsReached}
use Rattle.k_mark.specs.Marking.{lives_at, refers_at}

-- the area has that object, and the bound covers it
abbrev pub old_at : AreaValue → Bound → Name → Bool
old_at a b n = lives_at a n && is_covered b n

-- those that are kept are reached along each other from those that begin, and the bound covers them and whatever they refer to
pub record IsKept (kept : Name → Bool) (refers : Name → Name → Bool) (start : Name → Bool) (b : Bound) : Type 0 where
  pub low : (n : Name) → IsTrue (kept n) → IsTrue (is_covered b n)
  pub closed : (n m : Name) → IsTrue (kept n) → IsTrue (refers n m) → IsTrue (is_covered b m)
  pub reached : (n : Name) → IsTrue (kept n) → IsReached kept refers start n

-- marking may begin with these: each of them that is there is gray, or was kept, and what was kept is reached from them
pub record IsBeginning (a : AreaValue) (b : Bound) (start : Name → Bool) : Type 0 where
  pub gray : (n : Name) → IsTrue (gray_at a n) → IsTrue (start n)
  pub known : (n : Name) → IsTrue (start n) → IsTrue (lives_at a n) → IsTrue (gray_at a n) ⊎ IsTrue (old_at a b n)
  pub kept : IsKept (old_at a b) (refers_at a) start b

-- reached from those that begin by references inside the area
abbrev pub IsReachedFrom : AreaValue → (Name → Bool) → Name → Type 0
IsReachedFrom a start n = IsReached (lives_at a) (refers_at a) start n

-- an object reached from them refers to that name, which lies in no segment of the area
pub record IsExitFrom (a : AreaValue) (start : Name → Bool) (t : Name) : Type 0 where
  pub from : Name
  pub reached : IsReachedFrom a start from
  pub refers : IsTrue (refers_at a from t)
  pub foreign : IsTrue (is_foreign a t)

-- an object of these refers to that name, which lies in no segment of the area
pub record IsLedTo (a : AreaValue) (these : Name → Bool) (t : Name) : Type 0 where
  pub from : Name
  pub one : IsTrue (these from)
  pub refers : IsTrue (refers_at a from t)
  pub foreign : IsTrue (is_foreign a t)
