-- Lists of names in which none stands twice.
use Rattle.std.proofs.Common.{◌≡◌, ◌||◌, Bool, true, false, cond, refl, sym, ap, ◌∙◌, List, [], ◌∷◌}
use Rattle.k_types.specs.declared.names.Name.{Name}
use Rattle.k_types.specs.Names.{name_among, name_eq}
use Rattle.k_types.specs.Distinct.{AreDistinctNames}
use Rattle.k_types.proofs.NameTests.{name_eq-true}

-- each name once
pub each_once : List Name → List Name
each_once [] = []
each_once (n ∷ names) = cond (name_among n names) (each_once names) (n ∷ each_once names)

among_step : (n m : Name) (names onced : List Name) → name_among m onced ≡ name_among m names → (b : Bool) → name_among n names ≡ b →
    name_among m (cond b onced (n ∷ onced)) ≡ (name_eq n m || name_among m names)
among_step n m names onced same true t = same ∙ there (name_eq n m) refl
  where
    there : (b : Bool) → name_eq n m ≡ b → name_among m names ≡ (b || name_among m names)
    there true e = ap (λ k. name_among k names) (sym (name_eq-true n m e)) ∙ t
    there false e = refl
among_step n m names onced same false t = ap (λ r. name_eq n m || r) same

pub once_among : (names : List Name) (m : Name) → name_among m (each_once names) ≡ name_among m names
unfolding each_once
once_among [] m = refl
once_among (n ∷ names) m = among_step n m names (each_once names) (once_among names m) (name_among n names) refl

distinct_step : (n : Name) (names onced : List Name) → name_among n onced ≡ name_among n names → AreDistinctNames onced → (b : Bool) → name_among n names ≡ b → AreDistinctNames (cond b onced (n ∷ onced))
distinct_step n names onced same distinct true t = distinct
distinct_step n names onced same distinct false t = (same ∙ t, distinct)

pub once_distinct : (names : List Name) → AreDistinctNames (each_once names)
unfolding each_once
once_distinct [] = tt
once_distinct (n ∷ names) = distinct_step n names (each_once names) (once_among names n) (once_distinct names) (name_among n names) refl
