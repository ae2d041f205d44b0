-- What holds of each element of a list.
use Rattle.std.proofs.Common.{◌≡◌, subst, ℕ, zero, suc, ◌<◌, length, get_or, List, [], ◌∷◌, slice_get, Some, arith}
use Rattle.std.specs.List.{AllByRecursion}
use Rattle.k_types.specs.declared.names.Phase.{Phase}
use Rattle.k_types.specs.Known.{IsKnownPhase}
use Rattle.k_types.specs.Trace.{Trace}

pub all_got : {A : Type 0} (P : A → Type 0) (xs : List A) (i : ℕ) (x : A) → AllByRecursion P xs → slice_get xs i ≡ Some x → P x
all_got P [] i x all found = grind arith
all_got P (y ∷ ys) zero x all found = let same : y ≡ x = cc in subst P same all.0
all_got P (y ∷ ys) (suc i) x all found = all_got P ys i x all.1 found

-- the phase that is found is known
pub phase_known : (setup : Trace) (phases : List Phase) (i : ℕ) (phase : Phase) → AllByRecursion (IsKnownPhase setup) phases → slice_get phases i ≡ Some phase → IsKnownPhase setup phase
phase_known setup phases i phase all found = all_got (IsKnownPhase setup) phases i phase all found

-- what holds of each element holds of the one of that index
pub all_at_index : {A : Type 0} (P : A → Type 0) (xs : List A) (i : ℕ) (d : A) → AllByRecursion P xs → i < length xs → P (get_or xs i d)
all_at_index P [] i d all inside = absurd (omega arith)
all_at_index P (x ∷ xs) zero d all inside = all.0
all_at_index P (x ∷ xs) (suc i) d all inside = all_at_index P xs i d all.1 (omega arith)
