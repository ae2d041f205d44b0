-- Tests that are one.
use Rattle.std.proofs.Common.{◌≡◌, ◌&&◌, ◌||◌, not, Bool, true, false, refl, IsTrue, sym}
use Rattle.std.proofs.lemmas.Bool.{false≢true}

-- two tests with the same yes are one
pub same_test : (a b : Bool) → (IsTrue a → IsTrue b) → (IsTrue b → IsTrue a) → a ≡ b
same_test true true f g = refl
same_test false false f g = refl
same_test true false f g = absurd (false≢true (f refl))
same_test false true f g = absurd (false≢true (g refl))

pub or_swap : (a b c : Bool) → (a || (b || c)) ≡ (b || (a || c))
or_swap true true c = refl
or_swap true false c = refl
or_swap false b c = refl

pub not_or : (a b : Bool) → not (not a || b) ≡ (a && not b)
not_or true b = refl
not_or false b = refl

pub neither : (a b : Bool) → not (a || b) ≡ true → (a ≡ false) × (b ≡ false)
neither true b e = absurd cc
neither false true e = absurd cc
neither false false e = (refl, refl)

-- one of two tests holds, and not the first
pub or_second : (a b : Bool) → (a || b) ≡ true → a ≡ false → b ≡ true
or_second true b e f = absurd (false≢true (sym f))
or_second false b e f = e
