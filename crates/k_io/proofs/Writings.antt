-- Calls that write a text, one after the other and in a loop.
use Rattle.std.proofs.Common.{◌≡◌, ℕ, ◌≤◌, List, [], ◌++◌, refl, ◌∙◌, subst, arith, Result, Ok, Err}
use Rattle.k_io.specs.Causes.{RoseOrLast}
use Rattle.k_io.specs.Writing.{Writes}
use Rattle.k_io.proofs.Takings.{takes_nothing, takes_then, takes_front_then}

-- A count that rose later has risen since earlier.
pub rose_since : (x y z : ℕ) → x ≤ y → RoseOrLast y z → RoseOrLast x z
rose_since x y z le h = omega arith

-- A return before anything was written: the text is empty.
pub writes_nothing : {E : Type 0} (a : List ℕ → List ℕ → Type 0) (x : ℕ) (u : Unit {0}) → Writes {T = Unit {0}} {E = E} a a x x (Ok u) []
writes_nothing a x u = record { ok = takes_nothing a; err = tt; steady = refl; cause = record { later = omega arith; failed = tt } }

-- The same text under another name.
pub writes_same : {T E : Type 0} (a b : List ℕ → List ℕ → Type 0) (x y : ℕ) (r : Result T E) (text other : List ℕ) → text ≡ other → Writes a b x y r text → Writes a b x y r other
writes_same {T = T} a b x y r text other e w = subst (λ (t : List ℕ). Writes {T = T} a b x y r t) e w

-- The first of two texts was written, and then the second, or a front of it.
pub writes_then : {E : Type 0} (a b c : List ℕ → List ℕ → Type 0) (x y z : ℕ) (u : Unit {0}) (r : Result (Unit {0}) E) (first second : List ℕ) → Writes {T = Unit {0}} {E = E} a b x y (Ok u) first → Writes b c y z r second → Writes a c x z r (first ++ second)
writes_then a b c x y z u (Ok v) first second w s = record { ok = takes_then a b c first second w.ok s.ok; err = tt; steady = s.steady ∙ w.steady; cause = record { later = omega (arith, w.cause.later, s.cause.later); failed = tt } }
writes_then a b c x y z u (Err e) first second w s = record { ok = tt; err = takes_front_then a b c first second w.ok s.err; steady = tt; cause = record { later = omega (arith, w.cause.later, s.cause.later); failed = rose_since x y z w.cause.later s.cause.failed } }
