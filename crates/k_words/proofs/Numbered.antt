-- Names in two lists, one behind the other.
use Rattle.std.proofs.Common.{◌≡◌, ◌∙◌, ℕ, ◌+◌, Bool, true, false, ◌||◌, List, [], ◌∷◌, ◌++◌, length, refl, sym, ap, arith}
use Rattle.std.specs.Str.{bytes_eq}
use Rattle.k_words.specs.Words.{Text}
use Rattle.k_words.specs.Names.{declares, number_of}

first_cons : (t : Bool) (n w : Text) (xs ys : List Text) → bytes_eq w n ≡ t → (declares xs w ≡ true → number_of (xs ++ ys) w ≡ number_of xs w) → declares (n ∷ xs) w ≡ true
    → number_of (n ∷ xs ++ ys) w ≡ number_of (n ∷ xs) w
first_cons true n w xs ys e ih h = rw e refl
first_cons false n w xs ys e ih h = rw e (ap (λ (k : ℕ). 1 + k) (ih (rw e at h)))

-- a name that is declared among the first has its number there
pub number_first : (xs ys : List Text) (w : Text) → declares xs w ≡ true → number_of (xs ++ ys) w ≡ number_of xs w
number_first [] ys w h = absurd cc
number_first (n ∷ xs) ys w h = first_cons (bytes_eq w n) n w xs ys refl (number_first xs ys w) h

behind_cons : (t : Bool) (n w : Text) (xs ys : List Text) → bytes_eq w n ≡ t → (declares xs w ≡ false → number_of (xs ++ ys) w ≡ length xs + number_of ys w) → declares (n ∷ xs) w ≡ false
    → number_of (n ∷ xs ++ ys) w ≡ length (n ∷ xs) + number_of ys w
behind_cons true n w xs ys e ih h = absurd (let f : true ≡ false = sym (rw e refl) ∙ h in cc)
behind_cons false n w xs ys e ih h =
    let r = ih (rw e at h) in
    rw e (rw r (omega arith))

-- a name that is not declared among the first is counted behind them
pub number_behind : (xs ys : List Text) (w : Text) → declares xs w ≡ false → number_of (xs ++ ys) w ≡ length xs + number_of ys w
number_behind [] ys w h = omega arith
number_behind (n ∷ xs) ys w h = behind_cons (bytes_eq w n) n w xs ys refl (number_behind xs ys w) h

-- a name is declared where one of the lists declares it
pub declares_append : (xs ys : List Text) (n : Text) → declares (xs ++ ys) n ≡ (declares xs n || declares ys n)
declares_append [] ys n = refl
declares_append (x ∷ xs) ys n = or_assoc (bytes_eq n x) (declares xs n) (declares ys n) (declares (xs ++ ys) n) (declares_append xs ys n)
  where
    or_assoc : (a b c d : Bool) → d ≡ (b || c) → (a || d) ≡ ((a || b) || c)
    or_assoc true b c d e = refl
    or_assoc false b c d e = e
