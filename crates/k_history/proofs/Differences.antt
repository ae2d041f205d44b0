-- Laws of the first difference.
use Rattle.std.proofs.Common.{◌≡◌, ◌∙◌, ℕ, ◌+◌, Bool, true, false, cond, eqb, [], ◌∷◌, ◌++◌, Some, None, refl, sym, ap, arith}
use Rattle.std.specs.Prelude.{count_by}
use Rattle.std.proofs.lemmas.Bool.{eqb-true}
use Rattle.std.proofs.lemmas.Bool.Decides.{nat_tests}
use Rattle.std.proofs.lemmas.List.Sums.{sum_by-cons}
use Rattle.k_words.specs.Words.{Text}
use Rattle.k_history.specs.Difference.{difference_from}

same_byte : (b : ℕ) → eqb b b ≡ true
same_byte b = grind (arith, nat_tests)

-- A text does not differ from itself.
pub no_difference : (line : ℕ) (text : Text) → difference_from line text text ≡ None
no_difference line [] = refl
no_difference line (b ∷ text) = rw (same_byte b) (no_difference (cond (eqb b 10) (line + 1) line) text)

same_cons : (line c b : ℕ) (text bytes : Text) (t : Bool) → eqb c b ≡ t → (difference_from (cond (eqb c 10) (line + 1) line) text bytes ≡ None → text ≡ bytes)
    → difference_from line (c ∷ text) (b ∷ bytes) ≡ None → c ∷ text ≡ b ∷ bytes
same_cons line c b text bytes true e ih h = let tail : text ≡ bytes = ih (rw e at h) in rw (eqb-true c b e, tail) refl
same_cons line c b text bytes false e ih h = absurd (let f : Some line ≡ None = sym (rw e refl) ∙ h in cc)

-- Texts without a difference are the same.
pub same_text : (line : ℕ) (text bytes : Text) → difference_from line text bytes ≡ None → text ≡ bytes
same_text line [] [] h = refl
same_text line [] (b ∷ bytes) h = absurd cc
same_text line (c ∷ text) [] h = absurd cc
same_text line (c ∷ text) (b ∷ bytes) h = same_cons line c b text bytes (eqb c b) refl (same_text (cond (eqb c 10) (line + 1) line) text bytes) h

next_byte : (line b : ℕ) (front text bytes : Text) (t : Bool) → eqb b 10 ≡ t
    → difference_from (cond t (line + 1) line) (front ++ text) (front ++ bytes) ≡ difference_from (cond t (line + 1) line + count_by (λ c. eqb c 10) front) text bytes
    → difference_from line (b ∷ front ++ text) (b ∷ front ++ bytes) ≡ difference_from (cond t (line + 1) line + count_by (λ c. eqb c 10) front) text bytes
next_byte line b front text bytes t e h = rw (same_byte b, e) h

front_cons : (line b : ℕ) (front text bytes : Text) (t : Bool) → eqb b 10 ≡ t
    → ((l : ℕ) → difference_from l (front ++ text) (front ++ bytes) ≡ difference_from (l + count_by (λ c. eqb c 10) front) text bytes)
    → difference_from line (b ∷ front ++ text) (b ∷ front ++ bytes) ≡ difference_from (line + count_by (λ c. eqb c 10) (b ∷ front)) text bytes
front_cons line b front text bytes true e ih =
    let counted : count_by (λ c. eqb c 10) (b ∷ front) ≡ 1 + count_by (λ c. eqb c 10) front = sum_by-cons (λ c. cond (eqb c 10) 1 0) b front ∙ rw e refl in
    let same : line + 1 + count_by (λ c. eqb c 10) front ≡ line + count_by (λ c. eqb c 10) (b ∷ front) = omega (arith, counted) in
    next_byte line b front text bytes true e (ih (line + 1)) ∙ ap (λ (l : ℕ). difference_from l text bytes) same
front_cons line b front text bytes false e ih =
    let counted : count_by (λ c. eqb c 10) (b ∷ front) ≡ 0 + count_by (λ c. eqb c 10) front = sum_by-cons (λ c. cond (eqb c 10) 1 0) b front ∙ rw e refl in
    let same : line + count_by (λ c. eqb c 10) front ≡ line + count_by (λ c. eqb c 10) (b ∷ front) = omega (arith, counted) in
    next_byte line b front text bytes false e (ih line) ∙ ap (λ (l : ℕ). difference_from l text bytes) same

-- What two texts begin with alike counts its lines.
pub behind_front : (line : ℕ) (front text bytes : Text) → difference_from line (front ++ text) (front ++ bytes) ≡ difference_from (line + count_by (λ c. eqb c 10) front) text bytes
behind_front line [] text bytes = ap (λ (l : ℕ). difference_from l text bytes) (omega arith)
behind_front line (b ∷ front) text bytes = front_cons line b front text bytes (eqb b 10) refl (λ l. behind_front l front text bytes)
