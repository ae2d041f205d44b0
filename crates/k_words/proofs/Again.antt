-- A spelled word is read as what it was spelled from.
use Rattle.std.proofs.Common.{◌≡◌, ◌∙◌, ℕ, ◌<◌, ◌≤◌, ◌^◌, Bool, true, false, not, ◌||◌, eqb, List, [], ◌∷◌, ◌++◌, length, get_or, refl, ap, arith, decimal, inl, inr, ◌≢◌}
use Rattle.std.proofs.lemmas.Bool.{lt-ltb, eqb-true, false_from_ne_true, cases_lt}
use Rattle.std.proofs.Math.Bool.{or-true}
use Rattle.std.proofs.lemmas.List.Folds.{list_any_at}
use Rattle.std.proofs.lemmas.Fmt.{decimal_digit, decimal_nonempty, first_decimal, digits_decimal, digits_value-decimal}
use Rattle.std.proofs.lemmas.Slice.Eq.{bytes_eq-Decides}
use Rattle.std.proofs.lemmas.List.Sums.{position_or_len_is}
use Rattle.std.specs.List.{list_all, join_with_byte}
use Rattle.std.specs.Str.{bytes_eq}
use Rattle.k_words.specs.Words.{Text, word_at, words_of}
use Rattle.k_words.specs.Numbers.{is_below, value, is_register, register_word}
use Rattle.k_words.specs.Names.{declares, number_of}
use Rattle.k_words.proofs.Spelled.{digits, both}

-- no two of the names are one
abbrev pub AreApart : List Text → Type 0
AreApart names = (i k : ℕ) → k < i → i < length names → word_at names i ≢ word_at names k

pub number_of-at : (names : List Text) (i : ℕ) → AreApart names → i < length names → number_of names (word_at names i) ≡ i
number_of-at names i good lt = position_or_len_is (bytes_eq (word_at names i)) names i [] (omega arith)
    (λ k below. false_from_ne_true _ (λ e. good i k below lt ((bytes_eq-Decides (word_at names i) (word_at names k)).0 e)))
    (λ _. (bytes_eq-Decides (word_at names i) (word_at names i)).1 refl)

pub declares-at : (names : List Text) (i : ℕ) → i < length names → declares names (word_at names i) ≡ true
declares-at names i lt = list_any_at (bytes_eq (word_at names i)) names i [] lt ((bytes_eq-Decides (word_at names i) (word_at names i)).1 refl)

pub value-decimal : (n : ℕ) → n < 2 ^ 64 → value (decimal n) ≡ n
value-decimal n lt = digits_value-decimal digits n lt

above_zero : (n : ℕ) → n < 2 ^ 64 → (eqb (length (decimal n)) 1 || not (eqb (get_or (decimal n) 0 0) 48)) ≡ true
above_zero n lt = elim (cases_lt 0 n) [
  | inl some ↦ let first : 48 < get_or (decimal n) 0 0 = first_decimal n some lt in
      let other : eqb (get_or (decimal n) 0 0) 48 ≡ false = false_from_ne_true _ (λ e. absurd (omega (arith, eqb-true (get_or (decimal n) 0 0) 48 e))) in
      rw other (or-true (eqb (length (decimal n)) 1))
  | inr none ↦ let zero : n ≡ 0 = omega arith in rw (zero, decimal_digit 0 (omega arith)) refl
]

pub is_below-decimal : (n limit : ℕ) → n < limit → limit ≤ 2 ^ 64 → is_below limit (decimal n) ≡ true
is_below-decimal n limit lt le =
    let fits : n < 2 ^ 64 = omega arith in
    rw (digits_decimal digits n fits, lt-ltb 0 (length (decimal n)) (decimal_nonempty n fits), above_zero n fits, value-decimal n fits) (lt-ltb n limit lt)

pub is_register-word : (r : ℕ) → r < 16 → is_register (register_word r) ≡ true
is_register-word r lt = is_below-decimal r 16 lt (omega arith)

abbrev pub has_no_space : Text → Bool
has_no_space w = list_all (λ b. not (eqb b 32)) w

word_then : (w rest : Text) → has_no_space w ≡ true → words_of (w ++ 32 ∷ rest) ≡ w ∷ words_of rest
word_then [] rest h = refl
word_then (b ∷ w) rest h =
    let p = both (not (eqb b 32)) (has_no_space w) h in
    let e : eqb b 32 ≡ false = grind (arith, p.0) in
    rw (e, word_then w rest p.1) refl

word_alone : (w : Text) → has_no_space w ≡ true → words_of w ≡ w ∷ []
word_alone [] h = refl
word_alone (b ∷ w) h =
    let p = both (not (eqb b 32)) (has_no_space w) h in
    let e : eqb b 32 ≡ false = grind (arith, p.0) in
    rw (e, word_alone w p.1) refl

pub words_again : (w : Text) (ws : List Text) → list_all has_no_space (w ∷ ws) ≡ true → words_of (join_with_byte 32 (w ∷ ws)) ≡ w ∷ ws
words_again w [] h = word_alone w (both (has_no_space w) true h).0
words_again w (v ∷ ws) h =
    let p = both (has_no_space w) (list_all has_no_space (v ∷ ws)) h in
    word_then w (join_with_byte 32 (v ∷ ws)) p.0 ∙ ap (λ (us : List Text). w ∷ us) (words_again v ws p.1)
