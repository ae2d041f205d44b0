-- What a word was read as is spelled so.
use Rattle.std.proofs.Common.{◌≡◌, ℕ, ◌<◌, ◌≤◌, ◌^◌, Bool, true, false, not, ◌&&◌, eqb, ltb, List, [], ◌∷◌, length, drop, get_or, refl, sym, arith, decimal, ◌||◌, one-add, rules}
use Rattle.std.specs.Char.{is_ascii_digit}
use Rattle.std.proofs.lemmas.Slice.Eq.{bytes_eq-Decides}
use Rattle.std.proofs.lemmas.Bool.{ltb-true, eqb-true}
use Rattle.std.proofs.lemmas.Fmt.{decimal-digits_value}
use Rattle.std.proofs.lemmas.Str.Parse.{numerals_by_value, IsNumeralModel}
use Rattle.std.specs.List.{list_all}
use Rattle.std.specs.Str.{bytes_eq}
use Rattle.k_words.specs.Words.{Text, word_at}
use Rattle.k_words.specs.Numbers.{is_number, is_below, value, is_register, register, register_word}
use Rattle.k_words.specs.Names.{declares, number_of}

pub both : (a b : Bool) → (a && b) ≡ true → (a ≡ true) × (b ≡ true)
both true b e = (refl, e)
both false b e = absurd cc

pub same : (a b : Text) → bytes_eq a b ≡ true → a ≡ b
same a b e = (bytes_eq-Decides a b).0 e

name_cons : (t : Bool) (w n : Text) (names : List Text) → bytes_eq w n ≡ t → declares (n ∷ names) w ≡ true → (declares names w ≡ true → word_at names (number_of names w) ≡ w) → word_at (n ∷ names) (number_of (n ∷ names) w) ≡ w
name_cons true w n names e h ih = rw e (sym (same w n e))
name_cons false w n names e h ih = rw (e, one-add) (ih (rw e at h))

pub name_at : (names : List Text) (w : Text) → declares names w ≡ true → word_at names (number_of names w) ≡ w
name_at [] w h = absurd cc
name_at (n ∷ names) w h = name_cons (bytes_eq w n) w n names refl h (name_at names w)

pub digits : IsNumeralModel (λ ds. list_all is_ascii_digit ds ≡ true) value
digits = numerals_by_value (λ ds. list_all is_ascii_digit ds ≡ true) (search rules)

one : (t : Bool) {a : ℕ} → eqb a 1 ≡ t → (eqb a 1 || false) ≡ true → a ≡ 1
one true {a} e h = eqb-true a 1 e
one false {a} e h = absurd (cc)

no_zero : (a : ℕ) (b : ℕ) → (eqb a 1 || not (eqb b 48)) ≡ true → b ≡ 48 → a ≡ 1
no_zero a b h e = one (eqb a 1) refl (rw e at h)

pub number_word : (limit : ℕ) (w : Text) → limit ≤ 2 ^ 64 → is_below limit w ≡ true → (decimal (value w) ≡ w) × (value w < limit)
number_word limit w le h =
    let p = both (is_number w) (ltb (value w) limit) h in
    let lt : value w < limit = ltb-true _ _ p.1 in
    let q = both (list_all is_ascii_digit w && ltb 0 (length w)) (eqb (length w) 1 || not (eqb (get_or w 0 0) 48)) p.0 in
    let d = both (list_all is_ascii_digit w) (ltb 0 (length w)) q.0 in
    (decimal-digits_value digits w d.0 (ltb-true 0 (length w) d.1) (no_zero (length w) (get_or w 0 0) q.1) (omega arith), lt)

register_cons : (w : Text) → (eqb (get_or w 0 0) 114 && is_below 16 (drop 1 w)) ≡ true → register_word (register w) ≡ w
register_cons [] h = absurd cc
register_cons (b ∷ w) h =
    let p = both (eqb b 114) (is_below 16 w) h in
    rw (eqb-true b 114 p.0, (number_word 16 w (omega arith) p.1).0) refl

pub register_is : (w : Text) → is_register w ≡ true → register_word (register w) ≡ w
register_is w h = register_cons w h
