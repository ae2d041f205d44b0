-- The first line, and the first word.
use Rattle.std.proofs.Common.{◌≡◌, ◌∙◌, ℕ, ◌+◌, ◌-◌, ◌<◌, ◌≤◌, Bool, true, false, eqb, List, [], ◌∷◌, length, take, drop, refl, sym, ap, arith, one-add, add-one, inl, inr}
use Rattle.std.specs.List.{position_or_len, before_first, after_first}
use Rattle.std.proofs.lemmas.List.{take_rest, take_all}
use Rattle.std.proofs.lemmas.List.Splits.{slice_split_first}
use Rattle.std.proofs.lemmas.Bool.{cases_lt}
use Rattle.k_words.specs.Words.{Text, lines_of, words_of, word_at}

abbrev pub is_feed : ℕ → Bool
is_feed b = eqb b 10

abbrev pub is_space : ℕ → Bool
is_space b = eqb b 32

abbrev FirstLine : Text → Type 0
FirstLine bytes = position_or_len is_feed bytes < length bytes → lines_of bytes ≡ before_first is_feed bytes ∷ lines_of (after_first is_feed bytes)

first_line_cons : (b : ℕ) (bytes : Text) (t : Bool) → eqb b 10 ≡ t → FirstLine bytes → FirstLine (b ∷ bytes)
first_line_cons b bytes true e ih lt = rw e refl
first_line_cons b bytes false e ih lt =
    let shorter : position_or_len is_feed bytes < length bytes = omega (arith, rw e at lt) in
    rw (e, ih shorter) (simp (one-add, add-one))

first_line : (bytes : Text) → FirstLine bytes
first_line [] lt = absurd (omega arith)
first_line (b ∷ bytes) lt = first_line_cons b bytes (eqb b 10) refl (first_line bytes) lt

abbrev OneLine : Text → Type 0
OneLine bytes = length bytes ≤ position_or_len is_feed bytes → 0 < length bytes → lines_of bytes ≡ bytes ∷ []

one_line_cons : (b : ℕ) (bytes : Text) (t : Bool) → eqb b 10 ≡ t → OneLine bytes → OneLine (b ∷ bytes)
one_line_cons b bytes true e ih long some = absurd (omega (arith, rw e at long))
one_line_cons b [] false e ih long some = rw e refl
one_line_cons b (c ∷ bytes) false e ih long some =
    let shorter : length (c ∷ bytes) ≤ position_or_len is_feed (c ∷ bytes) = omega (arith, rw e at long) in
    rw (e, ih shorter (omega arith)) refl

one_line : (bytes : Text) → OneLine bytes
one_line [] long some = absurd (omega arith)
one_line (b ∷ bytes) long some = one_line_cons b bytes (eqb b 10) refl (one_line bytes) long some

-- as the code finds them
pub line_at : (bytes : Text) (end : ℕ) → end ≡ position_or_len is_feed bytes → end < length bytes → lines_of bytes ≡ take end bytes ∷ lines_of (take (length bytes - (end + 1)) (drop (end + 1) bytes))
line_at bytes end e lt = rw (take_rest bytes (end + 1)) (rw e (first_line bytes (rw (← e) lt)))

pub last_line : (bytes : Text) (end : ℕ) → end ≡ position_or_len is_feed bytes → length bytes ≤ end → 0 < length bytes → lines_of bytes ≡ bytes ∷ []
last_line bytes end e le some = one_line bytes (rw (← e) le) some

pub word_before : (bytes : Text) (end : ℕ) → end ≡ position_or_len is_space bytes → end < length bytes → words_of bytes ≡ take (position_or_len is_space bytes) bytes ∷ words_of (take (length bytes - (end + 1)) (drop (end + 1) bytes))
word_before bytes end e lt = rw (take_rest bytes (end + 1)) (rw e (slice_split_first is_space bytes 0 (rw (← e) lt)))

abbrev OneWord : Text → Type 0
OneWord bytes = length bytes ≤ position_or_len is_space bytes → words_of bytes ≡ bytes ∷ []

one_word_cons : (b : ℕ) (bytes : Text) (t : Bool) → eqb b 32 ≡ t → OneWord bytes → OneWord (b ∷ bytes)
one_word_cons b bytes true e ih long = absurd (omega (arith, rw e at long))
one_word_cons b bytes false e ih long =
    let shorter : length bytes ≤ position_or_len is_space bytes = omega (arith, rw e at long) in
    rw (e, ih shorter) refl

one_word : (bytes : Text) → OneWord bytes
one_word [] long = refl
one_word (b ∷ bytes) long = one_word_cons b bytes (eqb b 32) refl (one_word bytes) long

pub last_word : (bytes : Text) (end : ℕ) → end ≡ position_or_len is_space bytes → length bytes ≤ end → words_of bytes ≡ bytes ∷ []
last_word bytes end e le = one_word bytes (rw (← e) le)

-- the first word, whether others follow or not
pub first_word : (bytes : Text) (end : ℕ) → end ≡ position_or_len is_space bytes → word_at (words_of bytes) 0 ≡ take end bytes
first_word bytes end e = elim (cases_lt end (length bytes)) [
  | inl lt ↦ ap (λ (ws : List Text). word_at ws 0) (word_before bytes end e lt) ∙ ap (λ (n : ℕ). take n bytes) (sym e)
  | inr le ↦ ap (λ (ws : List Text). word_at ws 0) (last_word bytes end e le) ∙ sym (take_all end bytes le)
]
