-- Lines and words cut at a byte and at a word.
use Rattle.std.proofs.Common.{◌≡◌, ◌∙◌, ◌⊎◌, ℕ, zero, suc, ◌+◌, ◌-◌, ◌<◌, ◌≤◌, Bool, true, false, not, eqb, List, [], ◌∷◌, ◌++◌, length, take, drop, get_or, refl, sym, ap, subst, arith, one-add, add-one, zero-add, inl, inr, append_assoc, length-drop}
use Rattle.std.specs.List.{before_first, after_first, onto_first, position_or_len, list_any}
use Rattle.std.proofs.lemmas.Bool.{eqb-true, cases_lt}
use Rattle.std.proofs.lemmas.List.{take-append-drop, take_all, take_rest, take_more, get_or-drop}
use Rattle.std.proofs.lemmas.List.Folds.{list_any-append}
use Rattle.std.proofs.lemmas.List.Sums.{prefix_len-le-length}
use Rattle.std.proofs.lemmas.List.Splits.{length-slice_split}
use Rattle.k_words.specs.Words.{Text, words_of}
use Rattle.k_words.proofs.Lines.{is_space, word_before, last_word}

onto_append : (b : ℕ) (ws us : List Text) → 0 < length ws → onto_first b (ws ++ us) ≡ onto_first b ws ++ us
onto_append b [] us some = absurd (omega arith)
onto_append b (w ∷ ws) us some = refl

some_words : (xs : Text) → 0 < length (words_of xs)
some_words xs = omega (arith, length-slice_split is_space xs)

cut_cons : (t : Bool) (b : ℕ) (xs ys : Text) → eqb b 32 ≡ t → words_of (xs ++ 32 ∷ ys) ≡ words_of xs ++ words_of ys → words_of (b ∷ xs ++ 32 ∷ ys) ≡ words_of (b ∷ xs) ++ words_of ys
cut_cons true b xs ys e ih = rw (e, ih) refl
cut_cons false b xs ys e ih = rw (e, ih) (onto_append b (words_of xs) (words_of ys) (some_words xs))

-- A space parts the words before it from those behind it.
pub words_cut : (xs ys : Text) → words_of (xs ++ 32 ∷ ys) ≡ words_of xs ++ words_of ys
words_cut [] ys = refl
words_cut (b ∷ xs) ys = cut_cons (eqb b 32) b xs ys refl (words_cut xs ys)

one_cons : (t : Bool) (b : ℕ) (xs : Text) → eqb b 32 ≡ t → words_of (before_first is_space xs) ≡ before_first is_space xs ∷ [] → words_of (before_first is_space (b ∷ xs)) ≡ before_first is_space (b ∷ xs) ∷ []
one_cons true b xs e ih = rw e refl
one_cons false b xs e ih = rw (e, one-add) (rw (e, ih) refl)

-- What stands before the first space is one word.
pub one_word : (xs : Text) → words_of (before_first is_space xs) ≡ before_first is_space xs ∷ []
one_word [] = refl
one_word (b ∷ xs) = one_cons (eqb b 32) b xs refl (one_word xs)

space_cons : (t : Bool) (b : ℕ) (xs : Text) → eqb b 32 ≡ t → (position_or_len is_space xs < length xs → get_or xs (position_or_len is_space xs) 0 ≡ 32)
    → position_or_len is_space (b ∷ xs) < length (b ∷ xs) → get_or (b ∷ xs) (position_or_len is_space (b ∷ xs)) 0 ≡ 32
space_cons true b xs e ih lt = rw e (eqb-true b 32 e)
space_cons false b xs e ih lt =
    let shorter : position_or_len is_space xs < length xs = omega (arith, rw e at lt) in
    rw (e, one-add) (ih shorter)

-- The first space is one.
pub space_at : (xs : Text) → position_or_len is_space xs < length xs → get_or xs (position_or_len is_space xs) 0 ≡ 32
space_at [] lt = absurd (omega arith)
space_at (b ∷ xs) lt = space_cons (eqb b 32) b xs refl (space_at xs) lt

-- The place is a line's start, or stands behind a space.
abbrev pub IsAfterSpace : Text → ℕ → Type 0
IsAfterSpace line zero = Unit {0}
IsAfterSpace line (suc n) = take (suc n) line ≡ take n line ++ 32 ∷ []

-- The words before the place.
abbrev pub words_behind : Text → ℕ → List Text
words_behind line zero = []
words_behind line (suc n) = words_of (take n line)

-- A word begins at the place, and none before it passes.
pub record IsPlace (p : Text → Bool) (line : Text) (at : ℕ) : Type 0 where
  pub fits : at ≤ length line
  pub behind : IsAfterSpace line at
  pub none : list_any p (words_behind line at) ≡ false

pub begins : (p : Text → Bool) (line : Text) → IsPlace p line 0
begins p line = record { fits = omega arith; behind = tt; none = refl }

-- The words of the line are those before the place and those from it on.
pub words_at : (line : Text) (at : ℕ) → IsAfterSpace line at → words_of line ≡ words_behind line at ++ words_of (drop at line)
words_at line zero h = refl
words_at line (suc n) h =
    let whole : line ≡ take n line ++ 32 ∷ drop (suc n) line = sym (take-append-drop (suc n) line) ∙ ap (λ (t : Text). t ++ drop (suc n) line) h ∙ append_assoc (take n line) (32 ∷ []) (drop (suc n) line) in
    ap words_of whole ∙ words_cut (take n line) (drop (suc n) line)

take_none : (n : ℕ) → take n (let xs : Text = [] in xs) ≡ []
take_none zero = refl
take_none (suc n) = refl

take_further : (at n : ℕ) (xs : Text) → take (at + n) xs ≡ take at xs ++ take n (drop at xs)
take_further zero n xs = rw zero-add refl
take_further (suc at) n [] = let e : suc at + n ≡ suc (at + n) = omega arith in rw e (sym (take_none n))
take_further (suc at) n (x ∷ xs) = let e : suc at + n ≡ suc (at + n) = omega arith in rw e (ap (λ (ys : Text). x ∷ ys) (take_further at n xs))

further_words : (line : Text) (at end : ℕ) → IsAfterSpace line at → words_of (take (at + end) line) ≡ words_behind line at ++ words_of (take end (drop at line))
further_words line zero end h = rw zero-add refl
further_words line (suc n) end h =
    ap words_of (take_further (suc n) end line ∙ ap (λ (t : Text). t ++ take end (drop (suc n) line)) h ∙ append_assoc (take n line) (32 ∷ []) (take end (drop (suc n) line)))
    ∙ words_cut (take n line) (take end (drop (suc n) line))

any_more : (p : Text → Bool) (ws : List Text) (w : Text) → list_any p ws ≡ false → p w ≡ false → list_any p (ws ++ w ∷ []) ≡ false
any_more p ws w h k = list_any-append p ws (w ∷ []) ∙ rw (h, k) refl

-- The next word, where this one does not pass.
pub next_place : (p : Text → Bool) (line : Text) (at end next : ℕ) → IsPlace p line at → end ≡ position_or_len is_space (drop at line) → end < length (drop at line) → p (take end (drop at line)) ≡ false
    → next ≡ suc (at + end) → IsPlace p line next
next_place p line at end next h e lt fails is =
    let len : length (drop at line) ≡ length line - at = length-drop at line in
    let there : get_or line (at + end) 0 ≡ 32 = sym (get_or-drop at line end 0) ∙ rw e (space_at (drop at line) (rw e at lt)) in
    let alone : words_of (take end (drop at line)) ≡ take end (drop at line) ∷ [] = rw e (one_word (drop at line)) in
    subst (IsPlace p line) (sym is) (record {
      fits = omega (arith, len, h.fits);
      behind = rw (← add-one (at + end)) (take_more line (at + end) 0 (omega (arith, len, h.fits)) ∙ rw there refl);
      none = rw (further_words line at end h.behind, alone) (any_more p (words_behind line at) (take end (drop at line)) h.none fails);
    })

no_cons : {A : Type 0} (p : A → Bool) (t : Bool) (x : A) (xs : List A) → p x ≡ t → list_any p (x ∷ xs) ≡ false → (t ≡ false) × (list_any p xs ≡ false)
no_cons p true x xs e h = absurd (let f : true ≡ false = sym (rw e refl) ∙ h in cc)
no_cons p false x xs e h = (refl, rw e at h)

parted_cons : {A : Type 0} (p : A → Bool) (t : Bool) (x : A) (xs : List A) (y : A) (ys : List A) → p x ≡ t → list_any p (x ∷ xs) ≡ false
    → (list_any p xs ≡ false → (before_first p (xs ++ y ∷ ys) ≡ xs) × (after_first p (xs ++ y ∷ ys) ≡ ys))
    → (before_first p (x ∷ xs ++ y ∷ ys) ≡ x ∷ xs) × (after_first p (x ∷ xs ++ y ∷ ys) ≡ ys)
parted_cons p t x xs y ys e h ih =
    let out = no_cons p t x xs e h in
    let f : p x ≡ false = e ∙ out.0 in
    let r = ih out.1 in
    (rw (f, one-add) (rw r.0 refl), rw (f, one-add, add-one) (rw add-one at r.1))

-- A list is parted at its first element that passes.
pub parted_at : {A : Type 0} (p : A → Bool) (xs : List A) (y : A) (ys : List A) → list_any p xs ≡ false → p y ≡ true → (before_first p (xs ++ y ∷ ys) ≡ xs) × (after_first p (xs ++ y ∷ ys) ≡ ys)
parted_at p [] y ys h k = (rw k refl, rw k refl)
parted_at p (x ∷ xs) y ys h k = parted_cons p (p x) x xs y ys refl h (λ none. parted_at p xs y ys none k)

-- Where no element passes nothing stands behind the first that does.
pub none_behind : (p : Text → Bool) (xs : List Text) → list_any p xs ≡ false → after_first p xs ≡ []
none_behind p [] h = refl
none_behind p (x ∷ xs) h =
    let out = no_cons p (p x) x xs refl h in
    let ih : after_first p xs ≡ [] = none_behind p xs out.1 in
    rw (out.0, one-add, add-one) (rw add-one at ih)

before_cons : {A : Type 0} (p : A → Bool) (x : A) (xs : List A) → p x ≡ false → before_first p (x ∷ xs) ≡ x ∷ before_first p xs
before_cons p x xs e = rw (e, one-add) refl

after_cons : {A : Type 0} (p : A → Bool) (x : A) (xs : List A) → p x ≡ false → after_first p (x ∷ xs) ≡ after_first p xs
after_cons p x xs e = rw e (simp (one-add, add-one) refl)

split_cons : {A : Type 0} (p : A → Bool) (y : A) (t : Bool) (x : A) (xs : List A) → p x ≡ t → (t ≡ true → x ≡ y) → (0 < length (after_first p xs) → before_first p xs ++ y ∷ after_first p xs ≡ xs)
    → 0 < length (after_first p (x ∷ xs)) → before_first p (x ∷ xs) ++ y ∷ after_first p (x ∷ xs) ≡ x ∷ xs
split_cons p y true x xs e is ih some = rw (e, is refl) refl
split_cons {A} p y false x xs e is ih some =
    let less : 0 < length (after_first p xs) = subst (λ (v : List A). 0 < length v) (after_cons p x xs e) some in
    ap (λ (v : List A). v ++ y ∷ after_first p (x ∷ xs)) (before_cons p x xs e) ∙ ap (λ (v : List A). x ∷ before_first p xs ++ y ∷ v) (after_cons p x xs e) ∙ ap (λ (v : List A). x ∷ v) (ih less)

-- Where something stands behind the first element that passes, the list is parted there.
pub split_first : {A : Type 0} (p : A → Bool) (y : A) → ((x : A) → p x ≡ true → x ≡ y) → (xs : List A) → 0 < length (after_first p xs) → before_first p xs ++ y ∷ after_first p xs ≡ xs
split_first p y is [] some = absurd (omega arith)
split_first {A} p y is (x ∷ xs) some = split_cons {A = A} p y (p x) x xs refl (is x) (split_first {A = A} p y is xs) some

-- ---- as the code finds them

-- A word ends within the line.
pub word_fits : (rest : Text) (end : ℕ) → end ≡ position_or_len is_space rest → end ≤ length rest
word_fits rest end e = rw e (prefix_len-le-length (λ b. not (is_space b)) rest)

behind_is : (line : Text) (at : ℕ) → 0 < at → words_behind line at ≡ words_of (take (at - 1) line)
behind_is line zero lt = absurd (omega arith)
behind_is line (suc n) lt = let e : suc n - 1 ≡ n = omega arith in rw e refl

-- The first word, and what may stand behind it.
record IsFirst (rest : Text) (end : ℕ) : Type 0 where
  others : List Text
  words : words_of rest ≡ take end rest ∷ others
  last : length rest ≤ end → others ≡ []

first_of : (rest : Text) (end : ℕ) → end ≡ position_or_len is_space rest → IsFirst rest end
first_of rest end e = elim (cases_lt end (length rest)) [
  | inl lt ↦ record {
    others = words_of (take (length rest - (end + 1)) (drop (end + 1) rest));
    words = word_before rest end e lt ∙ rw e refl;
    last = λ le. absurd (omega arith);
  }
  | inr le ↦ record { others = []; words = last_word rest end e le ∙ rw (take_all end rest le) refl; last = λ _. refl }
]

whole_words : (p : Text → Bool) (line rest : Text) (at end : ℕ) (others : List Text) → rest ≡ take (length line - at) (drop at line) → IsPlace p line at → words_of rest ≡ take end rest ∷ others
    → words_of line ≡ words_behind line at ++ take end rest ∷ others
whole_words p line rest at end others is h words =
    let same : rest ≡ drop at line = is ∙ take_rest line at in
    words_at line at h.behind ∙ ap (λ (ws : List Text). words_behind line at ++ ws) (ap words_of (sym same) ∙ words)

-- The word was found inside of the line.
pub found_inside : (p : Text → Bool) (line rest : Text) (at end : ℕ) → rest ≡ take (length line - at) (drop at line) → IsPlace p line at → end ≡ position_or_len is_space rest → p (take end rest) ≡ true
    → 0 < at → end < length rest
    → (words_of (take (at - 1) line) ≡ before_first p (words_of line)) × (words_of (take (length rest - (end + 1)) (drop (end + 1) rest)) ≡ after_first p (words_of line))
found_inside p line rest at end is h e passes later lt =
    let others : List Text = words_of (take (length rest - (end + 1)) (drop (end + 1) rest)) in
    let whole : words_of line ≡ words_behind line at ++ take end rest ∷ others = whole_words p line rest at end others is h (word_before rest end e lt ∙ rw e refl) in
    let r = parted_at p (words_behind line at) (take end rest) others h.none passes in
    (sym (ap (before_first p) whole ∙ r.0 ∙ behind_is line at later), sym (ap (after_first p) whole ∙ r.1))

-- The word was found at an end of the line.
pub found_outside : (p : Text → Bool) (line rest : Text) (at end : ℕ) → rest ≡ take (length line - at) (drop at line) → IsPlace p line at → end ≡ position_or_len is_space rest → p (take end rest) ≡ true
    → (at ≡ 0) ⊎ (length rest ≤ end) → (before_first p (words_of line) ≡ []) ⊎ (after_first p (words_of line) ≡ [])
found_outside p line rest at end is h e passes (inl first) =
    let f = first_of rest end e in
    let r = parted_at p (words_behind line at) (take end rest) f.others h.none passes in
    inl (ap (before_first p) (whole_words p line rest at end f.others is h f.words) ∙ r.0 ∙ rw first refl)
found_outside p line rest at end is h e passes (inr last) =
    let f = first_of rest end e in
    let r = parted_at p (words_behind line at) (take end rest) f.others h.none passes in
    inr (ap (after_first p) (whole_words p line rest at end f.others is h f.words) ∙ r.1 ∙ f.last last)

-- The word was not found.
pub not_found : (p : Text → Bool) (line rest : Text) (at end : ℕ) → rest ≡ take (length line - at) (drop at line) → IsPlace p line at → end ≡ position_or_len is_space rest → p (take end rest) ≡ false
    → length rest ≤ end → after_first p (words_of line) ≡ []
not_found p line rest at end is h e fails last =
    let f = first_of rest end e in
    none_behind p (words_of line) (ap (list_any p) (whole_words p line rest at end f.others is h f.words ∙ rw (f.last last) refl) ∙ any_more p (words_behind line at) (take end rest) h.none fails)

-- The next word.
pub next_word : (p : Text → Bool) (line rest : Text) (at end : ℕ) → rest ≡ take (length line - at) (drop at line) → IsPlace p line at → end ≡ position_or_len is_space rest → p (take end rest) ≡ false
    → end < length rest → IsPlace p line (at + (end + 1))
next_word p line rest at end is h e fails lt =
    let same : rest ≡ drop at line = is ∙ take_rest line at in
    next_place p line at end (at + (end + 1)) h (e ∙ ap (position_or_len is_space) same) (rw same at lt) (rw same at fails) (omega arith)
