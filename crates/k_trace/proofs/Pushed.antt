-- Lists with one element more, and the parts of lists of names.
use Rattle.std.proofs.Common.{◌≡◌, ◌∙◌, ℕ, suc, ◌+◌, ◌<◌, Bool, true, false, List, [], ◌∷◌, ◌++◌, length, get_or, refl, sym, ap, arith, inl, inr}
use Rattle.std.proofs.lemmas.Bool.{cases_lt}
use Rattle.std.proofs.lemmas.List.{get_or_append_left, get_or-append-add, length-append}
use Rattle.std.proofs.Math.Seq.{get_or-append_seam}
use Rattle.std.specs.Str.{bytes_eq}
use Rattle.k_words.specs.Words.{Text, word_at}
use Rattle.k_words.specs.Names.{is_name, declares, number_of}
use Rattle.k_limits.proofs.Lists.{length_push}
use Rattle.k_words.proofs.Again.{declares-at}
use Rattle.k_words.proofs.Spelled.{name_at}
use Rattle.k_trace.specs.Rules.{AreNames}
use Rattle.k_trace.specs.Spelling.{declarations}
use Rattle.k_words.proofs.Numbered.{declares_append}

pub word_before : (names : List Text) (n : Text) (i : ℕ) → i < length names → word_at (names ++ n ∷ []) i ≡ word_at names i
word_before names n i lt = get_or_append_left names (n ∷ []) [] i lt

pub word_last : (names : List Text) (n : Text) (i : ℕ) → i ≡ length names → word_at (names ++ n ∷ []) i ≡ n
word_last names n i e = rw e (get_or-append_seam names n [] [])

not_declared : (names : List Text) (n : Text) (i : ℕ) → i < length names → declares names n ≡ false → word_at names i ≡ n → ⊥
not_declared names n i lt fresh e =
    let h : declares names n ≡ true = ap (λ (w : Text). declares names w) (sym e) ∙ declares-at names i lt in
    let g : true ≡ false = sym h ∙ fresh in absurd cc

each_push : (names : List Text) (n : Text) → AreNames names → is_name n ≡ true → (i : ℕ) → i < length (names ++ n ∷ []) → is_name (word_at (names ++ n ∷ []) i) ≡ true
each_push names n all good i lt = elim (cases_lt i (length names)) [
  | inl below ↦ rw (word_before names n i below) (all.each i below)
  | inr above ↦ rw (word_last names n i (omega (arith, length_push names n))) good
]

apart_push : (names : List Text) (n : Text) → AreNames names → declares names n ≡ false → (i k : ℕ) → k < i → i < length (names ++ n ∷ [])
    → word_at (names ++ n ∷ []) i ≡ word_at (names ++ n ∷ []) k → ⊥
apart_push names n all fresh i k below lt e = elim (cases_lt i (length names)) [
  | inl within ↦ all.apart i k below within (sym (word_before names n i within) ∙ e ∙ word_before names n k (omega arith))
  | inr past ↦ not_declared names n k (omega (arith, length_push names n)) fresh
      (sym (word_before names n k (omega (arith, length_push names n))) ∙ sym e ∙ word_last names n i (omega (arith, length_push names n)))
]

-- a new name behind the others
pub AreNames_push : (names : List Text) (n : Text) → AreNames names → is_name n ≡ true → declares names n ≡ false → AreNames (names ++ n ∷ [])
AreNames_push names n all good fresh = record { each = each_push names n all good; apart = apart_push names n all fresh }

-- names of which some stand behind the others
pub AreNames_nil : AreNames []
AreNames_nil = record { each = λ i lt. absurd (omega arith); apart = λ i k below lt e. absurd (omega arith) }

front_each : (xs ys : List Text) → AreNames (xs ++ ys) → (i : ℕ) → i < length xs → is_name (word_at xs i) ≡ true
front_each xs ys all i lt = rw (← get_or_append_left xs ys [] i lt) (all.each i (omega (arith, length-append xs ys)))

-- the names in front are names
pub AreNames_front : (xs ys : List Text) → AreNames (xs ++ ys) → AreNames xs
AreNames_front xs ys all = record {
  each = front_each xs ys all;
  apart = λ i k below lt e. all.apart i k below (omega (arith, length-append xs ys)) (get_or_append_left xs ys [] i lt ∙ e ∙ sym (get_or_append_left xs ys [] k (omega arith)));
}

-- the names behind are names
pub AreNames_back : (xs ys : List Text) → AreNames (xs ++ ys) → AreNames ys
AreNames_back xs ys all = record {
  each = λ i lt. rw (← get_or-append-add xs ys i []) (all.each (length xs + i) (omega (arith, length-append xs ys)));
  apart = λ i k below lt e. all.apart (length xs + i) (length xs + k) (omega arith) (omega (arith, length-append xs ys))
      (get_or-append-add xs ys i [] ∙ e ∙ sym (get_or-append-add xs ys k []));
}

pub neither_declares : (xs ys : List Text) (n : Text) → declares xs n ≡ false → declares ys n ≡ false → declares (xs ++ ys) n ≡ false
neither_declares xs ys n a b = declares_append xs ys n ∙ rw (a, b) refl

-- the number of a name that a list declares is a place in the list
number_below_cons : (t : Bool) (w n : Text) (names : List Text) → bytes_eq w n ≡ t → declares (n ∷ names) w ≡ true → (declares names w ≡ true → number_of names w < length names)
    → number_of (n ∷ names) w < length (n ∷ names)
number_below_cons true w n names e h ih = rw e (omega arith)
number_below_cons false w n names e h ih = let lt = ih (rw e at h) in rw e (omega arith)

pub number_below : (names : List Text) (w : Text) → declares names w ≡ true → number_of names w < length names
number_below [] w h = absurd cc
number_below (n ∷ names) w h = number_below_cons (bytes_eq w n) w n names refl h (number_below names w)

-- a name is not declared by those in front of it
pub fresh_at : (xs : List Text) (n : Text) (ns : List Text) → AreNames (xs ++ n ∷ ns) → declares xs n ≡ false
fresh_at xs n ns all = by_test (declares xs n) refl
  where
    by_test : (b : Bool) → declares xs n ≡ b → b ≡ false
    by_test false e = refl
    by_test true e =
        let i = number_of xs n in
        let lt : number_of xs n < length xs = number_below xs n e in
        absurd (all.apart (length xs) (number_of xs n) lt (omega (arith, length-append xs (n ∷ ns)))
        (get_or-append_seam xs n ns [] ∙ sym (name_at xs n e) ∙ sym (get_or_append_left xs (n ∷ ns) [] (number_of xs n) lt)))

-- a declaration behind the others
pub declarations_push : {A : Type 0} (words : Text → A → List Text) (names : List Text) (xs : List A) (n : Text) (x : A) → length names ≡ length xs
    → declarations words (names ++ n ∷ []) (xs ++ x ∷ []) ≡ declarations words names xs ++ words n x ∷ []
declarations_push words [] [] n x e = refl
declarations_push words [] (y ∷ ys) n x e = absurd cc
declarations_push words (m ∷ names) [] n x e = absurd cc
declarations_push words (m ∷ names) (y ∷ ys) n x e =
    let f : length names ≡ length ys = cc in
    ap (λ (l : List (List Text)). words m y ∷ l) (declarations_push words names ys n x f)

-- declarations whose words are the same
pub declarations_same : {A : Type 0} (u v : Text → A → List Text) (names : List Text) (xs : List A) (d : A)
    → ((m : Text) (i : ℕ) → i < length xs → u m (get_or xs i d) ≡ v m (get_or xs i d)) → declarations u names xs ≡ declarations v names xs
declarations_same u v [] xs d same = refl
declarations_same u v (m ∷ names) [] d same = refl
declarations_same u v (m ∷ names) (x ∷ xs) d same =
    rw (same m 0 (omega arith), declarations_same u v names xs d (λ n i lt. same n (suc i) (omega arith))) refl
