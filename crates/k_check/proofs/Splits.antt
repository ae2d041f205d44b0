-- A text is cut at a line in one way.
use Rattle.std.proofs.Common.{◌≡◌, ◌∙◌, ◌⊎◌, ℕ, ◌+◌, ◌<◌, Bool, true, false, ◌||◌, cond, eqb, List, [], ◌∷◌, ◌++◌, length, refl, sym, ap, subst, arith, inl, inr, length-append}
use Rattle.std.specs.List.{list_any, onto_first}
use Rattle.std.specs.Str.{bytes_eq}
use Rattle.std.proofs.lemmas.Slice.Eq.{bytes_eq-Decides}
use Rattle.k_words.specs.Words.{Text, lines_of, IsSplitAt}

-- ---- what lines tell of the length of their text

-- The bytes of the lines, with a line feed for each.
abbrev weight : List Text → ℕ
weight [] = 0
weight (l ∷ ls) = length l + 1 + weight ls

-- One where the last line has no line feed.
abbrev left_open : Text → ℕ
left_open [] = 0
left_open (b ∷ []) = cond (eqb b 10) 0 1
left_open (b ∷ c ∷ t) = left_open (c ∷ t)

onto_weight : (b : ℕ) (ls : List Text) → 0 < weight ls → weight (onto_first b ls) ≡ 1 + weight ls
onto_weight b [] some = absurd (omega (arith, some))
onto_weight b (l ∷ ls) some = omega arith

one_byte : (b : ℕ) (t : Bool) → eqb b 10 ≡ t → weight (lines_of (b ∷ [])) ≡ 1 + cond t 0 1
one_byte b true e = rw e (omega arith)
one_byte b false e = rw e (omega arith)

more_bytes : (b c : ℕ) (bytes : Text) (t : Bool) → eqb b 10 ≡ t → weight (lines_of (c ∷ bytes)) ≡ length (c ∷ bytes) + left_open (c ∷ bytes)
    → weight (lines_of (b ∷ c ∷ bytes)) ≡ length (b ∷ c ∷ bytes) + left_open (c ∷ bytes)
more_bytes b c bytes true e ih = rw e (omega (arith, ih))
more_bytes b c bytes false e ih = rw e (let onto = onto_weight b (lines_of (c ∷ bytes)) (omega (arith, ih)) in omega (arith, ih, onto))

lines_weight : (t : Text) → weight (lines_of t) ≡ length t + left_open t
lines_weight [] = refl
lines_weight (b ∷ []) = one_byte b (eqb b 10) refl
lines_weight (b ∷ c ∷ t) = more_bytes b c t (eqb b 10) refl (lines_weight (c ∷ t))

open_behind : (b : ℕ) (t : Text) → 0 < length t → left_open (b ∷ t) ≡ left_open t
open_behind b [] some = absurd (omega (arith, some))
open_behind b (c ∷ t) some = refl

-- A text ends as its last part does.
open_end : (front t : Text) → 0 < length t → left_open (front ++ t) ≡ left_open t
open_end [] t some = refl
open_end (b ∷ front) t some = open_behind b (front ++ t) (omega (arith, some, length-append front t)) ∙ open_end front t some

-- ---- the first line that is the wanted one

-- The lines are none, or begin with one that passes.
abbrev BeginsWith : (Text → Bool) → List Text → Type 0
BeginsWith p ls = (ls ≡ []) ⊎ ((l : Text) × (more : List Text) × (ls ≡ l ∷ more) × (p l ≡ true))

none_first : (p : Text → Bool) (l : Text) (ls : List Text) → list_any p (l ∷ ls) ≡ false → p l ≡ true → ⊥
none_first p l ls none passes = let e : true ≡ false = sym (ap (λ b. b || list_any p ls) passes) ∙ none in absurd cc

none_later : (p : Text → Bool) (l : Text) (ls : List Text) (b : Bool) → p l ≡ b → list_any p (l ∷ ls) ≡ false → list_any p ls ≡ false
none_later p l ls true e none = absurd (none_first p l ls none e)
none_later p l ls false e none = sym (ap (λ t. t || list_any p ls) e) ∙ none

not_here : (p : Text → Bool) (y : Text) (ys zs ws : List Text) → list_any p (y ∷ ys) ≡ false → BeginsWith p zs → zs ≡ y ∷ ys ++ ws → ⊥
not_here p y ys zs ws none (inl empty) e = absurd (let f : [] ≡ y ∷ ys ++ ws = sym empty ∙ e in cc)
not_here p y ys zs ws none (inr begins) e = none_first p y ys none (let f : begins.0 ∷ begins.1 ≡ y ∷ ys ++ ws = sym begins.2 ∙ e in let same : begins.0 ≡ y = cc in subst (λ (l : Text). p l ≡ true) same begins.3)

-- What stands from the first line on that passes is the same.
same_rest : (p : Text → Bool) (xs ys zs ws : List Text) → list_any p xs ≡ false → list_any p ys ≡ false → BeginsWith p zs → BeginsWith p ws → xs ++ zs ≡ ys ++ ws → zs ≡ ws
same_rest p [] [] zs ws nx ny bz bw e = e
same_rest p [] (y ∷ ys) zs ws nx ny bz bw e = absurd (not_here p y ys zs ws ny bz e)
same_rest p (x ∷ xs) [] zs ws nx ny bz bw e = absurd (not_here p x xs ws zs nx bw (sym e))
same_rest p (x ∷ xs) (y ∷ ys) zs ws nx ny bz bw e =
    same_rest p xs ys zs ws (none_later p x xs (p x) refl nx) (none_later p y ys (p y) refl ny) bz bw (let f : xs ++ zs ≡ ys ++ ws = cc in f)

begins_with : (wanted : Text) (rest : Text) → (rest ≡ []) ⊎ ((more : List Text) × (lines_of rest ≡ wanted ∷ more)) → BeginsWith (bytes_eq wanted) (lines_of rest)
begins_with wanted rest (inl none) = inl (ap lines_of none)
begins_with wanted rest (inr some) = inr (wanted, some.0, some.1, (bytes_eq-Decides wanted wanted).1 refl)

-- ---- the cut

open_there : (bytes front rest : Text) → bytes ≡ front ++ rest → 0 < length rest → left_open rest ≡ left_open bytes
open_there bytes front rest whole some = sym (ap left_open whole ∙ open_end front rest some)

same_front : (front other rest behind : Text) → length front ≡ length other → front ++ rest ≡ other ++ behind → (front ≡ other) × (rest ≡ behind)
same_front [] [] rest behind long e = (refl, e)
same_front [] (c ∷ other) rest behind long e = absurd (omega (arith, long))
same_front (b ∷ front) [] rest behind long e = absurd (omega (arith, long))
same_front (b ∷ front) (c ∷ other) rest behind long e =
    let later : front ++ rest ≡ other ++ behind = cc in
    let w = same_front front other rest behind (omega (arith, long)) later in
    let first : b ≡ c = cc in
    (ap (λ (x : ℕ). x ∷ front) first ∙ ap (λ (t : Text). c ∷ t) w.0, w.1)

same_length : (bytes front rest other behind : Text) → bytes ≡ front ++ rest → bytes ≡ other ++ behind → lines_of rest ≡ lines_of behind → 0 < length rest → 0 < length behind → length front ≡ length other
same_length bytes front rest other behind whole also lines some more =
    let one = lines_weight rest in
    let two = lines_weight behind in
    let same = ap weight lines in
    let first = open_there bytes front rest whole some in
    let second = open_there bytes other behind also more in
    let all = ap length whole ∙ length-append front rest in
    let both = ap length also ∙ length-append other behind in
    omega (arith, one, two, same, first, second, all, both)

by_rests : (wanted bytes front rest other behind : Text) → IsSplitAt wanted bytes front rest → IsSplitAt wanted bytes other behind → lines_of rest ≡ lines_of behind
    → (rest ≡ []) ⊎ ((more : List Text) × (lines_of rest ≡ wanted ∷ more)) → (behind ≡ []) ⊎ ((more : List Text) × (lines_of behind ≡ wanted ∷ more)) → (front ≡ other) × (rest ≡ behind)
by_rests wanted bytes front rest other behind s t lines (inl none) (inl also) =
    same_front front other rest behind (let all = ap length s.whole ∙ length-append front rest in let both = ap length t.whole ∙ length-append other behind in omega (arith, all, both, ap length none, ap length also)) (sym s.whole ∙ t.whole)
by_rests wanted bytes front rest other behind s t lines (inl none) (inr some) = absurd (let e : [] ≡ wanted ∷ some.0 = sym (ap lines_of none) ∙ lines ∙ some.1 in cc)
by_rests wanted bytes front rest other behind s t lines (inr some) (inl none) = absurd (let e : [] ≡ wanted ∷ some.0 = sym (ap lines_of none) ∙ sym lines ∙ some.1 in cc)
by_rests wanted bytes front rest other behind s t lines (inr some) (inr more) =
    same_front front other rest behind (same_length bytes front rest other behind s.whole t.whole lines (has_bytes rest some.0 some.1) (has_bytes behind more.0 more.1)) (sym s.whole ∙ t.whole)
  where
    has_bytes : (text : Text) (later : List Text) → lines_of text ≡ wanted ∷ later → 0 < length text
    has_bytes [] later e = absurd (cc e)
    has_bytes (b ∷ text) later e = omega arith

-- A text is cut at the first line that is the wanted one in one way.
pub one_split : (wanted bytes front rest other behind : Text) → IsSplitAt wanted bytes front rest → IsSplitAt wanted bytes other behind → (front ≡ other) × (rest ≡ behind)
one_split wanted bytes front rest other behind s t =
    let lines = same_rest (bytes_eq wanted) (lines_of front) (lines_of other) (lines_of rest) (lines_of behind) s.before t.before (begins_with wanted rest s.found) (begins_with wanted behind t.found) (sym s.lines ∙ t.lines) in
    by_rests wanted bytes front rest other behind s t lines s.found t.found
