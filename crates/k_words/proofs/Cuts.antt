-- Where a text is cut at the start of a line.
use Rattle.std.proofs.Common.{◌≡◌, ◌∙◌, ◌⊎◌, ℕ, ◌+◌, ◌-◌, ◌<◌, Bool, true, false, ◌||◌, eqb, List, [], ◌∷◌, ◌++◌, length, take, drop, get_or, refl, sym, ap, subst, arith, inl, inr, append_assoc, length-append}
use Rattle.std.specs.List.{list_any, onto_first, position_or_len, before_first, after_first}
use Rattle.std.specs.Str.{bytes_eq}
use Rattle.std.proofs.lemmas.Bool.{eqb-true}
use Rattle.std.proofs.lemmas.Slice.Eq.{bytes_eq-Decides}
use Rattle.std.proofs.lemmas.List.{append-nil, append_cancel_right, take_rest}
use Rattle.std.proofs.lemmas.List.Sums.{split_at_first, passes_at_first}
use Rattle.k_words.specs.Words.{Text, lines_of, IsFirstLine, IsSplitAt}
use Rattle.k_words.proofs.Lines.{is_feed}
use Rattle.k_words.proofs.Spelled.{same}

-- ---- the first line with its line feed

pub feed_at : (bytes : Text) (end : ℕ) → end ≡ position_or_len is_feed bytes → end < length bytes → bytes ≡ take end bytes ++ 10 ∷ take (length bytes - (end + 1)) (drop (end + 1) bytes)
feed_at bytes end e lt =
    let inside : position_or_len is_feed bytes < length bytes = rw (← e) lt in
    let feed : get_or bytes (position_or_len is_feed bytes) 0 ≡ 10 = eqb-true _ 10 (passes_at_first is_feed bytes 0 inside) in
    rw (take_rest bytes (end + 1)) (rw e (split_at_first is_feed bytes 0 inside ∙ ap (λ (b : ℕ). before_first is_feed bytes ++ b ∷ after_first is_feed bytes) feed))

-- ---- ends of lines

-- the text is nothing, or ends with a line feed
abbrev pub ends_line : Text → Bool
ends_line [] = true
ends_line (b ∷ []) = eqb b 10
ends_line (b ∷ c ∷ bytes) = ends_line (c ∷ bytes)

ends_fed : (t : Text) → ends_line (t ++ 10 ∷ []) ≡ true
ends_fed [] = refl
ends_fed (b ∷ []) = refl
ends_fed (b ∷ c ∷ t) = ends_fed (c ∷ t)

not_none : (b : ℕ) (lines : List Text) → onto_first b lines ≡ [] → ⊥
not_none b [] e = absurd cc
not_none b (l ∷ ls) e = absurd cc

some_line : (t : Bool) (b : ℕ) (bytes : Text) → eqb b 10 ≡ t → lines_of (b ∷ bytes) ≡ [] → ⊥
some_line true b bytes e none = let f : [] ∷ lines_of bytes ≡ [] = rw e at none in absurd cc
some_line false b bytes e none = not_none b (lines_of bytes) (rw e at none)

onto_append : (b : ℕ) (ls ms : List Text) → (ls ≡ [] → ⊥) → onto_first b (ls ++ ms) ≡ onto_first b ls ++ ms
onto_append b [] ms some = absurd (some refl)
onto_append b (l ∷ ls) ms some = refl

append_cons : (t : Bool) (b c : ℕ) (bytes xs : Text) → eqb b 10 ≡ t → lines_of ((c ∷ bytes) ++ xs) ≡ lines_of (c ∷ bytes) ++ lines_of xs
    → lines_of ((b ∷ c ∷ bytes) ++ xs) ≡ lines_of (b ∷ c ∷ bytes) ++ lines_of xs
append_cons true b c bytes xs e ih = rw e (ap (λ (ls : List Text). [] ∷ ls) ih)
append_cons false b c bytes xs e ih = rw e (ap (onto_first b) ih ∙ onto_append b (lines_of (c ∷ bytes)) (lines_of xs) (some_line (eqb c 10) c bytes refl))

pub lines_append : (front xs : Text) → ends_line front ≡ true → lines_of (front ++ xs) ≡ lines_of front ++ lines_of xs
lines_append [] xs ends = refl
lines_append (b ∷ []) xs ends = rw ends refl
lines_append (b ∷ c ∷ front) xs ends = append_cons (eqb b 10) b c front xs refl (lines_append (c ∷ front) xs ends)

-- ---- cuts

any_cons : (b : Bool) (xs ys : List Text) (p : Text → Bool) → (b || list_any p xs) ≡ false → (list_any p xs ≡ false → list_any p (xs ++ ys) ≡ false) → (b || list_any p (xs ++ ys)) ≡ false
any_cons true xs ys p e ih = absurd cc
any_cons false xs ys p e ih = ih e

any_append : (p : Text → Bool) (xs ys : List Text) → list_any p xs ≡ false → list_any p ys ≡ false → list_any p (xs ++ ys) ≡ false
any_append p [] ys none more = more
any_append p (x ∷ xs) ys none more = any_cons (p x) xs ys p none (λ e. any_append p xs ys e more)

take_front : (front rest : Text) → take (length front) (front ++ rest) ≡ front
take_front [] rest = refl
take_front (x ∷ xs) rest = ap (λ (t : Text). x ∷ t) (take_front xs rest)

-- the front has lines none of which is the wanted one, and ends with one of them; or nothing is behind it
pub record IsCut (wanted bytes front rest : Text) : Type 0 where
  pub whole : bytes ≡ front ++ rest
  pub before : list_any (bytes_eq wanted) (lines_of front) ≡ false
  pub ends : (ends_line front ≡ true) ⊎ (rest ≡ [])

abbrev pub AreCut : Text → Text → Text → Type 0
AreCut wanted bytes rest = (front : Text) × IsCut wanted bytes front rest

ends_true : (front rest : Text) → (ends_line front ≡ true) ⊎ (rest ≡ []) → 0 < length rest → ends_line front ≡ true
ends_true front rest (inl e) some = e
ends_true front rest (inr e) some = absurd (omega (arith, ap length e))

other_line : (wanted line : Text) → false ≡ bytes_eq line wanted → list_any (bytes_eq wanted) (line ∷ []) ≡ false
other_line wanted line e = by_test (bytes_eq wanted line) refl
  where
    by_test : (b : Bool) → bytes_eq wanted line ≡ b → (b || false) ≡ false
    by_test false f = refl
    by_test true f = let g : false ≡ true = e ∙ (bytes_eq-Decides line wanted).1 (sym (same wanted line f)) in absurd cc

one_more : (wanted bytes front rest line after : Text) → IsCut wanted bytes front rest → 0 < length rest → lines_of rest ≡ line ∷ lines_of after → false ≡ bytes_eq line wanted → IsFirstLine rest line after
    → AreCut wanted bytes after
one_more wanted bytes front rest line after cut some lines other (inl e) =
    let ends = ends_true front rest cut.ends some in
    let fed : Text = line ++ 10 ∷ [] in
    let split : rest ≡ (line ++ 10 ∷ []) ++ after = e ∙ sym (append_assoc line (10 ∷ []) after) in
    let one : lines_of (line ++ 10 ∷ []) ≡ line ∷ [] = append_cancel_right _ _ (lines_of after) (sym (lines_append (line ++ 10 ∷ []) after (ends_fed line)) ∙ ap lines_of (sym split) ∙ lines) in (
      front ++ (line ++ 10 ∷ []),
      record {
        whole = cut.whole ∙ ap (λ (t : Text). front ++ t) split ∙ sym (append_assoc front (line ++ 10 ∷ []) after);
        before = rw (lines_append front (line ++ 10 ∷ []) ends, one) (any_append (bytes_eq wanted) (lines_of front) (line ∷ []) cut.before (other_line wanted line other));
        ends = inl (rw (← append_assoc front line (10 ∷ [])) (ends_fed (front ++ line)));
      },
    )
one_more wanted bytes front rest line after cut some lines other (inr e) =
    let ends = ends_true front rest cut.ends some in (
      bytes,
      record {
        whole = rw e.1 (sym (append-nil bytes));
        before = rw (cut.whole, lines_append front rest ends, lines, e.1) (any_append (bytes_eq wanted) (lines_of front) (line ∷ []) cut.before (other_line wanted line other));
        ends = inr e.1;
      },
    )

pub cut_more : (wanted bytes rest line after : Text) → AreCut wanted bytes rest → 0 < length rest → lines_of rest ≡ line ∷ lines_of after → false ≡ bytes_eq line wanted → IsFirstLine rest line after
    → AreCut wanted bytes after
cut_more wanted bytes rest line after cut some lines other first = one_more wanted bytes cut.0 rest line after cut.1 some lines other first

-- the wanted line was found
pub cut_found : (wanted bytes rest line after : Text) → AreCut wanted bytes rest → 0 < length rest → lines_of rest ≡ line ∷ lines_of after → true ≡ bytes_eq line wanted
    → IsSplitAt wanted bytes (take (length bytes - length rest) bytes) rest
cut_found wanted bytes rest line after cut some lines is =
    let count : length bytes - length rest ≡ length cut.0 = omega (arith, ap length cut.1.whole, length-append cut.0 rest) in
    let front : take (length bytes - length rest) bytes ≡ cut.0 = ap (λ (n : ℕ). take n bytes) count ∙ ap (take (length cut.0)) cut.1.whole ∙ take_front cut.0 rest in
    subst (λ (t : Text). IsSplitAt wanted bytes t rest) (sym front) (record {
      whole = cut.1.whole;
      lines = ap lines_of cut.1.whole ∙ lines_append cut.0 rest (ends_true cut.0 rest cut.1.ends some);
      before = cut.1.before;
      found = inr (lines_of after, lines ∙ ap (λ (l : Text). l ∷ lines_of after) (same line wanted (sym is)));
    })
