-- Lines of words that are short and visible.
use Rattle.std.proofs.Common.{◌≡◌, ◌∙◌, ℕ, ◌*◌, ◌<◌, ◌≤◌, ◌^◌, Bool, true, false, not, ◌&&◌, eqb, ltb, leb, List, [], ◌∷◌, ◌++◌, length, map, refl, sym, ap, arith, decimal, inl, inr, length-append, append_assoc}
use Rattle.std.proofs.lemmas.List.Splits.{join_with_byte-slice_split}
use Rattle.std.proofs.lemmas.List.{append-nil}
use Rattle.std.proofs.lemmas.Bool.{ltb-true, lt-ltb, le-leb, leb-true}
use Rattle.std.proofs.lemmas.Bool.Decides.{nat_tests}
use Rattle.std.proofs.lemmas.Fmt.{decimal_nonempty, digits_decimal, length-decimal-le}
use Rattle.std.specs.Char.{is_ascii_digit}
use Rattle.std.specs.List.{list_all, join_with_byte, flat_map}
use Rattle.k_words.specs.Words.{Text, words_of, lines_of, are_words, is_printable, text_of, AreText}
use Rattle.k_words.specs.Numbers.{register_word}
use Rattle.k_words.specs.Names.{is_name, is_letter, is_name_byte, is_reserved}
use Rattle.k_words.proofs.Spelled.{both, digits}
use Rattle.k_words.proofs.Again.{has_no_space, words_again}
use Rattle.k_words.proofs.Feeds.{joined}

abbrev pub is_visible : ℕ → Bool
is_visible b = leb 33 b && ltb b 127

-- from 1 to 32 visible bytes
abbrev pub is_word : Text → Bool
is_word w = ltb 0 (length w) && list_all is_visible w && leb (length w) 32

-- some words, and few
pub record IsProper (ws : List Text) : Type 0 where
  pub some : 0 < length ws
  pub few : length ws ≤ 32
  pub each : list_all is_word ws ≡ true

pub all_weaker : {A : Type 0} (p q : A → Bool) → ((b : A) → p b ≡ true → q b ≡ true) → (xs : List A) → list_all p xs ≡ true → list_all q xs ≡ true
all_weaker p q f [] h = refl
all_weaker p q f (x ∷ xs) h =
    let e = both (p x) (list_all p xs) h in
    rw (f x e.0, all_weaker p q f xs e.1) refl

pub both_are : (a b : Bool) → a ≡ true → b ≡ true → (a && b) ≡ true
both_are a b e f = rw (e, f) refl

three : (a b c : Bool) → (a && b && c) ≡ true → (a ≡ true) × (b ≡ true) × (c ≡ true)
three a b c h = let e = both (a && b) c h in let f = both a b e.0 in (f.0, f.1, e.1)

pub visible_no_space : (b : ℕ) → is_visible b ≡ true → not (eqb b 32) ≡ true
visible_no_space b h = grind (arith, nat_tests)

visible_printable : (b : ℕ) → is_visible b ≡ true → is_printable b ≡ true
visible_printable b h = grind (arith, nat_tests)

printable_no_feed : (b : ℕ) → is_printable b ≡ true → not (eqb b 10) ≡ true
printable_no_feed b h = grind (arith, nat_tests)

digit_visible : (b : ℕ) → is_ascii_digit b ≡ true → is_visible b ≡ true
digit_visible b h = grind (arith, nat_tests)

letter_visible : (b : ℕ) → is_name_byte b ≡ true → is_visible b ≡ true
letter_visible b h = grind (arith, nat_tests)

word_no_space : (w : Text) → is_word w ≡ true → has_no_space w ≡ true
word_no_space w h = all_weaker is_visible (λ b. not (eqb b 32)) visible_no_space w (three (ltb 0 (length w)) (list_all is_visible w) (leb (length w) 32) h).1

word_printable : (w : Text) → is_word w ≡ true → list_all is_printable w ≡ true
word_printable w h = all_weaker is_visible is_printable visible_printable w (three (ltb 0 (length w)) (list_all is_visible w) (leb (length w) 32) h).1

word_some : (w : Text) → is_word w ≡ true → ltb 0 (length w) ≡ true
word_some w h = (three (ltb 0 (length w)) (list_all is_visible w) (leb (length w) 32) h).0

word_short : (w : Text) → is_word w ≡ true → length w ≤ 32
word_short w h = leb-true (length w) 32 (three (ltb 0 (length w)) (list_all is_visible w) (leb (length w) 32) h).2

pub is_word_of : (w : Text) → 0 < length w → list_all is_visible w ≡ true → length w ≤ 32 → is_word w ≡ true
is_word_of w some all short = rw (lt-ltb 0 (length w) some, all, le-leb (length w) 32 short) refl

-- ---- words

pub decimal_word : (n : ℕ) → n < 2 ^ 64 → is_word (decimal n) ≡ true
decimal_word n lt =
    is_word_of (decimal n) (decimal_nonempty n lt) (all_weaker is_ascii_digit is_visible digit_visible (decimal n) (digits_decimal digits n lt)) (length-decimal-le 32 n (omega arith) (omega arith) lt)

pub register_is_word : (r : ℕ) → r < 16 → is_word (register_word r) ≡ true
register_is_word r lt =
    is_word_of (register_word r) (omega arith) (all_weaker is_ascii_digit is_visible digit_visible (decimal r) (digits_decimal digits r (omega arith))) (let short : length (decimal r) ≤ 20 = length-decimal-le 20 r (omega arith) (omega arith) (omega arith) in omega arith)

pub name_word : (w : Text) → is_name w ≡ true → is_word w ≡ true
name_word [] h = absurd cc
name_word (b ∷ w) h =
    let e = both (is_letter b && list_all is_name_byte (b ∷ w) && leb (length (b ∷ w)) 32) (not (is_reserved (b ∷ w))) h in
    let f = three (is_letter b) (list_all is_name_byte (b ∷ w)) (leb (length (b ∷ w)) 32) e.0 in
    is_word_of (b ∷ w) (omega arith) (all_weaker is_name_byte is_visible letter_visible (b ∷ w) f.1) (leb-true (length (b ∷ w)) 32 f.2)

-- ---- lines

all_append : (p : ℕ → Bool) (xs ys : Text) → list_all p xs ≡ true → list_all p ys ≡ true → list_all p (xs ++ ys) ≡ true
all_append p [] ys h k = k
all_append p (x ∷ xs) ys h k = let e = both (p x) (list_all p xs) h in rw (e.0, all_append p xs ys e.1 k) refl

join_printable : (ws : List Text) → list_all is_word ws ≡ true → list_all is_printable (join_with_byte 32 ws) ≡ true
join_printable [] h = refl
join_printable (w ∷ []) h = word_printable w (both (is_word w) true h).0
join_printable (w ∷ v ∷ ws) h =
    let e = both (is_word w) (list_all is_word (v ∷ ws)) h in
    all_append is_printable w (32 ∷ join_with_byte 32 (v ∷ ws)) (word_printable w e.0) (join_printable (v ∷ ws) e.1)

join_short : (ws : List Text) → list_all is_word ws ≡ true → length (join_with_byte 32 ws) ≤ 33 * length ws
join_short [] h = omega arith
join_short (w ∷ []) h = omega (arith, word_short w (both (is_word w) true h).0)
join_short (w ∷ v ∷ ws) h =
    let e = both (is_word w) (list_all is_word (v ∷ ws)) h in
    omega (arith, word_short w e.0, join_short (v ∷ ws) e.1, length-append w (32 ∷ join_with_byte 32 (v ∷ ws)))

join_some : (ws : List Text) → 0 < length ws → list_all is_word ws ≡ true → 0 < length (join_with_byte 32 ws)
join_some [] lt h = absurd (omega arith)
join_some (w ∷ []) lt h = ltb-true 0 (length w) (word_some w (both (is_word w) true h).0)
join_some (w ∷ v ∷ ws) lt h = omega (arith, length-append w (32 ∷ join_with_byte 32 (v ∷ ws)))

no_spaces : (ws : List Text) → list_all is_word ws ≡ true → list_all has_no_space ws ≡ true
no_spaces ws h = all_weaker is_word has_no_space word_no_space ws h

pub proper_words : (ws : List Text) → IsProper ws → words_of (join_with_byte 32 ws) ≡ ws
proper_words [] h = absurd (omega (arith, h.some))
proper_words (w ∷ ws) h = words_again w ws (no_spaces (w ∷ ws) h.each)

pub proper_printable : (ws : List Text) → IsProper ws → list_all is_printable (join_with_byte 32 ws) ≡ true
proper_printable ws h = join_printable ws h.each

pub proper_short : (ws : List Text) → IsProper ws → leb (length (join_with_byte 32 ws)) 4096 ≡ true
proper_short ws h = le-leb (length (join_with_byte 32 ws)) 4096 (omega (arith, join_short ws h.each, h.few))

pub proper_are_words : (ws : List Text) → IsProper ws → are_words ws ≡ true
proper_are_words ws h = all_weaker is_word (λ w. ltb 0 (length w)) word_some ws h.each

-- ---- texts

abbrev pub AllProper : List (List Text) → Type 0
AllProper [] = Unit {0}
AllProper (ws ∷ wss) = IsProper ws × AllProper wss

abbrev pub joins : List (List Text) → List Text
joins wss = map (λ ws. join_with_byte 32 ws) wss

pub line_then : (l rest : Text) → list_all (λ b. not (eqb b 10)) l ≡ true → lines_of (l ++ 10 ∷ rest) ≡ l ∷ lines_of rest
line_then [] rest h = refl
line_then (b ∷ l) rest h =
    let p = both (not (eqb b 10)) (list_all (λ c. not (eqb c 10)) l) h in
    let e : eqb b 10 ≡ false = grind (arith, p.0) in
    rw (e, line_then l rest p.1) refl

line_alone : (b : ℕ) (l : Text) → list_all (λ c. not (eqb c 10)) (b ∷ l) ≡ true → lines_of (b ∷ l) ≡ (b ∷ l) ∷ []
line_alone b [] h =
    let p = both (not (eqb b 10)) true h in
    let e : eqb b 10 ≡ false = grind (arith, p.0) in
    rw e refl
line_alone b (c ∷ l) h =
    let p = both (not (eqb b 10)) (list_all (λ c. not (eqb c 10)) (c ∷ l)) h in
    let e : eqb b 10 ≡ false = grind (arith, p.0) in
    rw (e, line_alone c l p.1) refl

no_feed : (ws : List Text) → IsProper ws → list_all (λ b. not (eqb b 10)) (join_with_byte 32 ws) ≡ true
no_feed ws h = all_weaker is_printable (λ b. not (eqb b 10)) printable_no_feed (join_with_byte 32 ws) (proper_printable ws h)

pub lines_of_text : (wss : List (List Text)) → AllProper wss → lines_of (text_of wss) ≡ joins wss
lines_of_text [] h = refl
lines_of_text (ws ∷ wss) h =
    ap lines_of (append_assoc (join_with_byte 32 ws) (10 ∷ []) (text_of wss)) ∙ line_then (join_with_byte 32 ws) (text_of wss) (no_feed ws h.0)
    ∙ ap (λ (ls : List Text). join_with_byte 32 ws ∷ ls) (lines_of_text wss h.1)

-- ---- the last line feed may be missing

-- a text whose last line has no line feed, after lines that have one
last_line : (l : Text) → 0 < length l → list_all (λ b. not (eqb b 10)) l ≡ true → lines_of l ≡ l ∷ []
last_line [] some h = absurd (omega arith)
last_line (b ∷ l) some h = line_alone b l h

append_same : (x y : Text) → x ++ 10 ∷ [] ≡ y ++ 10 ∷ [] → x ≡ y
append_same [] [] e = refl
append_same [] (c ∷ []) e = absurd cc
append_same [] (c ∷ d ∷ y) e = absurd cc
append_same (b ∷ []) [] e = absurd cc
append_same (b ∷ c ∷ x) [] e = absurd cc
append_same (b ∷ x) (c ∷ y) e =
    let f : b ≡ c = cc in
    let g : x ++ 10 ∷ [] ≡ y ++ 10 ∷ [] = cc in
    rw (f, append_same x y g) refl

-- what comes before the last line feed
abbrev pub but_last : List Text → Text
but_last [] = []
but_last (l ∷ []) = l
but_last (l ∷ m ∷ ls) = (l ++ 10 ∷ []) ++ but_last (m ∷ ls)

fed_is : (l : Text) (ls : List Text) → flat_map (λ line. line ++ 10 ∷ []) (l ∷ ls) ≡ but_last (l ∷ ls) ++ 10 ∷ []
fed_is l [] = append-nil (l ++ 10 ∷ [])
fed_is l (m ∷ ls) = ap (λ (t : Text). (l ++ 10 ∷ []) ++ t) (fed_is m ls) ∙ sym (append_assoc (l ++ 10 ∷ []) (but_last (m ∷ ls)) (10 ∷ []))

abbrev pub AllLines : List Text → Type 0
AllLines [] = Unit {0}
AllLines (l ∷ ls) = (0 < length l) × (list_all (λ b. not (eqb b 10)) l ≡ true) × AllLines ls

lines_but_last : (l : Text) (ls : List Text) → AllLines (l ∷ ls) → lines_of (but_last (l ∷ ls)) ≡ l ∷ ls
lines_but_last l [] h = last_line l h.0 h.1
lines_but_last l (m ∷ ls) h =
    ap lines_of (append_assoc l (10 ∷ []) (but_last (m ∷ ls))) ∙ line_then l (but_last (m ∷ ls)) h.1 ∙ ap (λ (ks : List Text). l ∷ ks) (lines_but_last m ls h.2)

all_lines : (wss : List (List Text)) → AllProper wss → AllLines (joins wss)
all_lines [] h = tt
all_lines (ws ∷ wss) h = (join_some ws h.0.some h.0.each, no_feed ws h.0, all_lines wss h.1)

text_joins : (wss : List (List Text)) → text_of wss ≡ flat_map (λ line. line ++ 10 ∷ []) (joins wss)
text_joins [] = refl
text_joins (ws ∷ wss) = ap (λ (t : Text). (join_with_byte 32 ws ++ 10 ∷ []) ++ t) (text_joins wss)

lines_short : (bytes : Text) (wss : List (List Text)) → 0 < length wss → AllProper wss → bytes ++ 10 ∷ [] ≡ text_of wss → lines_of bytes ≡ joins wss
lines_short bytes [] some h e = absurd (omega arith)
lines_short bytes (ws ∷ wss) some h e =
    let f = append_same bytes (but_last (joins (ws ∷ wss))) (e ∙ text_joins (ws ∷ wss) ∙ fed_is (join_with_byte 32 ws) (joins wss)) in
    rw f (lines_but_last (join_with_byte 32 ws) (joins wss) (all_lines (ws ∷ wss) h))

-- the lines of bytes that are the text of proper lines, but for the last line feed
pub lines_of_bytes : (bytes : Text) (wss : List (List Text)) → 0 < length wss → AllProper wss → AreText bytes (text_of wss) → lines_of bytes ≡ joins wss
lines_of_bytes bytes wss some h (inl e) = ap lines_of e ∙ lines_of_text wss h
lines_of_bytes bytes wss some h (inr e) = lines_short bytes wss some h e

-- bytes are the text of the words of their lines, but for the last line feed
words_joined : (lines : List Text) → flat_map (λ line. line ++ 10 ∷ []) lines ≡ text_of (map words_of lines)
words_joined [] = refl
words_joined (l ∷ ls) = rw (join_with_byte-slice_split 32 l, words_joined ls) refl

pub text_of_lines : (bytes : Text) → AreText bytes (text_of (map words_of (lines_of bytes)))
text_of_lines bytes = rw (← words_joined (lines_of bytes)) (joined bytes)
