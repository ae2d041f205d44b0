-- The names of objects and heaps are read as they are spelled.
use Rattle.std.proofs.Common.{◌≡◌, ◌∙◌, ℕ, zero, suc, ◌+◌, ◌<◌, ◌^◌, Bool, true, false, not, ◌&&◌, ◌||◌, leb, List, [], ◌∷◌, ◌++◌, length, get_or, Option, Some, refl, sym, ap, subst, arith, codes, decimal, length-append}
use Rattle.std.specs.Prelude.{option_map}
use Rattle.std.specs.Char.{is_ascii_digit}
use Rattle.std.specs.List.{list_any, list_all, before_first, after_first}
use Rattle.std.specs.Str.{bytes_eq}
use Rattle.std.proofs.lemmas.Bool.{eqb-true, false_from_ne_true}
use Rattle.std.proofs.lemmas.Bool.Decides.{nat_tests}
use Rattle.std.proofs.lemmas.List.{get_or_append_left, get_or-append-add}
use Rattle.std.proofs.lemmas.Fmt.{digits_decimal}
use Rattle.k_types.specs.declared.names.Name.{Name}
use Rattle.k_types.specs.declared.names.Heap.{Heap}
use Rattle.k_types.specs.declared.names.Heap.TheVariants.{Kernel, User, Shared}
use Rattle.k_types.specs.declared.names.Pid.{Pid}
use Rattle.k_types.specs.declared.names.SharedId.{SharedId}
use Rattle.k_words.specs.Words.{Text, word_at}
use Rattle.k_words.specs.Numbers.{is_below, value}
use Rattle.k_words.specs.Names.{is_name, is_letter, is_name_byte, is_reserved, declares, number_of}
use Rattle.k_words.proofs.Spelled.{both, same, name_at, number_word, digits}
use Rattle.k_words.proofs.Again.{AreApart, number_of-at, declares-at, value-decimal, is_below-decimal}
use Rattle.k_words.proofs.Proper.{all_weaker}
use Rattle.k_trace.specs.Named.{DeclaredNames}
use Rattle.k_trace.specs.Rules.{AreNames}
use Rattle.k_trace.specs.Numbered.{proc_named, shared_named}
use Rattle.k_reader.proofs.Found.{not_true}
use Rattle.k_trace.proofs.Pushed.{AreNames_front, number_below, AreNames_back}
use Rattle.k_text.specs.Named.{segment_names, name_word, heap_word, IsNamedHeap}
use Rattle.k_reports.specs.Spelled.{AreProper, IsSpelledName}
use Rattle.k_reports.specs.Reading.{segment_named, name_in, is_dot, name_of_word, heap_named}
use Rattle.k_reports.proofs.Options.{some_is, if_some, map_some, branch}
use Rattle.k_reports.proofs.Parted.{parted_at, split_first}
use Rattle.k_reports.proofs.Segments.{some_if}

-- ---- words that differ

-- Where a test tells two words apart they are not one.
pub told_apart : (p : Text → Bool) (w k : Text) → p w ≡ true → p k ≡ false → bytes_eq w k ≡ false
told_apart p w k h other = false_from_ne_true _ (λ e. absurd (let f : true ≡ false = sym h ∙ ap p (same w k e) ∙ other in cc))

-- Digits are no word with another byte.
pub decimal_is_not : (n : ℕ) (k : Text) → n < 2 ^ 64 → list_all is_ascii_digit k ≡ false → bytes_eq (decimal n) k ≡ false
decimal_is_not n k lt other = told_apart (list_all is_ascii_digit) (decimal n) k (digits_decimal digits n lt) other

-- A name is no word that isn't one.
pub name_is_not : (w k : Text) → is_name w ≡ true → is_name k ≡ false → bytes_eq w k ≡ false
name_is_not w k h other = told_apart is_name w k h other

-- ---- dots

-- What is not a dot.
no_dot_cons : (b : ℕ) → is_name_byte b ≡ true → not (is_dot b) ≡ true
no_dot_cons b h = grind (arith, nat_tests)

none_of_all : (p : ℕ → Bool) (xs : Text) → list_all (λ b. not (p b)) xs ≡ true → list_any p xs ≡ false
none_of_all p [] h = refl
none_of_all p (x ∷ xs) h =
    let e = both (not (p x)) (list_all (λ b. not (p b)) xs) h in
    rw (not_true (p x) e.0, none_of_all p xs e.1) refl

pub name_bytes : (w : Text) → is_name w ≡ true → list_all is_name_byte w ≡ true
name_bytes w h =
    let e = both (is_letter (get_or w 0 0) && list_all is_name_byte w && leb (length w) 32) (not (is_reserved w)) h in
    let f = both (is_letter (get_or w 0 0) && list_all is_name_byte w) (leb (length w) 32) e.0 in
    (both (is_letter (get_or w 0 0)) (list_all is_name_byte w) f.0).1

name_has_no_dot : (w : Text) → is_name w ≡ true → list_any is_dot w ≡ false
name_has_no_dot w h = none_of_all is_dot w (all_weaker is_name_byte (λ b. not (is_dot b)) no_dot_cons w (name_bytes w h))

segment_cons : (xs : List Text) (seg : ℕ) → AreNames xs → seg < length (codes "kernel" ∷ xs) → list_any is_dot (word_at (codes "kernel" ∷ xs) seg) ≡ false
segment_cons xs zero all lt = refl
segment_cons xs (suc i) all lt = name_has_no_dot (word_at xs i) (all.each i (omega arith))

-- The name of a segment has no dot.
pub segment_has_no_dot : (names : DeclaredNames) (seg : ℕ) → AreProper names → seg < length (segment_names names) → list_any is_dot (word_at (segment_names names) seg) ≡ false
segment_has_no_dot names seg proper lt = segment_cons (names.procs ++ names.shared) seg proper.heaps lt

or_true_right : (a b : Bool) → b ≡ true → (a || b) ≡ true
or_true_right true b e = refl
or_true_right false b e = e

-- The word of an object's name has one.
pub object_has_dot : (w rest : Text) → list_any is_dot (w ++ 46 ∷ rest) ≡ true
object_has_dot [] rest = refl
object_has_dot (b ∷ w) rest = or_true_right (is_dot b) (list_any is_dot (w ++ 46 ∷ rest)) (object_has_dot w rest)

-- Where something stands behind the first dot, the word is parted there.
dot_split : (w : Text) → 0 < length (after_first is_dot w) → before_first is_dot w ++ 46 ∷ after_first is_dot w ≡ w
dot_split w some = split_first is_dot 46 (λ b e. eqb-true b 46 e) w some

-- ---- names of objects

names_apart_cons : (xs : List Text) → AreNames xs → AreApart (codes "kernel" ∷ xs)
unfolding is_reserved
names_apart_cons xs all zero k below lt e = absurd (omega arith)
names_apart_cons xs all (suc i) zero below lt e = absurd (let f : true ≡ false = sym (all.each i (omega arith)) ∙ ap is_name e in cc)
names_apart_cons xs all (suc i) (suc k) below lt e = all.apart i k (omega arith) (omega arith) e

pub segments_apart : (names : DeclaredNames) → AreProper names → AreApart (segment_names names)
segments_apart names proper = names_apart_cons (names.procs ++ names.shared) proper.heaps

-- The name of a segment is read as that segment.
segment_read : (names : DeclaredNames) (seg : ℕ) → AreProper names → seg < length (segment_names names) → segment_named names (word_at (segment_names names) seg) ≡ Some seg
segment_read names seg proper lt =
    rw (declares-at (segment_names names) seg lt, number_of-at (segment_names names) seg (segments_apart names proper) lt) refl

name_from : (names : DeclaredNames) (w before after : Text) (seg serial : ℕ) → before_first is_dot w ≡ before → after_first is_dot w ≡ after → is_below (2 ^ 32) after ≡ true → value after ≡ serial
    → segment_named names before ≡ Some seg → name_of_word names w ≡ Some (name_in serial seg)
unfolding name_of_word
name_from names w before after seg serial b a t v s =
    rw (a, t) (ap (λ (o : Option ℕ). option_map (name_in (value after)) o) (ap (segment_named names) b ∙ s) ∙ rw v refl)

-- An object's name is read as it is spelled.
pub name_word_read : (names : DeclaredNames) (n : Name) → AreProper names → IsSpelledName names n → name_of_word names (name_word names n) ≡ Some n
name_word_read names n proper h =
    let parts = parted_at is_dot (word_at (segment_names names) n.seg.0) 46 (decimal n.serial.0) (segment_has_no_dot names n.seg.0 proper h.0) refl in
    name_from names (name_word names n) (word_at (segment_names names) n.seg.0) (decimal n.serial.0) n.seg.0 n.serial.0 parts.0 parts.1
    (is_below-decimal n.serial.0 (2 ^ 32) h.1 (omega arith)) (value-decimal n.serial.0 (omega (arith, h.1))) (segment_read names n.seg.0 proper h.0)

-- What is read as a segment is its name.
read_segment : (names : DeclaredNames) (w : Text) (seg : ℕ) → segment_named names w ≡ Some seg → (seg < length (segment_names names)) × (word_at (segment_names names) seg ≡ w)
read_segment names w seg e =
    let is = some_if (declares (segment_names names) w) seg (number_of (segment_names names) w) (sym e) in
    rw is.1 (number_below (segment_names names) w is.0, name_at (segment_names names) w is.0)

some_digits : (w : Text) → is_below (2 ^ 32) w ≡ true → 0 < length w
some_digits [] h = absurd cc
some_digits (b ∷ w) h = omega arith

-- What is read as an object's name spells it.
pub read_name_word : (names : DeclaredNames) (w : Text) (n : Name) → name_of_word names w ≡ Some n → IsSpelledName names n × (name_word names n ≡ w)
unfolding name_of_word
read_name_word names w n e =
    let t = if_some (is_below (2 ^ 32) (after_first is_dot w)) _ n e in
    let m = map_some (name_in (value (after_first is_dot w))) (segment_named names (before_first is_dot w)) n t.1 in
    let s = read_segment names (before_first is_dot w) m.from m.is in
    let d = number_word (2 ^ 32) (after_first is_dot w) (omega arith) t.0 in
    subst (λ (x : Name). IsSpelledName names x × (name_word names x ≡ w)) m.made ((s.0, d.1), rw (s.1, d.0) (dot_split w (some_digits (after_first is_dot w) t.0)))

-- ---- names of heaps

not_first : (xs ys : List Text) (i : ℕ) → AreNames (xs ++ ys) → i < length ys → declares xs (word_at ys i) ≡ false
not_first xs ys i all lt = false_from_ne_true _ (λ h.
    all.apart (length xs + i) (number_of xs (word_at ys i)) (omega (arith, number_below xs (word_at ys i) h)) (omega (arith, length-append xs ys))
    (get_or-append-add xs ys i [] ∙ sym (name_at xs (word_at ys i) h) ∙ sym (get_or_append_left xs ys [] (number_of xs (word_at ys i)) (number_below xs (word_at ys i) h))))

-- A heap is read as it is spelled.
pub heap_word_read : (names : DeclaredNames) (h : Heap) → AreProper names → IsNamedHeap names h → heap_named names (heap_word names h) ≡ Some h
unfolding heap_named is_reserved
heap_word_read names Kernel proper lt = refl
heap_word_read names (User p) proper lt =
    let procs = AreNames_front names.procs names.shared proper.heaps in
    rw (name_is_not (word_at names.procs p.0) (codes "kernel") (procs.each p.0 lt) refl, declares-at names.procs p.0 lt, number_of-at names.procs p.0 procs.apart lt) refl
heap_word_read names (Shared s) proper lt =
    let shared = AreNames_back names.procs names.shared proper.heaps in
    rw (name_is_not (word_at names.shared s.0) (codes "kernel") (shared.each s.0 lt) refl, not_first names.procs names.shared s.0 proper.heaps lt, declares-at names.shared s.0 lt, number_of-at names.shared s.0 shared.apart lt) refl

-- What is read as a heap spells it.
abbrev SpellsHeap : DeclaredNames → Text → Heap → Type 0
SpellsHeap names w h = IsNamedHeap names h × (heap_word names h ≡ w)

pub read_proc : (names : DeclaredNames) (w : Text) (p : Pid) → proc_named names w ≡ Some p → (p.0 < length names.procs) × (word_at names.procs p.0 ≡ w)
read_proc names w p e =
    let is = some_if (declares names.procs w) p (record { 0 = number_of names.procs w }) (sym e) in
    rw is.1 (number_below names.procs w is.0, name_at names.procs w is.0)

pub read_shared : (names : DeclaredNames) (w : Text) (s : SharedId) → shared_named names w ≡ Some s → (s.0 < length names.shared) × (word_at names.shared s.0 ≡ w)
read_shared names w s e =
    let is = some_if (declares names.shared w) s (record { 0 = number_of names.shared w }) (sym e) in
    rw is.1 (number_below names.shared w is.0, name_at names.shared w is.0)

pub read_heap_word : (names : DeclaredNames) (w : Text) (h : Heap) → heap_named names w ≡ Some h → IsNamedHeap names h × (heap_word names h ≡ w)
unfolding heap_named
read_heap_word names w h e =
    branch (SpellsHeap names w) h (bytes_eq w (codes "kernel")) _ _
    (λ is made. subst (SpellsHeap names w) (some_is Kernel h made) (tt, sym (same w (codes "kernel") is)))
    (branch (SpellsHeap names w) h (declares names.procs w) _ _
    (λ is made. let m = map_some User (proc_named names w) h made in subst (SpellsHeap names w) m.made (read_proc names w m.from m.is))
    (λ made. let m = map_some Shared (shared_named names w) h made in subst (SpellsHeap names w) m.made (read_shared names w m.from m.is))) e
