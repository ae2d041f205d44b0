-- Lines as their words, and lists of lines written one after the other.
use Rattle.std.proofs.Common.{refl, ◌≡◌, ◌∙◌, ℕ, zero, suc, ◌+◌, ◌-◌, ◌<◌, ◌≤◌, List, [], ◌∷◌, ◌++◌, length, take, drop, map, sym, ap, subst, arith, append_assoc, add-one, zero-add, Result, Ok, Err, Some, slice_get, codes}
use Rattle.std.specs.Prelude.{IsErr}
use Rattle.std.specs.List.{flat_map, join_with_byte}
use Rattle.std.proofs.lemmas.List.{append-nil, take_more, take_all, take-append-drop, map-append}
use Rattle.std.proofs.lemmas.List.Concat.{flat_map_single}
use Rattle.std.proofs.lemmas.Grind.{flat_map-append}
use Rattle.std.proofs.lemmas.Option.{slice_get_within, get_or_from_slice_get}
use Rattle.k_io.specs.Taking.{TakesFront}
use Rattle.k_io.specs.Writing.{Writes}
use Rattle.k_io.proofs.Takings.{takes_nothing, takes_then, takes_front_then, takes_front_longer}
use Rattle.k_io.proofs.Writings.{rose_since, writes_same, writes_then}
use Rattle.k_types.specs.Numbers.{numbers_below}
use Rattle.k_types.proofs.Lists.{numbers_push}
use Rattle.k_words.specs.Words.{Text, line_text, text_of}
use Rattle.k_words.specs.Spaced.{spaced}
use Rattle.k_text.specs.Writing.{HasWritten}

-- words joined by spaces are the first, and the others each behind a space
pub joined : (w : Text) (ws : List Text) → join_with_byte 32 (w ∷ ws) ≡ w ++ spaced ws
joined w [] = sym (append-nil w)
joined w (v ∷ vs) = ap (λ (t : Text). w ++ (32 ∷ t)) (joined v vs)

pub spaced-append : (xs ys : List Text) → spaced (xs ++ ys) ≡ spaced xs ++ spaced ys
spaced-append xs ys = flat_map-append (λ (word : Text). 32 ∷ word) xs ys

-- the text of one line, by its words
pub one_line : (w : Text) (ws : List Text) → (w ++ spaced ws) ++ 10 ∷ [] ≡ text_of ((w ∷ ws) ∷ [])
one_line w ws = sym (append-nil (line_text (w ∷ ws)) ∙ ap (λ (t : Text). t ++ 10 ∷ []) (joined w ws))

-- an operation's line: its name, its words, an equals sign and the reply's words
pub operation_line : (name a b c d : Text) (ops replies : List Text) → a ≡ name → b ≡ a ++ spaced ops → c ≡ b ++ 32 ∷ codes "=" → d ≡ c ++ spaced replies → d ≡ join_with_byte 32 (name ∷ ops ++ codes "=" ∷ replies)
operation_line name a b c d ops replies ea eb ec ed =
    let whole : d ≡ ((name ++ spaced ops) ++ 32 ∷ codes "=") ++ spaced replies = cc in
    whole ∙ append_assoc (name ++ spaced ops) (32 ∷ codes "=") (spaced replies)
    ∙ append_assoc name (spaced ops) (spaced (codes "=" ∷ replies))
    ∙ ap (λ (t : Text). name ++ t) (sym (spaced-append ops (codes "=" ∷ replies)))
    ∙ sym (joined name (ops ++ codes "=" ∷ replies))

-- three words, and others
pub line_behind_three : (first second third x y z v : Text) (rest : List Text) → x ≡ first → y ≡ x ++ 32 ∷ second → z ≡ y ++ 32 ∷ third → v ≡ z ++ spaced rest → v ≡ join_with_byte 32 (first ∷ second ∷ third ∷ rest)
line_behind_three first second third x y z v rest ex ey ez ev =
    let whole : v ≡ ((first ++ 32 ∷ second) ++ 32 ∷ third) ++ spaced rest = cc in
    whole ∙ append_assoc (first ++ 32 ∷ second) (32 ∷ third) (spaced rest)
    ∙ append_assoc first (32 ∷ second) ((32 ∷ third) ++ spaced rest)
    ∙ sym (joined first (second ∷ third ∷ rest))

pub text_of-append : (xs ys : List (List Text)) → text_of (xs ++ ys) ≡ text_of xs ++ text_of ys
text_of-append xs ys = flat_map-append line_text xs ys

-- ---- numbers below a bound

pub numbers_more : (n : ℕ) → numbers_below (n + 1) ≡ numbers_below n ++ n ∷ []
numbers_more n = rw add-one (numbers_push 0 n ∙ ap (λ (k : ℕ). numbers_below n ++ k ∷ []) (zero-add n))

numbers_begin : (n d : ℕ) → (rest : List ℕ) × (numbers_below (d + n) ≡ numbers_below n ++ rest)
numbers_begin n zero = ([], rw zero-add (sym (append-nil (numbers_below n))))
numbers_begin n (suc d) =
    let more = numbers_begin n d in
    let e : suc d + n ≡ d + n + 1 = omega arith in
    (more.0 ++ (d + n) ∷ [], rw e (numbers_more (d + n) ∙ ap (λ (ks : List ℕ). ks ++ (d + n) ∷ []) more.1 ∙ append_assoc (numbers_below n) more.0 ((d + n) ∷ [])))

pub numbers_after : (i n : ℕ) → i < n → (rest : List ℕ) × (numbers_below n ≡ (numbers_below i ++ i ∷ []) ++ rest)
numbers_after i n lt =
    let split = numbers_begin (i + 1) (n - (i + 1)) in
    let e : n - (i + 1) + (i + 1) ≡ n = omega arith in
    (split.0, ap numbers_below (sym e) ∙ split.1 ∙ ap (λ (ks : List ℕ). ks ++ split.0) (numbers_more i))

-- ---- texts one after the other

-- nothing was written
pub written_none : (a : List ℕ → List ℕ → Type 0) (x : ℕ) → HasWritten a a x x []
written_none a x = record { taken = takes_nothing a; steady = refl }

pub written_same : (a b : List ℕ → List ℕ → Type 0) (x y : ℕ) (text other : List ℕ) → text ≡ other → HasWritten a b x y text → HasWritten a b x y other
written_same a b x y text other e h = subst (λ (t : List ℕ). HasWritten a b x y t) e h

-- one more text was written
pub written_then : {E : Type 0} (a b c : List ℕ → List ℕ → Type 0) (x y z : ℕ) (u : Unit {0}) (first second : List ℕ) → HasWritten a b x y first → Writes {T = Unit {0}} {E = E} b c y z (Ok u) second → HasWritten a c x z (first ++ second)
written_then a b c x y z u first second h w = record { taken = takes_then a b c first second h.taken w.ok; steady = w.steady ∙ h.steady }

-- a text failed behind what was written
pub failed_behind : {E : Type 0} (a b c : List ℕ → List ℕ → Type 0) (x y z : ℕ) (r : Result (Unit {0}) E) (e : E) (first second rest : List ℕ) → IsErr r → HasWritten a b x y first → Writes {T = Unit {0}} b c y z (Err e) second → Writes a c x z r ((first ++ second) ++ rest)
failed_behind a b c x y z (Ok v) e first second rest is h w = absurd cc
failed_behind a b c x y z (Err d) e first second rest is h w =
    record {
      ok = tt;
      err = takes_front_longer a c (first ++ second) rest (takes_front_then a b c first second h.taken w.err);
      steady = tt;
      cause = record { later = omega (arith, h.steady, w.cause.later); failed = rose_since x y z (omega (arith, h.steady)) w.cause.failed };
    }

-- what was written is all
pub written_all : {E : Type 0} (a b : List ℕ → List ℕ → Type 0) (x y : ℕ) (u : Unit {0}) (text : List ℕ) → HasWritten a b x y text → Writes {T = Unit {0}} {E = E} a b x y (Ok u) text
written_all a b x y u text h = record { ok = h.taken; err = tt; steady = h.steady; cause = record { later = omega (arith, h.steady); failed = tt } }

-- ---- the lines of the numbers below a bound

flat_numbers_more : (f : ℕ → List (List Text)) (i : ℕ) → text_of (flat_map f (numbers_below i)) ++ text_of (f i) ≡ text_of (flat_map f (numbers_below (i + 1)))
flat_numbers_more f i =
    sym (ap (λ (ks : List ℕ). text_of (flat_map f ks)) (numbers_more i)
    ∙ ap text_of (flat_map-append f (numbers_below i) (i ∷ []) ∙ ap (λ (ls : List (List Text)). flat_map f (numbers_below i) ++ ls) (append-nil (f i)))
    ∙ text_of-append (flat_map f (numbers_below i)) (f i))

flat_numbers_after : (f : ℕ → List (List Text)) (i n : ℕ) → i < n → (rest : List ℕ) × ((text_of (flat_map f (numbers_below i)) ++ text_of (f i)) ++ rest ≡ text_of (flat_map f (numbers_below n)))
flat_numbers_after f i n lt =
    let split = numbers_after i n lt in (
      text_of (flat_map f split.0),
      ap (λ (t : List ℕ). t ++ text_of (flat_map f split.0)) (flat_numbers_more f i)
          ∙ sym (text_of-append (flat_map f (numbers_below (i + 1))) (flat_map f split.0))
          ∙ ap text_of (sym (flat_map-append f (numbers_below (i + 1)) split.0))
          ∙ ap (λ (ks : List ℕ). text_of (flat_map f ks)) (ap (λ (ks : List ℕ). ks ++ split.0) (numbers_more i) ∙ sym split.1),
    )

pub numbers_next : {E : Type 0} (f : ℕ → List (List Text)) (i : ℕ) (a b c : List ℕ → List ℕ → Type 0) (x y z : ℕ) (u : Unit {0})
    → HasWritten a b x y (text_of (flat_map f (numbers_below i))) → Writes {T = Unit {0}} {E = E} b c y z (Ok u) (text_of (f i))
    → HasWritten a c x z (text_of (flat_map f (numbers_below (i + 1))))
numbers_next f i a b c x y z u h w = written_same a c x z _ _ (flat_numbers_more f i) (written_then a b c x y z u _ _ h w)

pub numbers_failed : {E : Type 0} (f : ℕ → List (List Text)) (i n : ℕ) (a b c : List ℕ → List ℕ → Type 0) (x y z : ℕ) (r : Result (Unit {0}) E) (e : E)
    → IsErr r → i < n → HasWritten a b x y (text_of (flat_map f (numbers_below i))) → Writes {T = Unit {0}} b c y z (Err e) (text_of (f i))
    → Writes a c x z r (text_of (flat_map f (numbers_below n)))
numbers_failed f i n a b c x y z r e is lt h w =
    let split = flat_numbers_after f i n lt in
    writes_same a c x z r _ _ split.1 (failed_behind a b c x y z r e _ _ split.0 is h w)

-- all numbers were gone through
pub numbers_all : {E : Type 0} (f : ℕ → List (List Text)) (i n : ℕ) (a b : List ℕ → List ℕ → Type 0) (x y : ℕ) (u : Unit {0})
    → i ≡ n → HasWritten a b x y (text_of (flat_map f (numbers_below i))) → Writes {T = Unit {0}} {E = E} a b x y (Ok u) (text_of (flat_map f (numbers_below n)))
numbers_all f i n a b x y u e h = written_all a b x y u _ (written_same a b x y _ _ (ap (λ (k : ℕ). text_of (flat_map f (numbers_below k))) e) h)

-- ---- the same with one line for each number

single : (f : ℕ → List Text) (ks : List ℕ) → text_of (flat_map (λ k. f k ∷ []) ks) ≡ text_of (map f ks)
single f ks = ap text_of (flat_map_single f ks)

pub lines_next : {E : Type 0} (f : ℕ → List Text) (i : ℕ) (a b c : List ℕ → List ℕ → Type 0) (x y z : ℕ) (u : Unit {0})
    → HasWritten a b x y (text_of (map f (numbers_below i))) → Writes {T = Unit {0}} {E = E} b c y z (Ok u) (text_of (f i ∷ []))
    → HasWritten a c x z (text_of (map f (numbers_below (i + 1))))
lines_next f i a b c x y z u h w =
    written_same a c x z _ _ (single f (numbers_below (i + 1)))
    (numbers_next (λ k. f k ∷ []) i a b c x y z u (written_same a b x y _ _ (sym (single f (numbers_below i))) h) w)

pub lines_failed : {E : Type 0} (f : ℕ → List Text) (i n : ℕ) (a b c : List ℕ → List ℕ → Type 0) (x y z : ℕ) (r : Result (Unit {0}) E) (e : E)
    → IsErr r → i < n → HasWritten a b x y (text_of (map f (numbers_below i))) → Writes {T = Unit {0}} b c y z (Err e) (text_of (f i ∷ []))
    → Writes a c x z r (text_of (map f (numbers_below n)))
lines_failed f i n a b c x y z r e is lt h w =
    writes_same a c x z r _ _ (single f (numbers_below n))
    (numbers_failed (λ k. f k ∷ []) i n a b c x y z r e is lt (written_same a b x y _ _ (sym (single f (numbers_below i))) h) w)

pub lines_all : {E : Type 0} (f : ℕ → List Text) (i n : ℕ) (a b : List ℕ → List ℕ → Type 0) (x y : ℕ) (u : Unit {0})
    → i ≡ n → HasWritten a b x y (text_of (map f (numbers_below i))) → Writes {T = Unit {0}} {E = E} a b x y (Ok u) (text_of (map f (numbers_below n)))
lines_all f i n a b x y u e h = written_all a b x y u _ (written_same a b x y _ _ (ap (λ (k : ℕ). text_of (map f (numbers_below k))) e) h)

-- ---- one line for each element of a list

listed_more : {A : Type 0} (f : A → List Text) (xs : List A) (i : ℕ) (v : A) → slice_get xs i ≡ Some v → text_of (map f (take i xs)) ++ text_of (f v ∷ []) ≡ text_of (map f (take (i + 1) xs))
listed_more f xs i v at =
    sym (ap (λ ys. text_of (map f ys)) (take_more xs i v (slice_get_within xs i v at) ∙ ap (λ w. take i xs ++ w ∷ []) (get_or_from_slice_get xs i v v at))
    ∙ ap text_of (map-append f (take i xs) (v ∷ []))
    ∙ text_of-append (map f (take i xs)) (f v ∷ []))

listed_after : {A : Type 0} (f : A → List Text) (xs : List A) (i : ℕ) (v : A) → slice_get xs i ≡ Some v → (text_of (map f (take i xs)) ++ text_of (f v ∷ [])) ++ text_of (map f (drop (i + 1) xs)) ≡ text_of (map f xs)
listed_after f xs i v at =
    ap (λ (t : List ℕ). t ++ text_of (map f (drop (i + 1) xs))) (listed_more f xs i v at)
    ∙ sym (text_of-append (map f (take (i + 1) xs)) (map f (drop (i + 1) xs)))
    ∙ ap text_of (sym (map-append f (take (i + 1) xs) (drop (i + 1) xs)))
    ∙ ap (λ ys. text_of (map f ys)) (take-append-drop (i + 1) xs)

pub listed_next : {A E : Type 0} (f : A → List Text) (xs : List A) (i : ℕ) (v : A) (a b c : List ℕ → List ℕ → Type 0) (x y z : ℕ) (u : Unit {0})
    → slice_get xs i ≡ Some v → HasWritten a b x y (text_of (map f (take i xs))) → Writes {T = Unit {0}} {E = E} b c y z (Ok u) (text_of (f v ∷ []))
    → HasWritten a c x z (text_of (map f (take (i + 1) xs)))
listed_next f xs i v a b c x y z u at h w = written_same a c x z _ _ (listed_more f xs i v at) (written_then a b c x y z u _ _ h w)

pub listed_failed : {A E : Type 0} (f : A → List Text) (xs : List A) (i : ℕ) (v : A) (a b c : List ℕ → List ℕ → Type 0) (x y z : ℕ) (r : Result (Unit {0}) E) (e : E)
    → IsErr r → slice_get xs i ≡ Some v → HasWritten a b x y (text_of (map f (take i xs))) → Writes {T = Unit {0}} b c y z (Err e) (text_of (f v ∷ []))
    → Writes a c x z r (text_of (map f xs))
listed_failed f xs i v a b c x y z r e is at h w =
    writes_same a c x z r _ _ (listed_after f xs i v at) (failed_behind a b c x y z r e _ _ (text_of (map f (drop (i + 1) xs))) is h w)

pub listed_all : {A E : Type 0} (f : A → List Text) (xs : List A) (i : ℕ) (a b : List ℕ → List ℕ → Type 0) (x y : ℕ) (u : Unit {0})
    → length xs ≤ i → HasWritten a b x y (text_of (map f (take i xs))) → Writes {T = Unit {0}} {E = E} a b x y (Ok u) (text_of (map f xs))
listed_all f xs i a b x y u le h = written_all a b x y u _ (written_same a b x y _ _ (ap (λ ys. text_of (map f ys)) (take_all i xs le)) h)

-- ---- a line

pub writes_line : {E : Type 0} (a b : List ℕ → List ℕ → Type 0) (x y : ℕ) (r : Result (Unit {0}) E) (line : Text) (words : List Text)
    → line ≡ join_with_byte 32 words → Writes a b x y r (line ++ 10 ∷ []) → Writes a b x y r (text_of (words ∷ []))
writes_line a b x y r line words e w = writes_same a b x y r _ _ (ap (λ (t : Text). t ++ 10 ∷ []) e ∙ sym (append-nil (line_text words))) w

-- ---- parts, each a list of lines

-- the first part
pub part_first : {E : Type 0} (a b : List ℕ → List ℕ → Type 0) (x y : ℕ) (u : Unit {0}) (first : List (List Text)) → Writes {T = Unit {0}} {E = E} a b x y (Ok u) (text_of first) → HasWritten a b x y (text_of first)
part_first a b x y u first w = record { taken = w.ok; steady = w.steady }

-- one more part
pub part_then : {E : Type 0} (a b c : List ℕ → List ℕ → Type 0) (x y z : ℕ) (u : Unit {0}) (first second : List (List Text))
    → HasWritten a b x y (text_of first) → Writes {T = Unit {0}} {E = E} b c y z (Ok u) (text_of second) → HasWritten a c x z (text_of (first ++ second))
part_then a b c x y z u first second h w = written_same a c x z _ _ (sym (text_of-append first second)) (written_then a b c x y z u (text_of first) (text_of second) h w)

-- the last part
pub part_last : {E : Type 0} (a b c : List ℕ → List ℕ → Type 0) (x y z : ℕ) (r : Result (Unit {0}) E) (first second : List (List Text))
    → HasWritten a b x y (text_of first) → Writes b c y z r (text_of second) → Writes a c x z r (text_of (first ++ second))
part_last {E} a b c x y z r first second h w =
    writes_same a c x z r _ _ (sym (text_of-append first second))
    (writes_then {E = E} a b c x y z tt r (text_of first) (text_of second) (written_all a b x y tt (text_of first) h) w)

-- the first part failed
pub part_failed_first : {E : Type 0} (a b : List ℕ → List ℕ → Type 0) (x y : ℕ) (r : Result (Unit {0}) E) (e : E) (first : List (List Text)) → IsErr r → Writes {T = Unit {0}} a b x y (Err e) (text_of first) → Writes a b x y r (text_of first)
part_failed_first a b x y (Ok v) e first is w = absurd cc
part_failed_first a b x y (Err d) e first is w = record { ok = tt; err = w.err; steady = tt; cause = record { later = w.cause.later; failed = w.cause.failed } }

-- a part failed
pub part_failed : {E : Type 0} (a b c : List ℕ → List ℕ → Type 0) (x y z : ℕ) (r : Result (Unit {0}) E) (e : E) (first second : List (List Text))
    → IsErr r → HasWritten a b x y (text_of first) → Writes {T = Unit {0}} b c y z (Err e) (text_of second) → Writes a c x z r (text_of (first ++ second))
part_failed a b c x y z (Ok v) e first second is h w = absurd cc
part_failed a b c x y z (Err d) e first second is h w =
    writes_same a c x z (Err d) _ _ (append-nil (text_of first ++ text_of second) ∙ sym (text_of-append first second))
    (failed_behind a b c x y z (Err d) e (text_of first) (text_of second) [] is h w)

-- a part that would have come is missing too
pub part_missing : {E : Type 0} (a b : List ℕ → List ℕ → Type 0) (x y : ℕ) (r : Result (Unit {0}) E) (first more : List (List Text)) → IsErr r → Writes a b x y r (text_of first) → Writes a b x y r (text_of (first ++ more))
part_missing a b x y (Ok v) first more is w = absurd cc
part_missing a b x y (Err d) first more is w =
    record {
      ok = tt;
      err = subst (λ (t : List ℕ). TakesFront a b t) (sym (text_of-append first more)) (takes_front_longer a b (text_of first) (text_of more) w.err);
      steady = tt;
      cause = w.cause;
    }

-- ---- one line for each element, the next behind those before it

pub mapped_next : {A E : Type 0} (f : A → List Text) (xs ys : List A) (v : A) (a b c : List ℕ → List ℕ → Type 0) (x y z : ℕ) (u : Unit {0})
    → ys ≡ xs ++ v ∷ [] → HasWritten a b x y (text_of (map f xs)) → Writes {T = Unit {0}} {E = E} b c y z (Ok u) (text_of (f v ∷ []))
    → HasWritten a c x z (text_of (map f ys))
mapped_next f xs ys v a b c x y z u e h w =
    written_same a c x z _ _ (ap text_of (sym (map-append f xs (v ∷ [])) ∙ ap (map f) (sym e))) (part_then a b c x y z u (map f xs) (f v ∷ []) h w)

pub mapped_failed : {A E : Type 0} (f : A → List Text) (xs ys rest : List A) (v : A) (a b c : List ℕ → List ℕ → Type 0) (x y z : ℕ) (r : Result (Unit {0}) E) (e : E)
    → IsErr r → ys ≡ (xs ++ v ∷ []) ++ rest → HasWritten a b x y (text_of (map f xs)) → Writes {T = Unit {0}} b c y z (Err e) (text_of (f v ∷ []))
    → Writes a c x z r (text_of (map f ys))
mapped_failed f xs ys rest v a b c x y z r e is all h w =
    writes_same a c x z r _ _
    (ap text_of (ap (λ ls. ls ++ map f rest) (sym (map-append f xs (v ∷ []))) ∙ sym (map-append f (xs ++ v ∷ []) rest) ∙ ap (map f) (sym all)))
    (part_missing a c x z r (map f xs ++ f v ∷ []) (map f rest) is (part_failed a b c x y z r e (map f xs) (f v ∷ []) is h w))

pub mapped_all : {A E : Type 0} (f : A → List Text) (xs ys : List A) (a b : List ℕ → List ℕ → Type 0) (x y : ℕ) (u : Unit {0})
    → xs ≡ ys → HasWritten a b x y (text_of (map f xs)) → Writes {T = Unit {0}} {E = E} a b x y (Ok u) (text_of (map f ys))
mapped_all f xs ys a b x y u e h = written_all a b x y u _ (written_same a b x y _ _ (ap (λ zs. text_of (map f zs)) e) h)
