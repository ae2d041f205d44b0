-- Writes to a sink, one after the other, for any relation that a sink tells.
use Rattle.std.proofs.Common.{◌≡◌, ◌∙◌, ℕ, zero, suc, ◌+◌, ◌-◌, ◌≤◌, List, [], ◌++◌, length, take, drop, min, Option, Some, None, sym, subst, arith, append_assoc, zero-add}
use Rattle.std.proofs.lemmas.List.{take-append-le, take_min, append-nil}
use Rattle.std.specs.Io.KnownBytes.{Appends, Keeps}
use Rattle.k_io.specs.Taking.{Takes, TakesFront}
use Rattle.k_io.specs.Known.{IsKnown}
use Rattle.k_io.specs.Writing.{up_to}
use Rattle.k_io.proofs.Fronts.{take_add, take_past}

-- No write is a write of nothing.
pub takes_nothing : (a : List ℕ → List ℕ → Type 0) → Takes a a []
takes_nothing a given xs p = subst (λ (t : List ℕ). a given t) (sym (append-nil xs)) p

-- A text, and then another.
pub takes_then : (a b c : List ℕ → List ℕ → Type 0) (first second : List ℕ) → Takes a b first → Takes b c second → Takes a c (first ++ second)
takes_then a b c first second h k given xs p =
    subst (λ (t : List ℕ). c given t) (append_assoc xs first second) (k given (xs ++ first) (h given xs p))

-- The same text under another name.
pub takes_same : (a b : List ℕ → List ℕ → Type 0) (text other : List ℕ) → text ≡ other → Takes a b text → Takes a b other
takes_same a b text other e h = subst (λ (t : List ℕ). Takes a b t) e h

-- The first i bytes, and then n more of them.
pub takes_more : (a b c : List ℕ → List ℕ → Type 0) (bytes : List ℕ) (i n : ℕ) → Takes a b (take i bytes) → Takes b c (take n (drop i bytes)) → Takes a c (take (i + n) bytes)
takes_more a b c bytes i n h k =
    takes_same a c (take i bytes ++ take n (drop i bytes)) (take (i + n) bytes) (take_add bytes i n) (takes_then a b c (take i bytes) (take n (drop i bytes)) h k)

-- A whole text, and then a front of another.
pub takes_front_then : (a b c : List ℕ → List ℕ → Type 0) (first second : List ℕ) → Takes a b first → TakesFront b c second → TakesFront a c (first ++ second)
takes_front_then a b c first second h k =
    (length first + k.0, takes_same a c (first ++ take k.0 second) (take (length first + k.0) (first ++ second)) (sym (take_past first second k.0)) (takes_then a b c first (take k.0 second) h k.1))

-- A front of a text is a front of the text with more behind it.
pub takes_front_longer : (a b : List ℕ → List ℕ → Type 0) (first second : List ℕ) → TakesFront a b first → TakesFront a b (first ++ second)
takes_front_longer a b first second k =
    let le : min k.0 (length first) ≤ length first = omega arith in
    (min k.0 (length first), takes_same a b (take k.0 first) (take (min k.0 (length first)) (first ++ second)) (sym (take-append-le (min k.0 (length first)) first second le ∙ take_min k.0 first)) k.1)

-- ---- the texts of the numbers below n

begins_with : (f : ℕ → List ℕ) (i d : ℕ) → (rest : List ℕ) × (up_to f (d + i) ≡ up_to f i ++ rest)
unfolding up_to
begins_with f i zero = ([], rw zero-add (sym (append-nil (up_to f i))))
begins_with f i (suc d) =
    let more = begins_with f i d in
    let k : suc d + i ≡ suc (d + i) = omega arith in
    (more.0 ++ f (d + i), rw (k, more.1) (append_assoc (up_to f i) more.0 (f (d + i))))

-- ---- sinks that tell their bytes by an optional list

pub known_takes : (a b : Option (List ℕ)) (bs : List ℕ) → Appends a b bs → Takes (λ given xs. IsKnown a xs) (λ given xs. IsKnown b xs) bs
known_takes None b bs h given xs p = absurd cc
known_takes (Some zs) None bs h given xs p = absurd h
known_takes (Some zs) (Some ys) bs h given xs p = cc

pub known_keeps : (a b : Option (List ℕ)) → Keeps a b → (given xs : List ℕ) → IsKnown a xs → IsKnown b xs
known_keeps None b h given xs p = absurd cc
known_keeps (Some zs) None h given xs p = absurd h
known_keeps (Some zs) (Some ys) h given xs p = cc
