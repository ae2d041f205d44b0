-- Exit items in the order of their heaps and targets.
use Rattle.std.proofs.Common.{◌≡◌, ◌∙◌, ◌&&◌, ◌==◌, inl, inr, ℕ, zero, suc, ◌<◌, ◌≤◌, nat_lt, Bool, true, false, List, [], ◌∷◌, length, get_or, Option, Some, None, refl, sym, ap, ap₂, eq-eqb, eqb-true, lt-ltb, ltb-true, arith}
use Rattle.std.proofs.lemmas.Bool.{and_from, and_parts, cases_eq, false≢true, false_from_ne_true, or_cases, or_from, or_left, or_right}
use Rattle.std.proofs.lemmas.List.{get_or_read}
use Rattle.k_types.specs.declared.names.Heap.{Heap}
use Rattle.k_types.specs.declared.names.Name.{Name}
use Rattle.k_types.specs.Names.{heap_eq, name_eq, name_lt}
use Rattle.k_types.specs.State.{ExitItem, has_exit}
use Rattle.k_types.specs.Trace.{Trace, segment_of}
use Rattle.k_types.proofs.NameTests.{heap_eq-true, name_eq-true, name_lt_irrefl, name_lt_trans}
use Rattle.k_audit.specs.Grammar.{AreExitsFrom, IsExitAfter}
use Rattle.k_audit.specs.Places.{IsExitPlace}
use Rattle.k_audit.specs.Tests.{exit_lt}

-- ---- the order

abbrev pub seg : Trace → ExitItem → ℕ
seg trace e = segment_of trace e.heap

exit_cases : (trace : Trace) (a b : ExitItem) → exit_lt trace a b ≡ true → IsExitAfter trace (seg trace a) (Some a.target) b
exit_cases trace a b lt =
    elim (or_cases (nat_lt (seg trace a) (seg trace b)) ((seg trace a == seg trace b) && name_lt a.target b.target) lt) [
      | inl below ↦ inl (ltb-true (seg trace a) (seg trace b) below)
      | inr same ↦
          let parts = and_parts (seg trace a == seg trace b) (name_lt a.target b.target) same in
          inr (eqb-true (seg trace a) (seg trace b) parts.0, parts.1)
    ]

pub exit_from : (trace : Trace) (a b : ExitItem) → IsExitAfter trace (seg trace a) (Some a.target) b → exit_lt trace a b ≡ true
exit_from trace a b (inl below) = or_left (nat_lt (seg trace a) (seg trace b)) ((seg trace a == seg trace b) && name_lt a.target b.target) (lt-ltb (seg trace a) (seg trace b) below)
exit_from trace a b (inr same) =
    or_right (nat_lt (seg trace a) (seg trace b)) ((seg trace a == seg trace b) && name_lt a.target b.target)
    (and_from (seg trace a == seg trace b) (name_lt a.target b.target) (eq-eqb (seg trace a) (seg trace b) same.0) same.1)

after_trans : (trace : Trace) (a b c : ExitItem) → IsExitAfter trace (seg trace a) (Some a.target) b → IsExitAfter trace (seg trace b) (Some b.target) c → IsExitAfter trace (seg trace a) (Some a.target) c
after_trans trace a b c (inl x) (inl y) = inl (omega (arith, x, y))
after_trans trace a b c (inl x) (inr y) = inl (let same = y.0 in omega (arith, x, same))
after_trans trace a b c (inr x) (inl y) = inl (let same = x.0 in omega (arith, same, y))
after_trans trace a b c (inr x) (inr y) = inr (x.0 ∙ y.0, name_lt_trans a.target b.target c.target x.1 y.1)

pub exit_trans : (trace : Trace) (a b c : ExitItem) → exit_lt trace a b ≡ true → exit_lt trace b c ≡ true → exit_lt trace a c ≡ true
exit_trans trace a b c x y = exit_from trace a c (after_trans trace a b c (exit_cases trace a b x) (exit_cases trace b c y))

pub exit_irrefl : (trace : Trace) (a : ExitItem) → exit_lt trace a a ≡ true → ⊥
exit_irrefl trace a lt =
    elim (exit_cases trace a a lt) [
      | inl below ↦ absurd (omega (arith, below))
      | inr same ↦ name_lt_irrefl a.target same.1
    ]

-- the two exit items are one
abbrev pub is_same : ExitItem → ExitItem → Bool
is_same e w = heap_eq e.heap w.heap && name_eq e.target w.target

pub same_is : (e w : ExitItem) → is_same e w ≡ true → e ≡ w
same_is e w same =
    let parts = and_parts (heap_eq e.heap w.heap) (name_eq e.target w.target) same in
    ap₂ (λ (h : Heap) (n : Name). let x : ExitItem = record { heap = h; target = n } in x) (heap_eq-true e.heap w.heap parts.0) (name_eq-true e.target w.target parts.1)

-- ---- items in order

before_all : (trace : Trace) (e : ExitItem) (xs : List ExitItem) (i : ℕ) (d : ExitItem) → AreExitsFrom trace (seg trace e) (Some e.target) xs → i < length xs → exit_lt trace e (get_or xs i d) ≡ true
before_all trace e [] i d ordered inside = absurd (omega arith)
before_all trace e (x ∷ xs) zero d ordered inside = exit_from trace e x ordered.0
before_all trace e (x ∷ xs) (suc i) d ordered inside = exit_trans trace e x (get_or xs i d) (exit_from trace e x ordered.0) (before_all trace x xs i d ordered.1 (omega arith))

-- of two items the earlier comes first
ordered_at : (trace : Trace) (s : ℕ) (last : Option Name) (xs : List ExitItem) (i j : ℕ) (d : ExitItem) → AreExitsFrom trace s last xs → i < j → j < length xs → exit_lt trace (get_or xs i d) (get_or xs j d) ≡ true
ordered_at trace s last [] i j d ordered low inside = absurd (omega arith)
ordered_at trace s last (x ∷ xs) i zero d ordered low inside = absurd (omega arith)
ordered_at trace s last (x ∷ xs) zero (suc j) d ordered low inside = before_all trace x xs j d ordered.1 (omega arith)
ordered_at trace s last (x ∷ xs) (suc i) (suc j) d ordered low inside = ordered_at trace (seg trace x) (Some x.target) xs i j d ordered.1 (omega arith) (omega arith)

-- where one item comes before the wanted one all up to it do
pub before_through : (trace : Trace) (xs : List ExitItem) (w : ExitItem) (m k : ℕ) (d : ExitItem) → AreExitsFrom trace 0 None xs → m < length xs → exit_lt trace (get_or xs m d) w ≡ true → k ≤ m →
    exit_lt trace (get_or xs k d) w ≡ true
before_through trace xs w m k d ordered inside lt low =
    elim (cases_eq k m) [
      | inl e ↦ ap (λ j. exit_lt trace (get_or xs j d) w) e ∙ lt
      | inr ne ↦ exit_trans trace (get_or xs k d) (get_or xs m d) w (ordered_at trace 0 None xs k m d ordered (omega arith) inside) lt
    ]

-- where one item does not come before the wanted one none from it on does
pub after_from : (trace : Trace) (xs : List ExitItem) (w : ExitItem) (m k : ℕ) (d : ExitItem) → AreExitsFrom trace 0 None xs → m ≤ k → k < length xs → exit_lt trace (get_or xs m d) w ≡ false →
    exit_lt trace (get_or xs k d) w ≡ false
after_from trace xs w m k d ordered low inside ge =
    false_from_ne_true (exit_lt trace (get_or xs k d) w) (λ lt. false≢true (sym ge ∙ before_through trace xs w k m d ordered inside lt low))

-- ---- whether it is there

-- an item at a place is there
pub item_there : (xs : List ExitItem) (w : ExitItem) (k : ℕ) (d : ExitItem) → k < length xs → is_same (get_or xs k d) w ≡ true → has_exit xs w.heap w.target ≡ true
item_there [] w k d inside same = absurd (omega arith)
item_there (x ∷ xs) w zero d inside same = or_left (is_same x w) (has_exit xs w.heap w.target) same
item_there (x ∷ xs) w (suc k) d inside same = or_right (is_same x w) (has_exit xs w.heap w.target) (item_there xs w k d (omega arith) same)

none_later : (trace : Trace) (x w : ExitItem) (xs : List ExitItem) → AreExitsFrom trace (seg trace x) (Some x.target) xs → exit_lt trace x w ≡ false → has_exit xs w.heap w.target ≡ false
none_later trace x w [] ordered ge = refl
none_later trace x w (y ∷ xs) ordered ge =
    let more = exit_from trace x y ordered.0 in
    or_from (is_same y w) (has_exit xs w.heap w.target)
    (false_from_ne_true (is_same y w) (λ same. false≢true (sym ge ∙ ap (exit_lt trace x) (sym (same_is y w same)) ∙ more)))
    (none_later trace y w xs ordered.1 (false_from_ne_true (exit_lt trace y w) (λ lt. false≢true (sym ge ∙ exit_trans trace x y w more lt))))

place_rest : (trace : Trace) (w x : ExitItem) (xs : List ExitItem) (at : ℕ) → IsExitPlace trace (x ∷ xs) w (suc at) → IsExitPlace trace xs w at
place_rest trace w x xs at place = record {
  within = let in_list = place.within in omega (arith, in_list);
  before = λ k d low. place.before (suc k) d (omega (arith, low));
  after = λ k d low inside. place.after (suc k) d (omega (arith, low)) (omega (arith, inside));
}

none_from : (trace : Trace) (s : ℕ) (last : Option Name) (w : ExitItem) (xs : List ExitItem) (at : ℕ) → AreExitsFrom trace s last xs → IsExitPlace trace xs w at →
    ((d : ExitItem) → at < length xs → is_same (get_or xs at d) w ≡ false) → has_exit xs w.heap w.target ≡ false
none_from trace s last w [] at ordered place other = refl
none_from trace s last w (x ∷ xs) zero ordered place other =
    or_from (is_same x w) (has_exit xs w.heap w.target) (other x (omega arith)) (none_later trace x w xs ordered.1 (place.after 0 x (omega arith) (omega arith)))
none_from trace s last w (x ∷ xs) (suc at) ordered place other =
    let lt : exit_lt trace x w ≡ true = place.before 0 x (omega arith) in
    or_from (is_same x w) (has_exit xs w.heap w.target)
    (false_from_ne_true (is_same x w) (λ same. exit_irrefl trace w (ap (λ (e : ExitItem). exit_lt trace e w) (sym (same_is x w same)) ∙ lt)))
    (none_from trace (seg trace x) (Some x.target) w xs at ordered.1 (place_rest trace w x xs at place) (λ d inside. other d (omega (arith, inside))))

-- no item is the wanted one, unless the one at its place is
pub none_there : (trace : Trace) (w : ExitItem) (xs : List ExitItem) (at : ℕ) → AreExitsFrom trace 0 None xs → IsExitPlace trace xs w at →
    ((d : ExitItem) → at < length xs → is_same (get_or xs at d) w ≡ false) → has_exit xs w.heap w.target ≡ false
none_there trace w xs at ordered place other = none_from trace 0 None w xs at ordered place other

-- the item at the place tells whether the wanted one is there
pub found_there : (trace : Trace) (w : ExitItem) (xs : List ExitItem) (at : ℕ) (found : ExitItem) (b : Bool) → AreExitsFrom trace 0 None xs → IsExitPlace trace xs w at → at < length xs → found ≡ get_or xs at found →
    b ≡ is_same found w → b ≡ has_exit xs w.heap w.target
found_there trace w xs at found true ordered place inside is same = sym (item_there xs w at found inside (ap (λ (e : ExitItem). is_same e w) (sym is) ∙ sym same))
found_there trace w xs at found false ordered place inside is same =
    sym (none_there trace w xs at ordered place (λ d here. ap (λ (e : ExitItem). is_same e w) (sym (get_or_read xs at found inside is d)) ∙ sym same))

-- past the last none is there
pub none_past : (trace : Trace) (w : ExitItem) (xs : List ExitItem) (at : ℕ) → AreExitsFrom trace 0 None xs → IsExitPlace trace xs w at → length xs ≤ at → false ≡ has_exit xs w.heap w.target
none_past trace w xs at ordered place past = sym (none_there trace w xs at ordered place (λ d here. absurd (omega (arith, past, here))))
