-- Names in order are told by what is among them.
use Rattle.std.proofs.Common.{◌≡◌, ◌∙◌, ◌||◌, Bool, true, false, List, [], ◌∷◌, map, filter, refl, sym, ap, subst, cond}
use Rattle.k_types.specs.declared.names.Name.{Name}
use Rattle.k_types.specs.declared.names.Heap.{Heap}
use Rattle.k_types.specs.Names.{name_eq, name_lt, name_among, heap_eq}
use Rattle.k_types.specs.State.{ExitItem, has_exit}
use Rattle.k_types.proofs.NameTests.{name_lt_trans, name_lt_total, name_eq_refl, name_lt_apart_back, name_eq-true}
use Rattle.k_types.proofs.Tests.{or_swap}
use Rattle.k_text.proofs.NameOrder.{lt_irrefl}
use Rattle.k_text.specs.Shown.{with_name, in_order, exits_of, AreRising, AreRisingFrom}
use Rattle.k_types.proofs.Exits.{targets_among}

-- ---- putting a name in its place

-- a name that comes after k, put among names that rise from k, leaves them rising from k
rising_with : (k n : Name) (names : List Name) → name_lt k n ≡ true → AreRisingFrom k names → AreRisingFrom k (with_name n names)
rising_with k n [] lt h = (lt, tt)
rising_with k n (m ∷ names) lt h =
    (elim (name_lt m n) as (λ b. name_lt m n ≡ b → AreRisingFrom k (cond b (m ∷ with_name n names) (cond (name_eq m n) (m ∷ names) (n ∷ m ∷ names)))) [
      | true ↦ λ t. (h.0, rising_with m n names t h.1)
      | false ↦ λ f.
          (elim (name_eq m n) as (λ b. name_eq m n ≡ b → AreRisingFrom k (cond b (m ∷ names) (n ∷ m ∷ names))) [
            | true ↦ λ t. h
            | false ↦ λ g. (lt, (name_lt_total m n f g, h.1))
          ]) refl
    ]) refl

rising_with_first : (n : Name) (names : List Name) → AreRising names → AreRising (with_name n names)
rising_with_first n [] h = tt
rising_with_first n (m ∷ names) h =
    (elim (name_lt m n) as (λ b. name_lt m n ≡ b → AreRising (cond b (m ∷ with_name n names) (cond (name_eq m n) (m ∷ names) (n ∷ m ∷ names)))) [
      | true ↦ λ t. rising_with m n names t h
      | false ↦ λ f.
          (elim (name_eq m n) as (λ b. name_eq m n ≡ b → AreRising (cond b (m ∷ names) (n ∷ m ∷ names))) [
            | true ↦ λ t. h
            | false ↦ λ g. (name_lt_total m n f g, h)
          ]) refl
    ]) refl

pub in_order_rises : (names : List Name) → AreRising (in_order names)
in_order_rises [] = tt
in_order_rises (n ∷ names) = rising_with_first n (in_order names) (in_order_rises names)

or_same : (a b c : Bool) → a ≡ b → (a || c) ≡ (b || (a || c))
or_same a true c e = rw e refl
or_same a false c e = refl

among_with : (k n : Name) (names : List Name) → name_among k (with_name n names) ≡ (name_eq n k || name_among k names)
among_with k n [] = refl
among_with k n (m ∷ names) =
    (elim (name_lt m n) as (λ b. name_among k (cond b (m ∷ with_name n names) (cond (name_eq m n) (m ∷ names) (n ∷ m ∷ names))) ≡ (name_eq n k || (name_eq m k || name_among k names))) [
      | true ↦ ap (λ (b : Bool). name_eq m k || b) (among_with k n names) ∙ or_swap (name_eq m k) (name_eq n k) (name_among k names)
      | false ↦
          (elim (name_eq m n) as (λ b. name_eq m n ≡ b → name_among k (cond b (m ∷ names) (n ∷ m ∷ names)) ≡ (name_eq n k || (name_eq m k || name_among k names))) [
            | true ↦ λ t. or_same (name_eq m k) (name_eq n k) (name_among k names) (ap (λ (x : Name). name_eq x k) (name_eq-true m n t))
            | false ↦ λ f. refl
          ]) refl
    ])

pub in_order_among : (k : Name) (names : List Name) → name_among k (in_order names) ≡ name_among k names
in_order_among k [] = refl
in_order_among k (n ∷ names) = among_with k n (in_order names) ∙ ap (λ (b : Bool). name_eq n k || b) (in_order_among k names)

-- ---- rising names with the same among them

-- what is among names that come after a name comes after it
later : (n k : Name) (names : List Name) → AreRisingFrom n names → name_among k names ≡ true → name_lt n k ≡ true
later n k [] h a = absurd cc
later n k (m ∷ names) h a =
    (elim (name_eq m k) as (λ b. name_eq m k ≡ b → (b || name_among k names) ≡ true → name_lt n k ≡ true) [
      | true ↦ λ t e. subst (λ (x : Name). name_lt n x ≡ true) (name_eq-true m k t) h.0
      | false ↦ λ f e. name_lt_trans n m k h.0 (later m k names h.1 e)
    ]) refl a

-- a name does not come after itself
not_later : (n : Name) (names : List Name) → AreRisingFrom n names → name_among n names ≡ false
not_later n names h =
    (elim (name_among n names) as (λ b. name_among n names ≡ b → b ≡ false) [
      | true ↦ λ t. let bad : true ≡ false = sym (later n n names h t) ∙ lt_irrefl n in bad
      | false ↦ λ f. refl
    ]) refl

heads : (n m : Name) (ns ms : List Name) → AreRisingFrom n ns → AreRisingFrom m ms → ((k : Name) → name_among k (n ∷ ns) ≡ name_among k (m ∷ ms)) → n ≡ m
heads n m ns ms hn hm e =
    (elim (name_eq m n) as (λ b. name_eq m n ≡ b → n ≡ m) [
      | true ↦ λ t. sym (name_eq-true m n t)
      | false ↦ λ f.
          let there : name_among n ms ≡ true = ap (λ (b : Bool). b || name_among n ms) (sym f) ∙ sym (e n) ∙ ap (λ (b : Bool). b || name_among n ns) (name_eq_refl n) in
          let less : name_lt m n ≡ true = later m n ms hm there in
          let back : name_among m ns ≡ true =
          ap (λ (b : Bool). b || name_among m ns) (sym (name_lt_apart_back m n less)) ∙ e m ∙ ap (λ (b : Bool). b || name_among m ms) (name_eq_refl m) in
          let greater : name_lt n m ≡ true = later n m ns hn back in
          let bad : true ≡ false = sym (name_lt_trans n m n greater less) ∙ lt_irrefl n in
          absurd cc
    ]) refl

tails : (n : Name) (ns ms : List Name) → AreRisingFrom n ns → AreRisingFrom n ms → ((k : Name) → name_among k (n ∷ ns) ≡ name_among k (n ∷ ms)) → (k : Name) → name_among k ns ≡ name_among k ms
tails n ns ms hn hm e k =
    (elim (name_eq n k) as (λ b. name_eq n k ≡ b → (b || name_among k ns) ≡ (b || name_among k ms) → name_among k ns ≡ name_among k ms) [
      | true ↦ λ t _. subst (λ (x : Name). name_among x ns ≡ name_among x ms) (name_eq-true n k t) (not_later n ns hn ∙ sym (not_later n ms hm))
      | false ↦ λ f d. d
    ]) refl (e k)

rising_tail : (n : Name) (ns : List Name) → AreRisingFrom n ns → AreRising ns
rising_tail n [] h = tt
rising_tail n (m ∷ ns) h = h.1

pub same_rising : (ns ms : List Name) → AreRising ns → AreRising ms → ((k : Name) → name_among k ns ≡ name_among k ms) → ns ≡ ms
same_rising [] [] hn hm e = refl
same_rising [] (m ∷ ms) hn hm e = let bad : false ≡ true = e m ∙ ap (λ (b : Bool). b || name_among m ms) (name_eq_refl m) in absurd cc
same_rising (n ∷ ns) [] hn hm e = let bad : false ≡ true = sym (e n) ∙ ap (λ (b : Bool). b || name_among n ns) (name_eq_refl n) in absurd cc
same_rising (n ∷ ns) (m ∷ ms) hn hm e =
    let same : n ≡ m = heads n m ns ms hn hm e in
    let hm2 : AreRisingFrom n ms = subst (λ (x : Name). AreRisingFrom x ms) (sym same) hm in
    let e2 : (k : Name) → name_among k (n ∷ ns) ≡ name_among k (n ∷ ms) = subst (λ (x : Name). (k : Name) → name_among k (n ∷ ns) ≡ name_among k (x ∷ ms)) (sym same) e in
    ap (λ (x : Name). x ∷ ns) same
    ∙ ap (λ (xs : List Name). m ∷ xs) (same_rising ns ms (rising_tail n ns hn) (rising_tail n ms hm2) (tails n ns ms hn hm2 e2))

-- ---- exit items

-- rising names are the heap's exits where exactly the targets of its exit items are among them
pub rising_exits : (exits : List ExitItem) (h : Heap) (names : List Name) → AreRising names → ((n : Name) → name_among n names ≡ has_exit exits h n) → names ≡ exits_of exits h
rising_exits exits h names rises e =
    same_rising names (exits_of exits h) rises (in_order_rises (map (λ x. x.target) (filter (λ x. heap_eq x.heap h) exits)))
    (λ n. e n ∙ sym (in_order_among n (map (λ x. x.target) (filter (λ x. heap_eq x.heap h) exits)) ∙ targets_among exits h n))
