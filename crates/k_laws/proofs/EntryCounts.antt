-- How many exit items to an object are left where some go.
use Rattle.std.proofs.Common.{◌≡◌, ℕ, ◌+◌, ◌-◌, ◌&&◌, ◌||◌, ◌⊎◌, not, Bool, true, false, cond, refl, sym, ap, ap₂, ◌∙◌, inl, inr, List, [], ◌∷◌, filter, filter_map, Option, Some, None, is_some, arith, IsFalse}
use Rattle.std.specs.List.{cons_option}
use Rattle.std.proofs.lemmas.Bool.{false≢true, and_parts}
use Rattle.k_types.specs.declared.names.Name.{Name}
use Rattle.k_types.specs.declared.names.Heap.{Heap}
use Rattle.k_types.specs.Names.{name_eq, heap_eq}
use Rattle.k_types.specs.Totals.{total}
use Rattle.k_types.specs.State.{ExitItem, has_exit}
use Rattle.k_types.specs.Sound.{AreDistinctExits}
use Rattle.k_types.proofs.Sums.{bit, sum_both, sum_same}
use Rattle.k_types.proofs.NameTests.{heap_eq-true, name_eq-true}

-- what is kept and what goes are all
pub kept_and_gone : {A : Type 0} (f : A → ℕ) (q : A → Bool) (xs : List A) → total f (filter q xs) + total (λ x. cond (q x) 0 (f x)) xs ≡ total f xs
kept_and_gone f q [] = refl
kept_and_gone f q (x ∷ xs) =
    let rest = kept_and_gone f q xs in
    elim (q x) as (λ b. total f (cond b (x ∷ filter q xs) (filter q xs)) + (cond b 0 (f x) + total (λ x. cond (q x) 0 (f x)) xs) ≡ f x + total f xs) [
      | true ↦ omega (arith, rest)
      | false ↦ omega (arith, rest)
    ]

one_step : (a b c k : Bool) → (a ≡ true → b ≡ true → c ≡ false) → bit ((a && b) && k) + bit (c && k) ≡ bit (((a && b) || c) && k)
one_step true true true k apart = absurd (false≢true (sym (apart refl refl)))
one_step true true false true apart = omega arith
one_step true true false false apart = omega arith
one_step true false c k apart = omega arith
one_step false b c k apart = omega arith

-- of the items of one heap at most one leads to the object
pub one_item : (q : ExitItem → Bool) (h : Heap) (n : Name) (exits : List ExitItem) → AreDistinctExits exits →
    total (λ (e : ExitItem). bit ((heap_eq e.heap h && name_eq e.target n) && not (q e))) exits ≡ bit (has_exit exits h n && not (q (record { heap = h; target = n })))
one_item q h n [] distinct = refl
one_item q h n (e ∷ exits) distinct =
    ap₂ (λ a b. a + b) (here (heap_eq e.heap h && name_eq e.target n) refl) (one_item q h n exits distinct.1)
    ∙ one_step (heap_eq e.heap h) (name_eq e.target n) (has_exit exits h n) (not (q (record { heap = h; target = n })))
    (λ a b. ap₂ (λ k m. has_exit exits k m) (sym (heap_eq-true e.heap h a)) (sym (name_eq-true e.target n b)) ∙ distinct.0)
  where
    here : (b : Bool) → (heap_eq e.heap h && name_eq e.target n) ≡ b → bit (b && not (q e)) ≡ bit (b && not (q (record { heap = h; target = n })))
    here false t = refl
    here true t =
        let parts = and_parts (heap_eq e.heap h) (name_eq e.target n) t in
        ap₂ (λ k m. bit (not (q (record { heap = k; target = m })))) (heap_eq-true e.heap h parts.0) (name_eq-true e.target n parts.1)

gone_at : (q : Bool) (a b m : Bool) → (q ≡ false → (a ≡ true) ⊎ (b ≡ true)) → (a ≡ true → b ≡ false) → cond q 0 (bit m) ≡ bit ((a && m) && not q) + bit ((b && m) && not q)
gone_at true a b m other apart = nothing (a && m) (b && m)
  where
    nothing : (x y : Bool) → 0 ≡ bit (x && false) + bit (y && false)
    nothing true true = refl
    nothing true false = refl
    nothing false true = refl
    nothing false false = refl
gone_at false true true m other apart = absurd (false≢true (sym (apart refl)))
gone_at false true false true other apart = omega arith
gone_at false true false false other apart = omega arith
gone_at false false true true other apart = omega arith
gone_at false false true false other apart = omega arith
gone_at false false false m other apart = elim (other refl) [ inl t ↦ absurd (false≢true t) | inr t ↦ absurd (false≢true t) ]

-- where only items of the two heaps go, so many to the object are left
pub entries_left : (q : ExitItem → Bool) (g h : Heap) (n : Name) (exits : List ExitItem) → AreDistinctExits exits → IsFalse (heap_eq g h) → ((e : ExitItem) → q e ≡ false → (heap_eq e.heap g ≡ true) ⊎ (heap_eq e.heap h ≡ true)) →
    total (λ (e : ExitItem). bit (name_eq e.target n)) (filter q exits)
    ≡ (total (λ (e : ExitItem). bit (name_eq e.target n)) exits - bit (has_exit exits g n && not (q (record { heap = g; target = n })))) - bit (has_exit exits h n && not (q (record { heap = h; target = n })))
entries_left q g h n exits distinct apart other =
    let all = kept_and_gone (λ (e : ExitItem). bit (name_eq e.target n)) q exits in
    let gone = sum_same (λ (e : ExitItem). cond (q e) 0 (bit (name_eq e.target n))) (λ (e : ExitItem). bit ((heap_eq e.heap g && name_eq e.target n) && not (q e)) + bit ((heap_eq e.heap h && name_eq e.target n) && not (q e)))
    (λ e. gone_at (q e) (heap_eq e.heap g) (heap_eq e.heap h) (name_eq e.target n) (other e) (λ t. ap (λ k. heap_eq k h) (heap_eq-true e.heap g t) ∙ apart)) exits in
    let both = sum_both (λ (e : ExitItem). bit ((heap_eq e.heap g && name_eq e.target n) && not (q e))) (λ (e : ExitItem). bit ((heap_eq e.heap h && name_eq e.target n) && not (q e))) exits in
    omega (arith, all, gone, both, one_item q g n exits distinct, one_item q h n exits distinct)

-- items that keep their targets count as those that become some
turned_step : (f : ExitItem → Option ExitItem) (n : Name) (e : ExitItem) (o : Option ExitItem) (ys zs : List ExitItem) → ((y : ExitItem) → o ≡ Some y → y.target ≡ e.target) →
    total (λ (e : ExitItem). bit (name_eq e.target n)) ys ≡ total (λ (e : ExitItem). bit (name_eq e.target n)) zs →
    total (λ (e : ExitItem). bit (name_eq e.target n)) (cons_option o ys) ≡ total (λ (e : ExitItem). bit (name_eq e.target n)) (cond (is_some o) (e ∷ zs) zs)
turned_step f n e None ys zs same rest = rest
turned_step f n e (Some y) ys zs same rest = ap₂ (λ a b. a + b) (ap (λ t. bit (name_eq t n)) (same y refl)) rest

pub entries_turned : (f : ExitItem → Option ExitItem) → ((e y : ExitItem) → f e ≡ Some y → y.target ≡ e.target) → (n : Name) (exits : List ExitItem) →
    total (λ (e : ExitItem). bit (name_eq e.target n)) (filter_map f exits) ≡ total (λ (e : ExitItem). bit (name_eq e.target n)) (filter (λ e. is_some (f e)) exits)
entries_turned f same n [] = refl
entries_turned f same n (e ∷ exits) = turned_step f n e (f e) (filter_map f exits) (filter (λ e. is_some (f e)) exits) (same e) (entries_turned f same n exits)
