-- The exit items after a process ended.
use Rattle.std.proofs.Common.{◌≡◌, ℕ, ◌⊎◌, ◌&&◌, ◌||◌, not, Bool, true, false, cond, refl, sym, ap, ap₂, ◌∙◌, inl, inr, List, [], ◌∷◌, Option, Some, None, IsTrue, IsFalse, filter_map}
use Rattle.std.specs.List.{list_any, cons_option}
use Rattle.std.proofs.lemmas.Bool.{and_parts, and_from, or_left, or_right, or_cases, not-true, false≢true, cases_Bool, not_from_false}
use Rattle.k_types.specs.declared.names.Name.{Name}
use Rattle.k_types.specs.declared.names.Heap.{Heap}
use Rattle.k_types.specs.declared.names.Heap.TheVariants.{Kernel, User, Shared}
use Rattle.k_types.specs.Names.{name_eq, heap_eq}
use Rattle.k_types.specs.Trace.{Trace}
use Rattle.k_types.specs.State.{State, ExitItem, has_exit}
use Rattle.k_types.specs.Owners.{owner_of, user}
use Rattle.k_types.specs.Sound.{IsSound}
use Rattle.k_types.proofs.NameTests.{name_eq_refl, name_eq-true, heap_eq-true, heap_eq_refl}
use Rattle.k_types.specs.Reach.{is_shared_heap}
use Rattle.k_types.specs.Effects.{exit_after}
use Rattle.k_laws.proofs.Kept.{exit_is}

-- an element that passes, with what holds of any that passes it
pub some_element : {A : Type 0} (q : A → Bool) (xs : List A) → list_any q xs ≡ true → (x : A) × (q x ≡ true) × ((r : A → Bool) → r x ≡ true → list_any r xs ≡ true)
some_element q [] h = absurd (false≢true h)
some_element q (x ∷ xs) h =
    elim (or_cases (q x) (list_any q xs) h) [
      | inl t ↦ (x, t, λ r u. or_left (r x) (list_any r xs) u)
      | inr t ↦ let rest = some_element q xs t in (rest.0, rest.1, λ r u. or_right (r x) (list_any r xs) (rest.2 r u))
    ]

abbrev pub option_test : {A : Type 0} → (A → Bool) → Option A → Bool
option_test p None = false
option_test p (Some x) = p x

any-cons_option : {B : Type 0} (p : B → Bool) (o : Option B) (ys : List B) (rest : Bool) → list_any p ys ≡ rest → list_any p (cons_option o ys) ≡ (option_test p o || rest)
any-cons_option p None ys rest ih = ih
any-cons_option p (Some y) ys rest ih = ap (λ b. p y || b) ih

pub any-filter_map : {A B : Type 0} (p : B → Bool) (f : A → Option B) (xs : List A) → list_any p (filter_map f xs) ≡ list_any (λ x. option_test p (f x)) xs
any-filter_map p f [] = refl
any-filter_map p f (x ∷ xs) = any-cons_option p (f x) (filter_map f xs) (list_any (λ x. option_test p (f x)) xs) (any-filter_map p f xs)

module _ (trace : Trace) (st : State) (p : ℕ) (sound : IsSound trace st) where
  abbrev pub exits' : List ExitItem
  exits' = filter_map (exit_after trace st p) st.exits

  abbrev pub test : Heap → Name → ExitItem → Bool
  test h n e = heap_eq e.heap h && name_eq e.target n

  -- an exit item of the process itself, and any other
  pub own_turns : (n : Name) → exit_after trace st p (record { heap = user p; target = n })
      ≡ cond (is_shared_heap (owner_of trace st n.seg.0) && not (has_exit st.exits Kernel n)) (Some (record { heap = Kernel; target = n })) None
  own_turns n = ap (λ b. cond b (cond (is_shared_heap (owner_of trace st n.seg.0) && not (has_exit st.exits Kernel n)) (Some (record { heap = Kernel; target = n })) None)
      (cond (heap_eq (user p) Kernel && heap_eq (owner_of trace st n.seg.0) (user p)) None (Some (record { heap = user p; target = n })))) (heap_eq_refl (user p))

  pub other_turns : (h : Heap) (n : Name) → IsFalse (heap_eq h (user p)) → exit_after trace st p (record { heap = h; target = n })
      ≡ cond (heap_eq h Kernel && heap_eq (owner_of trace st n.seg.0) (user p)) None (Some (record { heap = h; target = n }))
  other_turns h n apart = ap (λ b. cond b (cond (is_shared_heap (owner_of trace st n.seg.0) && not (has_exit st.exits Kernel n)) (Some (record { heap = Kernel; target = n })) None)
      (cond (heap_eq h Kernel && heap_eq (owner_of trace st n.seg.0) (user p)) None (Some (record { heap = h; target = n })))) apart

  -- where an exit item comes from
  pub record Origin (h : Heap) (n : Name) : Type 0 where
    pub from : (IsTrue (has_exit st.exits h n) × IsFalse (heap_eq h (user p)) × IsFalse (heap_eq h Kernel && heap_eq (owner_of trace st n.seg.0) (user p)))
        ⊎ ((h ≡ Kernel) × IsTrue (has_exit st.exits (user p) n) × IsTrue (is_shared_heap (owner_of trace st n.seg.0)) × IsFalse (has_exit st.exits Kernel n))

  origin_at : (g h : Heap) (m n : Name) → IsTrue (has_exit st.exits g m) → IsTrue (option_test (test h n) (exit_after trace st p (record { heap = g; target = m }))) → Origin h n
  unfolding test
  origin_at g h m n e t =
      elim (cases_Bool (heap_eq g (user p))) [
        | inl same ↦
            let is : g ≡ user p = heap_eq-true g (user p) same in
            own_origin (ap (λ k. has_exit st.exits k m) (sym is) ∙ e)
            (sym (ap (option_test (test h n)) (own_turns m)) ∙ ap (λ k. option_test (test h n) (exit_after trace st p (record { heap = k; target = m }))) (sym is) ∙ t)
        | inr apart ↦ other_origin apart (sym (ap (option_test (test h n)) (other_turns g m apart)) ∙ t)
      ]
    where
      own_origin : IsTrue (has_exit st.exits (user p) m) → IsTrue (option_test (test h n) (cond (is_shared_heap (owner_of trace st m.seg.0) && not (has_exit st.exits Kernel m)) (Some (record { heap = Kernel; target = m })) None)) → Origin h n
      own_origin e = go (is_shared_heap (owner_of trace st m.seg.0) && not (has_exit st.exits Kernel m)) refl
        where
          go : (b : Bool) → (is_shared_heap (owner_of trace st m.seg.0) && not (has_exit st.exits Kernel m)) ≡ b → IsTrue (option_test (test h n) (cond b (Some (record { heap = Kernel; target = m })) None)) → Origin h n
          go false s t = absurd (false≢true t)
          go true s t =
              let both = and_parts (is_shared_heap (owner_of trace st m.seg.0)) (not (has_exit st.exits Kernel m)) s in
              let parts = and_parts (heap_eq Kernel h) (name_eq m n) t in
              let at : m ≡ n = name_eq-true m n parts.1 in
              record { from = inr (sym (heap_eq-true Kernel h parts.0), ap (λ k. has_exit st.exits (user p) k) (sym at) ∙ e, ap (λ k. is_shared_heap (owner_of trace st k.seg.0)) (sym at) ∙ both.0, ap (has_exit st.exits Kernel) (sym at) ∙ not-true _ both.1) }

      other_origin : IsFalse (heap_eq g (user p)) → IsTrue (option_test (test h n) (cond (heap_eq g Kernel && heap_eq (owner_of trace st m.seg.0) (user p)) None (Some (record { heap = g; target = m })))) → Origin h n
      other_origin apart = go (heap_eq g Kernel && heap_eq (owner_of trace st m.seg.0) (user p)) refl
        where
          go : (b : Bool) → (heap_eq g Kernel && heap_eq (owner_of trace st m.seg.0) (user p)) ≡ b → IsTrue (option_test (test h n) (cond b None (Some (record { heap = g; target = m })))) → Origin h n
          go true s t = absurd (false≢true t)
          go false s t =
              let parts = and_parts (heap_eq g h) (name_eq m n) t in
              let heap : g ≡ h = heap_eq-true g h parts.0 in
              let at : m ≡ n = name_eq-true m n parts.1 in
              record { from = inl (ap₂ (λ k j. has_exit st.exits k j) (sym heap) (sym at) ∙ e, ap (λ k. heap_eq k (user p)) (sym heap) ∙ apart, ap₂ (λ k j. heap_eq k Kernel && heap_eq (owner_of trace st j.seg.0) (user p)) (sym heap) (sym at) ∙ s) }

  pub origin : (h : Heap) (n : Name) → IsTrue (has_exit exits' h n) → Origin h n
  unfolding test
  origin h n e =
      let x = some_element (λ x. option_test (test h n) (exit_after trace st p x)) st.exits (sym (any-filter_map (test h n) (exit_after trace st p) st.exits) ∙ e) in
      origin_at x.0.heap h x.0.target n (x.2 (test x.0.heap x.0.target) (and_from _ _ (heap_eq_refl x.0.heap) (name_eq_refl x.0.target))) x.1

  pub turned_stays : (h : Heap) (n : Name) → IsTrue (has_exit st.exits h n) → IsFalse (heap_eq h (user p)) → IsFalse (heap_eq h Kernel && heap_eq (owner_of trace st n.seg.0) (user p)) → IsTrue (has_exit exits' h n)
  unfolding test
  turned_stays h n e apart out =
      let x = some_element (test h n) st.exits e in
      let is = exit_is x.0 h n x.1 in
      any-filter_map (test h n) (exit_after trace st p) st.exits
      ∙ x.2 (λ x. option_test (test h n) (exit_after trace st p x))
      (ap (λ x. option_test (test h n) (exit_after trace st p x)) is ∙ ap (option_test (test h n)) (other_turns h n apart)
      ∙ ap (λ b. option_test (test h n) (cond b None (Some (record { heap = h; target = n })))) out ∙ and_from _ _ (heap_eq_refl h) (name_eq_refl n))

  pub turned_comes : (n : Name) → IsTrue (has_exit st.exits (user p) n) → IsTrue (is_shared_heap (owner_of trace st n.seg.0)) → IsTrue (has_exit exits' Kernel n)
  unfolding test
  turned_comes n e s =
      elim (cases_Bool (has_exit st.exits Kernel n)) [
        | inl there ↦ turned_stays Kernel n there refl (not_own (owner_of trace st n.seg.0) s)
        | inr none ↦
            let x = some_element (test (user p) n) st.exits e in
            let is = exit_is x.0 (user p) n x.1 in
            any-filter_map (test Kernel n) (exit_after trace st p) st.exits
            ∙ x.2 (λ x. option_test (test Kernel n) (exit_after trace st p x))
            (ap (λ x. option_test (test Kernel n) (exit_after trace st p x)) is ∙ ap (option_test (test Kernel n)) (own_turns n)
            ∙ ap (λ b. option_test (test Kernel n) (cond b (Some (record { heap = Kernel; target = n })) None)) (and_from _ _ s (not_from_false _ none)) ∙ name_eq_refl n)
      ]
    where
      not_own : (k : Heap) → IsTrue (is_shared_heap k) → IsFalse (heap_eq Kernel Kernel && heap_eq k (user p))
      not_own Kernel s = absurd (false≢true s)
      not_own (User q) s = absurd (false≢true s)
      not_own (Shared q) s = refl
