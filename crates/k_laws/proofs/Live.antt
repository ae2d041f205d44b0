-- What the machine computes as live everywhere is the least set that holds what is live.
use Rattle.std.proofs.Common.{◌≡◌, ◌∙◌, ◌&&◌, ℕ, zero, suc, Bool, true, false, ap, refl, sym, inl, inr, List, [], ◌∷◌, length, not, le_refl}
use Rattle.std.specs.List.{list_any}
use Rattle.std.proofs.lemmas.Bool.{and_parts, and_from, false≢true, not-true, not_from_false, or_cases, or_left, or_right}
use Rattle.k_types.specs.declared.names.Heap.{Heap}
use Rattle.k_types.specs.declared.names.Heap.TheVariants.{Kernel, User, Shared}
use Rattle.k_types.specs.declared.names.Name.{Name}
use Rattle.k_types.specs.Names.{among, directory}
use Rattle.k_types.specs.Numbers.{numbers_below}
use Rattle.k_types.specs.Owners.{owner_of, shared}
use Rattle.k_types.specs.Reach.{is_anchor, is_shared_heap, live_everywhere}
use Rattle.k_types.specs.Sound.{IsSound}
use Rattle.k_types.specs.State.{State, has, in_registers}
use Rattle.k_types.specs.Trace.{Trace, process_count}
use Rattle.k_types.proofs.Lists.{below_any, get_or_inside}
use Rattle.k_types.proofs.NameTests.{name_eq-true, name_eq_refl}
use Rattle.k_types.proofs.Objects.{referrer, refers_in_has}
use Rattle.k_laws.proofs.Closure.{closed_refers, in_set, set, set_has, set_refers, start_in}
use Rattle.k_laws.specs.Live.{HoldsWhatIsLive, IsLeastLive}

-- what follows from each number that passes follows where some number passes
any_gives : {A : Type 0} (p : A → Bool) (R : Type 0) → ((x : A) → p x ≡ true → R) → (xs : List A) → list_any p xs ≡ true → R
any_gives p R gives [] t = absurd (false≢true t)
any_gives p R gives (x ∷ xs) t = elim (or_cases (p x) (list_any p xs) t) [
  | inl here ↦ gives x here
  | inr there ↦ any_gives p R gives xs there
]

-- a shared heap is one by its number
shared_number : (h : Heap) → is_shared_heap h ≡ true → (s : ℕ) × (h ≡ shared s)
shared_number Kernel t = absurd (false≢true t)
shared_number (User p) t = absurd (false≢true t)
shared_number (Shared s) t = (s.0, refl)

module _ (trace : Trace) (st : State) (sound : IsSound trace st) where
  anchored : Name → Bool
  anchored n = is_anchor trace st n

  live : Name → Bool
  live n = has (live_everywhere trace st) n

  live_is : (n : Name) → live n ≡ (has st.objects n && in_set st.objects (is_anchor trace st) (length st.objects) n)
  unfolding live live_everywhere set
  live_is n = set_has st.objects (is_anchor trace st) (length st.objects) n

  there : (n : Name) → live n ≡ true → has st.objects n ≡ true
  there n t = (and_parts _ _ (sym (live_is n) ∙ t)).0

  anchor_lives : (n : Name) → has st.objects n ≡ true → is_anchor trace st n ≡ true → live n ≡ true
  anchor_lives n t anchor = live_is n ∙ and_from _ _ t (start_in st.objects (is_anchor trace st) n t anchor (length st.objects))

  register_anchors : (p : ℕ) (n : Name) → among p st.ended ≡ false → in_registers st.registers p n ≡ true → is_anchor trace st n ≡ true
  register_anchors p n lives held =
      let inside = get_or_inside _ st.registers p held in
      or_left _ _
      (or_left _ _
      (below_any (λ q. not (among q st.ended) && in_registers st.registers q n) (process_count trace) p (rw (sym sound.shape.sized.registers) inside)
      (and_from _ _ (not_from_false _ lives) held)))

  holds : HoldsWhatIsLive trace st live
  unfolding live live_everywhere set
  holds = record {
    registers = λ p n lives held. anchor_lives n (sound.no_dangling.registers p n held) (register_anchors p n lives held);
    root = anchor_lives directory sound.no_dangling.directory (or_left _ _ (or_right _ _ (name_eq_refl directory)));
    shared_heaps = λ s n owned t. anchor_lives n t (or_right _ _ (ap is_shared_heap owned));
    references = λ a b t refers. closed_refers st.objects (is_anchor trace st) (length st.objects) a b (le_refl (length st.objects)) t refers (sound.no_dangling.fields a b refers);
  }

  module _ (kept : Name → Bool) (keeps : HoldsWhatIsLive trace st kept) where
    anchor_kept : (n : Name) → has st.objects n ≡ true → is_anchor trace st n ≡ true → kept n ≡ true
    anchor_kept n t anchor = elim (or_cases _ _ anchor) [
      | inl left ↦ elim (or_cases _ _ left) [
        | inl held ↦ any_gives _ (kept n ≡ true)
            (λ p both.
            let parts = and_parts (not (among p st.ended)) (in_registers st.registers p n) both in
            keeps.registers p n (not-true _ parts.0) parts.1)
            (numbers_below (process_count trace)) held
        | inr first ↦ ap kept (sym (name_eq-true directory n first)) ∙ keeps.root
      ]
      | inr in_shared ↦
          let heap = shared_number (owner_of trace st n.seg.0) in_shared in
          keeps.shared_heaps heap.0 n heap.1 t
    ]

    set_kept : (k : ℕ) (n : Name) → has st.objects n ≡ true → in_set st.objects (is_anchor trace st) k n ≡ true → kept n ≡ true
    unfolding in_set
    set_kept zero n t anchor = anchor_kept n t anchor
    set_kept (suc k) n t more = elim (or_cases _ _ more) [
      | inl before ↦ set_kept k n t (and_parts _ _ (sym (set_has st.objects (is_anchor trace st) k n) ∙ before)).1
      | inr some ↦
          let from = referrer (set st.objects (is_anchor trace st) k) n some in
          let parts = and_parts _ _ (sym (set_refers st.objects (is_anchor trace st) k from.0 n) ∙ from.1) in
          keeps.references from.0 n (set_kept k from.0 (refers_in_has st.objects from.0 n parts.0) parts.1) parts.0
    ]

    least : (n : Name) → live n ≡ true → kept n ≡ true
    least n t = let parts = and_parts _ _ (sym (live_is n) ∙ t) in set_kept (length st.objects) n parts.0 parts.1

  pub live_is_least : IsLeastLive trace st (λ n. has (live_everywhere trace st) n)
  unfolding live
  live_is_least = record { there = there; holds = holds; least = least }
