-- A collection of a sound state frees nothing that can still be used.
use Rattle.std.proofs.Common.{◌≡◌, ℕ, zero, suc, ◌≤◌, ◌⊎◌, ◌&&◌, not, true, false, sym, ap, ◌∙◌, inl, inr, List, [], length, Some, unwrap_or}
use Rattle.std.proofs.lemmas.Bool.{and_parts, and_from, or_left, or_right, or_cases, false≢true, cases_Bool, not_from_false}
use Rattle.k_types.specs.declared.names.Name.{Name}
use Rattle.k_types.specs.declared.names.Heap.{Heap}
use Rattle.k_types.specs.declared.names.Heap.TheVariants.{Kernel, User, Shared}
use Rattle.k_types.specs.Names.{name_eq, heap_eq, directory, among, name_among}
use Rattle.k_types.specs.Trace.{Trace, process_count}
use Rattle.k_types.specs.State.{State, Object, ExitItem, has, refers_in, in_registers, has_exit, scan_of, is_scanned}
use Rattle.k_types.specs.Owners.{owner_of, objects_of, user, shared, owner_of_segment}
use Rattle.k_types.specs.Numbers.{numbers_below}
use Rattle.k_types.specs.Reach.{reach_in, live_everywhere, is_anchor, is_root, is_entered, is_held, has_entry, is_shared_heap}
use Rattle.k_types.specs.Updates.{keep_objects, keep_exits, keep_shares, close_scan}
use Rattle.k_types.specs.Effects.{step, after_ended, survives}
use Rattle.k_types.specs.declared.event.Event.TheVariants.{Ended}
use Rattle.k_types.specs.Sound.{IsSound}
use Rattle.k_types.proofs.Lists.{any_weaker, any_or, length-kept}
use Rattle.k_types.proofs.NameTests.{name_eq-true, heap_eq-true, heap_eq-same}
use Rattle.k_types.proofs.Objects.{has-kept, refers_in-kept, referrer, refers_in_has, some_is}
use Rattle.k_laws.proofs.Closure.{set, in_set, set_has, set_refers, closed_refers, start_in}

-- an exit item of a heap other than the owner is an entry
pub exit_enters : (own : ℕ → Heap) (exits : List ExitItem) (h : Heap) (n : Name) → heap_eq h (own n.seg.0) ≡ false → has_exit exits h n ≡ true → has_entry own exits n ≡ true
exit_enters own exits h n apart e =
    any_weaker (λ x. heap_eq x.heap h && name_eq x.target n) (λ x. not (heap_eq x.heap (own n.seg.0)) && name_eq x.target n)
    (λ x t.
    let parts = and_parts (heap_eq x.heap h) (name_eq x.target n) t in
    and_from _ _ (not_from_false _ (ap (λ g. heap_eq g (own n.seg.0)) (heap_eq-true x.heap h parts.0) ∙ apart)) parts.1)
    exits e

module _ (trace : Trace) (st : State) (sound : IsSound trace st) (h : Heap) (roots : List Name) (opened : scan_of st.scans h ≡ Some roots) where
  -- what a register holds is a root
  register_is_root : (n : Name) → owner_of trace st n.seg.0 ≡ h → (p : ℕ) → (not (among p st.ended) && in_registers st.registers p n) ≡ true →
      ((not (heap_eq (user p) (owner_of trace st n.seg.0)) && in_registers st.registers p n) ≡ true) ⊎ (is_held st h n ≡ true)
  unfolding is_held
  register_is_root n at p t =
      let holds = (and_parts (not (among p st.ended)) (in_registers st.registers p n) t).1 in
      elim (cases_Bool (heap_eq (user p) (owner_of trace st n.seg.0))) [
        | inl same ↦ inr (ap (λ g. is_held st g n) (sym at ∙ sym (heap_eq-true (user p) (owner_of trace st n.seg.0) same)) ∙ holds)
        | inr apart ↦ inl (and_from _ _ (not_from_false _ apart) holds)
      ]

  -- what anchors an object of the heap makes it a root
  anchor_is_root : (n : Name) → owner_of trace st n.seg.0 ≡ h → is_anchor trace st n ≡ true → is_root trace st h n ≡ true
  unfolding is_entered is_held owner_of_segment
  anchor_is_root n at a =
      elim (or_cases _ _ a) [
        | inl left ↦
            elim (or_cases _ _ left) [
              | inl held ↦
                  elim (any_or _ _ (is_held st h n ≡ true) (register_is_root n at) (numbers_below (process_count trace)) held) [
                    | inl pinned ↦ or_left _ _ (or_right _ _ pinned)
                    | inr holds ↦ or_right _ _ holds
                  ]
              | inr dir ↦ or_right _ _ (ap (λ g. is_held st g n) (sym at ∙ ap (λ m. owner_of trace st m.seg.0) (sym (name_eq-true directory n dir))) ∙ dir)
            ]
        | inr shared ↦ absurd (never_shared h shared at opened)
      ]
    where
      never_shared : (g : Heap) → is_shared_heap (owner_of trace st n.seg.0) ≡ true → owner_of trace st n.seg.0 ≡ g → scan_of st.scans g ≡ Some roots → ⊥
      never_shared Kernel s e o = false≢true (sym (ap is_shared_heap e) ∙ s)
      never_shared (User p) s e o = false≢true (sym (ap is_shared_heap e) ∙ s)
      never_shared (Shared k) s e o = let none = sound.scans.none_shared k.0 in absurd (cc (none, o))

  pool : List Object
  pool = objects_of (owner_of trace st) h st.objects

  in_pool : (n : Name) → has st.objects n ≡ true → owner_of trace st n.seg.0 ≡ h → has pool n ≡ true
  unfolding pool
  in_pool n there at = has-kept (λ m. heap_eq (owner_of trace st m.seg.0) h) st.objects n ∙ and_from _ _ there (heap_eq-same _ _ at)

  pool_short : length pool ≤ length st.objects
  unfolding pool
  pool_short = length-kept _ st.objects

  -- a reached object's references are found among what is reached
  pub reach_refers : (a b : Name) → has (reach_in trace st h roots) a ≡ true → refers_in st.objects a b ≡ true → owner_of trace st a.seg.0 ≡ h → refers_in (reach_in trace st h roots) a b ≡ true
  unfolding reach_in set pool
  reach_refers a b ha rab at =
      set_refers pool (λ m. name_among m roots) (length st.objects) a b
      ∙ and_from _ _
      (refers_in-kept (λ m. heap_eq (owner_of trace st m.seg.0) h) st.objects a b ∙ and_from _ _ rab (heap_eq-same _ _ at))
      (and_parts (has pool a) (in_set pool (λ m. name_among m roots) (length st.objects) a) (sym (set_has pool (λ m. name_among m roots) (length st.objects) a) ∙ ha)).1

  -- what is a root is reached
  pub root_reached : (n : Name) → has st.objects n ≡ true → owner_of trace st n.seg.0 ≡ h → is_root trace st h n ≡ true → has (reach_in trace st h roots) n ≡ true
  unfolding reach_in set pool
  root_reached n there at root =
      set_has pool (λ m. name_among m roots) (length st.objects) n
      ∙ and_from _ _ (in_pool n there at)
      (start_in pool (λ m. name_among m roots) n (in_pool n there at) (sound.scans.recorded h roots n opened there at root) (length st.objects))

  -- what a reached object of the heap refers to in the heap is reached
  pub reach_closed : (a b : Name) → has (reach_in trace st h roots) a ≡ true → refers_in st.objects a b ≡ true → owner_of trace st a.seg.0 ≡ h → owner_of trace st b.seg.0 ≡ h →
      has (reach_in trace st h roots) b ≡ true
  unfolding reach_in set pool
  reach_closed a b ha rab at_a at_b =
      closed_refers pool (λ m. name_among m roots) (length st.objects) a b pool_short ha
      (refers_in-kept (λ m. heap_eq (owner_of trace st m.seg.0) h) st.objects a b ∙ and_from _ _ rab (heap_eq-same _ _ at_a))
      (in_pool b (sound.no_dangling.fields a b rab) at_b)

  -- what an object refers to that is in the set is reached
  referred_reached : (k : ℕ) (n : Name) → owner_of trace st n.seg.0 ≡ h → has st.objects n ≡ true →
      ((m : Name) → has (set st.objects (is_anchor trace st) k) m ≡ true → owner_of trace st m.seg.0 ≡ h → has (reach_in trace st h roots) m ≡ true) →
      (a : Name) × (refers_in (set st.objects (is_anchor trace st) k) a n ≡ true) → has (reach_in trace st h roots) n ≡ true
  unfolding is_entered
  referred_reached k n at there before (a, r) =
      let rab = (and_parts (refers_in st.objects a n) (in_set st.objects (is_anchor trace st) k a) (sym (set_refers st.objects (is_anchor trace st) k a n) ∙ r)).0 in
      elim (cases_Bool (heap_eq (owner_of trace st a.seg.0) (owner_of trace st n.seg.0))) [
        | inl same ↦
            let at_a = heap_eq-true (owner_of trace st a.seg.0) (owner_of trace st n.seg.0) same ∙ at in
            reach_closed a n (before a (refers_in_has _ a n r) at_a) rab at_a at
        | inr apart ↦
            root_reached n there at (or_left _ _ (or_left _ _ (exit_enters (owner_of trace st) st.exits (owner_of trace st a.seg.0) n apart (sound.guarded.listed a n rab apart))))
      ]

  -- what is in everything that can be used after so many folds, and in the heap, is reached
  used_reached : (k : ℕ) (n : Name) → has (set st.objects (is_anchor trace st) k) n ≡ true → owner_of trace st n.seg.0 ≡ h → has (reach_in trace st h roots) n ≡ true
  unfolding set in_set
  used_reached zero n there at =
      let parts = and_parts (has st.objects n) (is_anchor trace st n) (sym (set_has st.objects (is_anchor trace st) 0 n) ∙ there) in
      root_reached n parts.0 at (anchor_is_root n at parts.1)
  used_reached (suc k) n there at =
      let parts = and_parts (has st.objects n) (in_set st.objects (is_anchor trace st) (suc k) n) (sym (set_has st.objects (is_anchor trace st) (suc k) n) ∙ there) in
      elim (or_cases _ _ parts.1) [
        | inl before ↦ used_reached k n before at
        | inr some ↦ referred_reached k n at parts.0 (used_reached k) (referrer (set st.objects (is_anchor trace st) k) n some)
      ]

  pub collect_keeps_used : (n : Name) → has (live_everywhere trace st) n ≡ true → owner_of trace st n.seg.0 ≡ h → has (reach_in trace st h roots) n ≡ true
  unfolding live_everywhere set
  collect_keeps_used n used at = used_reached (length st.objects) n used at

-- the end of a collection frees nothing that can be used
pub end_keeps_used : (trace : Trace) (st : State) (h : Heap) (a b c d : ℕ) → IsSound trace st → is_scanned st.scans h ≡ true →
    (n : Name) → has (live_everywhere trace st) n ≡ true → has (step trace st (Ended h a b c d)).objects n ≡ true
unfolding step after_ended keep_objects keep_exits keep_shares close_scan survives live_everywhere set
end_keeps_used trace st h a b c d sound scanned n used =
    let scan = some_is (scan_of st.scans h) scanned in
    let there = (and_parts (has st.objects n) (in_set st.objects (is_anchor trace st) (length st.objects) n) (sym (set_has st.objects (is_anchor trace st) (length st.objects) n) ∙ used)).0 in
    has-kept (survives trace st h) st.objects n
    ∙ and_from _ _ there
    (elim (cases_Bool (heap_eq (owner_of trace st n.seg.0) h)) [
      | inl same ↦ or_right _ _
          (ap (λ found. has (reach_in trace st h (unwrap_or found [])) n) scan.1
          ∙ collect_keeps_used trace st sound h scan.0 scan.1 n used (heap_eq-true (owner_of trace st n.seg.0) h same))
      | inr apart ↦ or_left _ _ (not_from_false _ apart)
    ])
