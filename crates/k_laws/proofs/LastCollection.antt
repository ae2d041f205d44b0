-- The last collection leaves what the directory reaches.
use Rattle.std.proofs.Common.{◌≡◌, ℕ, zero, suc, ◌+◌, ◌-◌, ◌≤◌, ◌&&◌, not, Bool, false, refl, sym, ap, ◌∙◌, inl, inr, List, [], ◌∷◌, ◌++◌, length, filter, arith, le_refl, IsTrue, subst}
use Rattle.std.specs.List.{list_any}
use Rattle.std.proofs.lemmas.Bool.{false≢true, or_left, or_right, or_cases, and_parts, and_from}
use Rattle.k_types.specs.declared.names.Name.{Name}
use Rattle.k_types.specs.declared.names.Heap.TheVariants.{Kernel}
use Rattle.k_types.specs.declared.names.Phase.TheVariants.{Unmade}
use Rattle.k_types.specs.declared.event.Event.{Event}
use Rattle.k_types.specs.declared.event.Event.TheVariants.{Ended, Closing}
use Rattle.k_types.specs.Names.{heap_eq, name_eq, name_among, directory}
use Rattle.k_types.specs.Trace.{Trace}
use Rattle.k_types.specs.TraceRules.{AreLimits}
use Rattle.k_types.specs.State.{State, Object, opening, has, refers, refers_in}
use Rattle.k_types.specs.Owners.{owner_of, objects_of, shared, phase_of}
use Rattle.k_types.specs.Reach.{reach_in, roots_of, is_root, is_held, is_entered}
use Rattle.k_types.specs.Updates.{open_scan, close, keep_objects, keep_exits, keep_shares, close_scan}
use Rattle.k_types.specs.Effects.{step, after_closing, after_ended, survives, open_roots}
use Rattle.k_types.specs.Steps.{IsPossible, IsLegalHistory, state_after}
use Rattle.k_types.specs.Complete.{IsComplete, EndsWithClosing, all_ended}
use Rattle.k_laws.specs.Reclaimed.{IsReclaimed}
use Rattle.k_laws.proofs.Reclaiming.{no_shares, no_exits, of_kernel, not_entered, bare_uses}
use Rattle.k_laws.proofs.SharedBounds.{unmade_exits}
use Rattle.k_types.proofs.NameTests.{name_eq-true, name_eq_refl, heap_eq-same}
use Rattle.k_types.proofs.Objects.{has-kept, refers_in-kept, referrer, refers_in_has}
use Rattle.k_laws.proofs.Histories.{run_append, legal_front, legal_rest}
use Rattle.k_laws.proofs.Closure.{set, in_set, set_has, set_refers, closed_refers, start_in}
use Rattle.k_laws.specs.Counts.{exit_count}
use Rattle.k_laws.proofs.Means.{reach_is}
use Rattle.k_laws.proofs.SoundScan.{among-roots}
use Rattle.k_laws.proofs.SoundSteps.{legal_sound}
use Rattle.k_types.proofs.Tests.{same_test}

-- what is reached in a pool from the one name is what is reached among what was reached
module _ (pool : List Object) (start : Name → Bool) (root : Name) (only : (n : Name) → IsTrue (start n) → n ≡ root) where
  more : (k d : ℕ) (n : Name) → IsTrue (has (set pool start k) n) → IsTrue (has (set pool start (k + d)) n)
  unfolding set in_set
  more k zero n t = ap (λ m. has (set pool start m) n) (omega arith) ∙ t
  more k (suc d) n t =
      let before = more k d n t in
      let both = and_parts (has pool n) (in_set pool start (k + d) n) (sym (set_has pool start (k + d) n) ∙ before) in
      let is : k + suc d ≡ suc (k + d) = omega arith in
      ap (λ m. has (set pool start m) n) is ∙ set_has pool start (suc (k + d)) n ∙ and_from _ _ both.0 (next (k + d) n before)
    where
      next : (k : ℕ) (n : Name) → IsTrue (has (set pool start k) n) → IsTrue (in_set pool start (suc k) n)
      next k n t = or_left _ _ t

  module _ (last : ℕ) (kept : List Object) (is : (n : Name) → has kept n ≡ has (set pool start last) n)
      (references : (a b : Name) → IsTrue (has kept a) → IsTrue (refers_in pool a b) → IsTrue (refers_in kept a b)) (again : Name → Bool) (starts : IsTrue (again root)) where
    abbrev end : List Object
    end = set kept again (length kept)

    reached_again : (k : ℕ) → k ≤ last → (n : Name) → IsTrue (has (set pool start k) n) → IsTrue (has end n)
    unfolding in_set
    reached_again zero low n t =
        let both = and_parts (has pool n) (start n) (sym (set_has pool start zero n) ∙ t) in
        let there = is n ∙ ap (λ m. has (set pool start m) n) (sum last) ∙ more 0 last n t in
        set_has kept again (length kept) n ∙ and_from _ _ there (start_in kept again n there (ap again (only n both.1) ∙ starts) (length kept))
      where
        sum : (last : ℕ) → last ≡ 0 + last
        sum last = omega arith
    reached_again (suc k) low n t =
        let both = and_parts (has pool n) (in_set pool start (suc k) n) (sym (set_has pool start (suc k) n) ∙ t) in
        let there = is n ∙ ap (λ m. has (set pool start m) n) (sum k last low) ∙ more (suc k) (last - suc k) n t in
        elim (or_cases (has (set pool start k) n) (list_any (λ x. refers x n) (set pool start k)) both.1) [
          | inl before ↦ reached_again k (omega (arith, low)) n before
          | inr some ↦
              let a = referrer (set pool start k) n some in
              let in_pool = and_parts (refers_in pool a.0 n) (in_set pool start k a.0) (sym (set_refers pool start k a.0 n) ∙ a.1) in
              let ha = refers_in_has (set pool start k) a.0 n a.1 in
              let reached = reached_again k (omega (arith, low)) a.0 ha in
              let a_kept = (and_parts (has kept a.0) (in_set kept again (length kept) a.0) (sym (set_has kept again (length kept) a.0) ∙ reached)).0 in
              closed_refers kept again (length kept) a.0 n (le_refl (length kept)) reached (references a.0 n a_kept in_pool.0) there
        ]
      where
        sum : (k last : ℕ) → suc k ≤ last → last ≡ suc k + (last - suc k)
        sum k last low = omega (arith, low)

    pub all_again : (n : Name) → IsTrue (has kept n) → IsTrue (has end n)
    all_again n there = reached_again last (le_refl last) n (sym (is n) ∙ there)

module _ (trace : Trace) (s0 : State) (only : (n : Name) → IsTrue (name_among n (roots_of trace s0 Kernel)) → n ≡ directory) where
  abbrev s1 : State
  s1 = after_closing trace s0

  abbrev s2 : State
  s2 = after_ended trace Kernel s1

  roots : open_roots s1 Kernel ≡ roots_of trace s0 Kernel
  unfolding after_closing close open_scan
  roots = refl

  abbrev start : Name → Bool
  start n = name_among n (open_roots s1 Kernel)

  abbrev pool : List Object
  pool = objects_of (owner_of trace s1) Kernel s1.objects

  abbrev again : Name → Bool
  again n = name_among n (directory ∷ [])

  kept_objects : List Object
  kept_objects = objects_of (owner_of trace s2) Kernel s2.objects

  kept_is : kept_objects ≡ objects_of (owner_of trace s1) Kernel (filter (λ o. survives trace s1 Kernel o.name) s1.objects)
  unfolding kept_objects after_ended keep_objects keep_exits keep_shares close_scan
  kept_is = refl

  reach_set : reach_in trace s1 Kernel (open_roots s1 Kernel) ≡ set pool start (length s1.objects)
  unfolding reach_in set
  reach_set = refl

  pool_has : (n : Name) → has pool n ≡ (has s1.objects n && heap_eq (owner_of trace s1 n.seg.0) Kernel)
  pool_has n = has-kept (λ m. heap_eq (owner_of trace s1 m.seg.0) Kernel) s1.objects n

  kept_has : (n : Name) → has kept_objects n ≡ ((has s1.objects n && survives trace s1 Kernel n) && heap_eq (owner_of trace s1 n.seg.0) Kernel)
  kept_has n =
      ap (λ objects. has objects n) kept_is
      ∙ has-kept (λ m. heap_eq (owner_of trace s1 m.seg.0) Kernel) (filter (λ o. survives trace s1 Kernel o.name) s1.objects) n
      ∙ ap (λ b. b && heap_eq (owner_of trace s1 n.seg.0) Kernel) (has-kept (survives trace s1 Kernel) s1.objects n)

  is_reached : (n : Name) → has kept_objects n ≡ has (set pool start (length s1.objects)) n
  unfolding survives
  is_reached n = same_test _ _
      (λ t.
      let both = and_parts (has s1.objects n && survives trace s1 Kernel n) (heap_eq (owner_of trace s1 n.seg.0) Kernel) (sym (kept_has n) ∙ t) in
      let parts = and_parts (has s1.objects n) (survives trace s1 Kernel n) both.0 in
      elim (or_cases (not (heap_eq (owner_of trace s1 n.seg.0) Kernel)) (has (reach_in trace s1 Kernel (open_roots s1 Kernel)) n) parts.1) [
        | inl other ↦ absurd (false≢true (sym (ap not both.1) ∙ other))
        | inr reached ↦ ap (λ objects. has objects n) (sym reach_set) ∙ reached
      ])
      (λ t.
      let there = (and_parts (has pool n) (in_set pool start (length s1.objects) n) (sym (set_has pool start (length s1.objects) n) ∙ t)).0 in
      let both = and_parts (has s1.objects n) (heap_eq (owner_of trace s1 n.seg.0) Kernel) (sym (pool_has n) ∙ there) in
      kept_has n ∙ and_from _ _ (and_from _ _ both.0 (or_right (not (heap_eq (owner_of trace s1 n.seg.0) Kernel)) _ (ap (λ objects. has objects n) reach_set ∙ t))) both.1)

  references : (a b : Name) → IsTrue (has kept_objects a) → IsTrue (refers_in pool a b) → IsTrue (refers_in kept_objects a b)
  references a b there r =
      let both = and_parts (has s1.objects a && survives trace s1 Kernel a) (heap_eq (owner_of trace s1 a.seg.0) Kernel) (sym (kept_has a) ∙ there) in
      let stays = (and_parts (has s1.objects a) (survives trace s1 Kernel a) both.0).1 in
      let refers = (and_parts (refers_in s1.objects a b) (heap_eq (owner_of trace s1 a.seg.0) Kernel) (sym (refers_in-kept (λ m. heap_eq (owner_of trace s1 m.seg.0) Kernel) s1.objects a b) ∙ r)).0 in
      ap (λ objects. refers_in objects a b) kept_is
      ∙ refers_in-kept (λ m. heap_eq (owner_of trace s1 m.seg.0) Kernel) (filter (λ o. survives trace s1 Kernel o.name) s1.objects) a b
      ∙ and_from _ _ (refers_in-kept (survives trace s1 Kernel) s1.objects a b ∙ and_from _ _ refers stays) both.1

  end_set : reach_in trace s2 Kernel (directory ∷ []) ≡ set kept_objects again (length kept_objects)
  unfolding kept_objects set
  end_set = reach_is trace s2 Kernel (directory ∷ [])

  -- what is left of the kernel's objects is what the directory reaches
  pub left_is_reached : ((n : Name) → IsTrue (has s2.objects n) → owner_of trace s2 n.seg.0 ≡ Kernel) → (n : Name) → has s2.objects n ≡ has (reach_in trace s2 Kernel (directory ∷ [])) n
  unfolding kept_objects
  left_is_reached of_kernel n = same_test _ _
      (λ there.
      let kept = has-kept (λ m. heap_eq (owner_of trace s2 m.seg.0) Kernel) s2.objects n ∙ and_from _ _ there (heap_eq-same (owner_of trace s2 n.seg.0) Kernel (of_kernel n there)) in
      ap (λ objects. has objects n) end_set
      ∙ all_again pool start directory (λ m t. only m (ap (name_among m) (sym roots) ∙ t)) (length s1.objects) kept_objects is_reached references again (or_left (name_eq directory directory) false (name_eq_refl directory)) n kept)
      (λ t.
      let kept = (and_parts (has kept_objects n) (in_set kept_objects again (length kept_objects) n) (sym (set_has kept_objects again (length kept_objects) n) ∙ ap (λ objects. has objects n) (sym end_set) ∙ t)).0 in
      (and_parts (has s2.objects n) (heap_eq (owner_of trace s2 n.seg.0) Kernel) (sym (has-kept (λ m. heap_eq (owner_of trace s2 m.seg.0) Kernel) s2.objects n) ∙ kept)).0)

module _ (trace : Trace) (limits : AreLimits trace) where
  unmade : (history : List Event) → IsLegalHistory trace history → (s : ℕ) → phase_of (state_after trace history).phases s ≡ Unmade → exit_count (state_after trace history).exits (shared s) ≡ 0
  unmade history legal s e = unmade_exits trace s limits history legal e

  -- before the closing only the directory is a root
  only_directory : (before : List Event) → IsLegalHistory trace before → IsPossible trace (state_after trace before) Closing → (n : Name) → IsTrue (name_among n (roots_of trace (state_after trace before) Kernel)) → n ≡ directory
  unfolding is_held
  only_directory before legal may n t =
      let st = state_after trace before in
      let root = (and_parts (has st.objects n && heap_eq (owner_of trace st n.seg.0) Kernel) (is_root trace st Kernel n) (sym (among-roots trace st Kernel n) ∙ t)).1 in
      elim (or_cases (is_entered trace st n) (name_eq directory n) root) [
        | inl entered ↦ absurd (false≢true (sym (not_entered trace st (legal_sound trace before limits legal) may.all_ended may.orphans (unmade before legal) n) ∙ entered))
        | inr is ↦ sym (name_eq-true directory n is)
      ]

  two_steps : (s0 : State) (a b c d : ℕ) → step trace (step trace s0 Closing) (Ended Kernel a b c d) ≡ after_ended trace Kernel (after_closing trace s0)
  unfolding step
  two_steps s0 a b c d = refl

  pub reclaimed : (history : List Event) → IsLegalHistory trace history → IsComplete trace history → IsTrue (all_ended trace (state_after trace history)) → IsReclaimed trace (state_after trace history)
  reclaimed history legal complete over =
      let sound = legal_sound trace history limits legal in
      let orphans = complete.no_orphan over in
      let none = unmade history legal in
      record {
        objects = left history legal (complete.ends over) (of_kernel trace (state_after trace history) sound over orphans none);
        exits = no_exits trace (state_after trace history) sound over orphans none;
        shares = no_shares trace (state_after trace history) sound over orphans none;
        uses = bare_uses trace (state_after trace history) sound over orphans none;
      }
    where
      left : (history : List Event) → IsLegalHistory trace history → EndsWithClosing history → ((n : Name) → IsTrue (has (state_after trace history).objects n) → owner_of trace (state_after trace history) n.seg.0 ≡ Kernel) →
          (n : Name) → has (state_after trace history).objects n ≡ has (reach_in trace (state_after trace history) Kernel (directory ∷ [])) n
      left history legal (before, a, b, c, d, is) of_kernel =
          let tail : List Event = Closing ∷ Ended Kernel a b c d ∷ [] in
          let legal' : IsLegalHistory trace (before ++ tail) = subst (IsLegalHistory trace) is legal in
          let front = legal_front trace (opening trace) before tail legal' in
          let rest = legal_rest trace (opening trace) before tail legal' in
          let final : after_ended trace Kernel (after_closing trace (state_after trace before)) ≡ state_after trace history =
          sym (ap (state_after trace) is ∙ run_append trace (opening trace) before tail ∙ two_steps (state_after trace before) a b c d) in
          subst (λ st. ((n : Name) → IsTrue (has st.objects n) → owner_of trace st n.seg.0 ≡ Kernel) → (n : Name) → has st.objects n ≡ has (reach_in trace st Kernel (directory ∷ [])) n) final
          (left_is_reached trace (state_after trace before) (only_directory before front rest.0)) of_kernel
