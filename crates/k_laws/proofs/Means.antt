-- What definitions of the machine mean in sound states.
use Rattle.std.proofs.Common.{◌≡◌, ℕ, zero, suc, ◌+◌, ◌-◌, ◌<◌, ◌≤◌, ◌==◌, not, cond, nat_le, Bool, true, false, refl, sym, ap, ◌∙◌, subst, inl, inr, List, length, Some, arith, eqb-true, eq-eqb, false-eqb, IsTrue, IsFalse}
use Rattle.std.specs.List.{list_any}
use Rattle.std.proofs.lemmas.Bool.{and_parts, and_from, or_right, or_cases, false≢true, not-true}
use Rattle.k_types.specs.declared.names.Name.{Name}
use Rattle.k_types.specs.declared.names.Heap.{Heap}
use Rattle.k_types.specs.declared.names.Heap.TheVariants.{Kernel, User, Shared}
use Rattle.k_types.specs.declared.names.Phase.{Phase}
use Rattle.k_types.specs.Names.{heap_eq, among, name_among}
use Rattle.k_types.specs.Trace.{Trace, process_count}
use Rattle.k_types.specs.State.{State, Object, refers, refers_in, has_exit, scan_of}
use Rattle.k_types.specs.Owners.{owner_of, objects_of, owner_of_segment, phase_of, is_absorbed, user, shared}
use Rattle.k_types.specs.Reach.{next_fold, closure, reach_in, reach_among}
use Rattle.k_types.specs.Effects.{open_roots, survives, exit_stays, after_ended, after_end_of}
use Rattle.k_types.specs.Updates.{keep_objects, keep_exits, keep_shares, close_scan, clear_registers, end_process, turn_exits}
use Rattle.k_types.specs.Local.{is_own}
use Rattle.k_types.specs.Sound.{IsSound}
use Rattle.k_laws.specs.Survivors.{RefersOut}
use Rattle.k_laws.specs.Termination.{StaysOrPasses}
use Rattle.k_types.proofs.NameTests.{heap_eq-true, heap_eq_refl}
use Rattle.k_laws.proofs.Closure.{set, set_closed, set_refers}
use Rattle.k_types.proofs.Objects.{referrer, refers_in-kept, refers_in_has}
use Rattle.k_laws.proofs.Kept.{has_exit-kept}
use Rattle.k_laws.proofs.OwnerOf.{owner_user}
use Rattle.k_laws.proofs.SoundCollected.{collected_sound}
use Rattle.k_laws.proofs.Turned.{origin, turned_stays, turned_comes}
use Rattle.k_types.proofs.Lists.{length-kept}

next_set : (pool : List Object) (start : Name → Bool) (k : ℕ) → set pool start (suc k) ≡ next_fold pool (set pool start k)
unfolding set closure
next_set pool start k = refl

-- more folds than objects of the pool change nothing
stable : (pool : List Object) (start : Name → Bool) (d : ℕ) → set pool start (length pool + d) ≡ set pool start (length pool)
stable pool start zero = ap (set pool start) (omega arith)
stable pool start (suc d) =
    let more : length pool + suc d ≡ suc (length pool + d) = omega arith in
    ap (set pool start) more ∙ next_set pool start (length pool + d) ∙ set_closed pool start (length pool + d) (omega arith) ∙ stable pool start d

enough : (pool : List Object) (start : Name → Bool) (k : ℕ) → length pool ≤ k → set pool start k ≡ set pool start (length pool)
enough pool start k le = let e : k ≡ length pool + (k - length pool) = omega (arith, le) in ap (set pool start) e ∙ stable pool start (k - length pool)

-- what a heap reaches is found among its own objects
pub reach_is : (trace : Trace) (st : State) (h : Heap) (rs : List Name) → reach_in trace st h rs ≡ reach_among (objects_of (owner_of trace st) h st.objects) rs
unfolding reach_in set
reach_is trace st h rs =
    enough (objects_of (owner_of trace st) h st.objects) (λ n. name_among n rs) (length st.objects) (length-kept (λ o. heap_eq (owner_of trace st o.name.seg.0) h) st.objects)

module _ (trace : Trace) (st : State) (sound : IsSound trace st) (h : Heap) (roots : List Name) (opened : scan_of st.scans h ≡ Some roots) where
  pub reached_refers : (rs : List Name) (a n : Name) → refers_in (reach_in trace st h rs) a n ≡ true → IsTrue (refers_in st.objects a n) × (owner_of trace st a.seg.0 ≡ h)
  unfolding reach_in set
  reached_refers rs a n r =
      let pool = objects_of (owner_of trace st) h st.objects in
      let inside = and_parts (refers_in pool a n) _ (sym (set_refers pool (λ m. name_among m rs) (length st.objects) a n) ∙ r) in
      let parts = and_parts (refers_in st.objects a n) (heap_eq (owner_of trace st a.seg.0) h) (sym (refers_in-kept (λ m. heap_eq (owner_of trace st m.seg.0) h) st.objects a n) ∙ inside.0) in
      (parts.0, heap_eq-true (owner_of trace st a.seg.0) h parts.1)

  -- after a collection the heap has an exit item exactly where a survivor refers out
  pub exit_needed : (n : Name) → IsTrue (has_exit (after_ended trace h st).exits h n) → RefersOut trace (after_ended trace h st) h n
  unfolding after_ended keep_objects keep_exits keep_shares close_scan exit_stays survives
  exit_needed n e =
      let parts = and_parts (has_exit st.exits h n) (exit_stays trace st h (record { heap = h; target = n })) (sym (has_exit-kept (exit_stays trace st h) st.exits h n) ∙ e) in
      elim (or_cases (not (heap_eq h h)) (list_any (λ x. refers x n) (reach_in trace st h (open_roots st h))) parts.1) [
        | inl other ↦ absurd (false≢true (sym (not-true _ other) ∙ heap_eq_refl h))
        | inr some ↦
            let a = referrer (reach_in trace st h (open_roots st h)) n some in
            let was = reached_refers (open_roots st h) a.0 n a.1 in
            record {
              from = a.0;
              own = was.1;
              out = sound.exits.leave h n parts.0;
              refers = refers_in-kept (survives trace st h) st.objects a.0 n ∙ and_from _ _ was.0 (or_right _ _ (refers_in_has (reach_in trace st h (open_roots st h)) a.0 n a.1));
            }
      ]

  pub exit_there_still : (n : Name) → RefersOut trace (after_ended trace h st) h n → IsTrue (has_exit (after_ended trace h st).exits h n)
  exit_there_still n r =
      subst (λ g. IsTrue (has_exit (after_ended trace h st).exits g n)) r.own
      ((collected_sound trace st sound h roots opened).guarded.listed r.from n r.refers (ap (λ g. heap_eq g (owner_of trace (after_ended trace h st) n.seg.0)) r.own ∙ r.out))

-- the segment of a living process's heap
number_of : Heap → ℕ
number_of Kernel = 0
number_of (User p) = p.0
number_of (Shared s) = s.0

own_segment_if : (procs seg p : ℕ) (a b c d : Bool) → (seg == 0) ≡ a → cond a Kernel (cond b (cond c Kernel (user (seg - 1))) (cond d Kernel (shared (seg - 1 - procs)))) ≡ user p → seg ≡ p + 1
unfolding number_of
own_segment_if procs seg p true b c d z e = absurd (cc e)
own_segment_if procs seg p false true true d z e = absurd (cc e)
own_segment_if procs seg p false true false d z e = let ne = false-eqb seg 0 (sym z) in let same = ap number_of e in omega arith
own_segment_if procs seg p false false c true z e = absurd (cc e)
own_segment_if procs seg p false false c false z e = absurd (cc e)

own_segment : (procs : ℕ) (ended : List ℕ) (phases : List Phase) (seg p : ℕ) → owner_of_segment procs ended phases seg ≡ user p → seg ≡ p + 1
unfolding owner_of_segment
own_segment procs ended phases seg p e = own_segment_if procs seg p (seg == 0) (nat_le seg procs) (among (seg - 1) ended) (is_absorbed (phase_of phases (seg - 1 - procs))) refl e

pub own_is : (trace : Trace) (st : State) (p : ℕ) (n : Name) → p < process_count trace → IsFalse (among p st.ended) → IsTrue (is_own p (Some n)) → owner_of trace st n.seg.0 ≡ user p
own_is trace st p n known lives o = ap (owner_of trace st) (eqb-true n.seg.0 (p + 1) o) ∙ owner_user trace st p known lives

pub is_own_if : (trace : Trace) (st : State) (p : ℕ) (n : Name) → owner_of trace st n.seg.0 ≡ user p → IsTrue (is_own p (Some n))
is_own_if trace st p n e = eq-eqb n.seg.0 (p + 1) (own_segment (process_count trace) st.ended st.phases n.seg.0 p e)

-- the exit items after a process has ended
pub exit_from : (trace : Trace) (st : State) (p : ℕ) (sound : IsSound trace st) (h : Heap) (n : Name) → IsTrue (has_exit (after_end_of trace p st).exits h n) → StaysOrPasses trace st p h n
unfolding after_end_of end_process clear_registers keep_shares turn_exits
exit_from trace st p sound h n e = elim (origin trace st p sound h n e).from [ inl stays ↦ inl stays | inr passes ↦ inr (passes.0, passes.1, passes.2) ]

pub exit_comes : (trace : Trace) (st : State) (p : ℕ) (sound : IsSound trace st) (h : Heap) (n : Name) → StaysOrPasses trace st p h n → IsTrue (has_exit (after_end_of trace p st).exits h n)
unfolding after_end_of end_process clear_registers keep_shares turn_exits
exit_comes trace st p sound h n (inl stays) = turned_stays trace st p sound h n stays.0 stays.1 stays.2
exit_comes trace st p sound h n (inr passes) = subst (λ g. IsTrue (has_exit (after_end_of trace p st).exits g n)) (sym passes.0) (turned_comes trace st p sound n passes.1 passes.2)
