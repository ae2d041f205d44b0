-- A frozen heap keeps its phase and its bytes until it is absorbed.
use Rattle.std.proofs.Common.{◌≡◌, ℕ, ◌+◌, ◌*◌, ◌<◌, ◌==◌, not, ◌||◌, Bool, true, false, cond, refl, sym, ap, ◌∙◌, inl, inr, ◌⊎◌, [], ◌∷◌, Option, Some, None, is_some, set, arith, ne_eqb, eq-eqb, IsFalse}
use Rattle.std.proofs.lemmas.Bool.{cases_eq, false≢true, false_from_ne_true, not-false}
use Rattle.k_types.specs.declared.names.Name.{Name}
use Rattle.k_types.specs.declared.names.TypeId.{TypeId}
use Rattle.k_types.specs.declared.names.Heap.{Heap}
use Rattle.k_types.specs.declared.names.Heap.TheVariants.{Kernel}
use Rattle.k_types.specs.declared.names.Phase.{Phase}
use Rattle.k_types.specs.declared.names.Phase.TheVariants.{Unmade, Populating, Frozen}
use Rattle.k_types.specs.declared.op.Op.{Op}
use Rattle.k_types.specs.declared.op.Op.TheVariants.{New, KNew, SNew, Store, Put, Share, Freeze, Exit, Kill}
use Rattle.k_types.specs.declared.event.Event.{Event}
use Rattle.k_types.specs.declared.event.Event.TheVariants.{Done, Ended, Absorbed, Closing}
use Rattle.k_types.specs.declared.event.Fault.{Fault}
use Rattle.k_types.specs.declared.event.Fault.TheVariants.{NotPopulating, Segv, Taken}
use Rattle.k_types.specs.Names.{among, heap_eq}
use Rattle.k_types.specs.Totals.{total}
use Rattle.k_types.specs.Trace.{Trace, process_count, kinds_of, size_of_type}
use Rattle.k_types.specs.State.{State, Refers, Holds, is_scanned, register}
use Rattle.k_types.specs.Owners.{bytes_by, bytes_of, is_absorbed, object_bytes, owner_of, phase_of, shared, user}
use Rattle.k_types.specs.Replies.{at_base, fault_where, faults, first_fault, is_populating, is_unmade}
use Rattle.k_types.specs.Updates.{add_exit, add_share, clear_registers, count_done, create, end_process, keep_shares, open_scan, set_phase, set_register, turn_exits, write, set_max}
use Rattle.k_types.specs.Effects.{after_end_of, after_freeze, after_operation, after_put, after_store, effect, effect_unless, step, with_exit_of_store, after_kill}
use Rattle.k_types.specs.Cells.{CellPart, cells_touched, part, touches}
use Rattle.k_types.specs.Steps.{IsPossible}
use Rattle.k_types.specs.Sound.{IsSound}
use Rattle.k_laws.proofs.Bytes.{bytes-written}
use Rattle.k_laws.proofs.FrameSteps.{frame, none_on}
use Rattle.k_types.proofs.Lists.{get_or-set_cases}
use Rattle.k_types.proofs.NameTests.{heap_eq-true}
use Rattle.k_laws.proofs.OwnerOf.{owner_kernel, owner_shared, owner_user}
use Rattle.k_laws.proofs.Rest.{put_rest, store_rest}
use Rattle.k_types.proofs.Sums.{bit}
use Rattle.k_laws.proofs.Ending.{same_bytes}
use Rattle.k_laws.proofs.SoundEffects.{is_populating_by, is_unmade_so}
use Rattle.k_laws.proofs.SoundNew.{bytes_after}
use Rattle.k_laws.proofs.SoundShare.{owner_kept}
use Rattle.k_laws.specs.Kept.{StaysFrozen}

none_more : (a b n : ℕ) (t : Bool) → a ≡ b + n * bit t → t ≡ false → a ≡ b
none_more a b n t e f = e ∙ ap (λ t. b + n * bit t) f ∙ (omega arith)

module _ (trace : Trace) where
  -- a part tells its heap's bytes
  part_bytes : (st after : State) (h : Heap) → part trace after h ≡ part trace st h → bytes_of trace after h ≡ bytes_of trace st h
  unfolding part bytes_by
  part_bytes st after h same = ap (λ (c : CellPart). total object_bytes c.objects) same

  link_bytes : (st : State) (x : Name) (v : Option Name) (h : Heap) → bytes_of trace (with_exit_of_store trace x v st) h ≡ bytes_of trace st h
  unfolding with_exit_of_store add_exit
  link_bytes st x None h = refl
  link_bytes st x (Some y) h =
      elim (heap_eq (owner_of trace st x.seg.0) (owner_of trace st y.seg.0)) as (λ b. bytes_of trace (cond b st (add_exit (owner_of trace st x.seg.0) y st)) h ≡ bytes_of trace st h) [ true ↦ refl | false ↦ refl ]

  store_bytes : (st : State) (b : Option Name) (i : ℕ) (v : Option Name) (h : Heap) → bytes_of trace (after_store trace b i v st) h ≡ bytes_of trace st h
  unfolding after_store write
  store_bytes st None i v h = refl
  store_bytes st (Some x) i v h =
      bytes-written (owner_of trace (with_exit_of_store trace x v st)) h x i (Refers v) (with_exit_of_store trace x v st).objects ∙ link_bytes st x v h

  put_bytes : (st : State) (b : Option Name) (i n : ℕ) (h : Heap) → bytes_of trace (after_put b i n st) h ≡ bytes_of trace st h
  unfolding after_put write
  put_bytes st None i n h = refl
  put_bytes st (Some x) i n h = bytes-written (owner_of trace st) h x i (Holds n) st.objects

  phase_bytes : (st : State) (t : ℕ) (phase : Phase) (h : Heap) → is_absorbed phase ≡ is_absorbed (phase_of st.phases t) → bytes_of trace (set_phase t phase st) h ≡ bytes_of trace st h
  unfolding set_phase
  phase_bytes st t phase h same = ap (λ own. bytes_by own h st.objects) (owner_kept trace st t phase same)

  new_bytes : (st : State) (seg : ℕ) (ty : TypeId) (h k : Heap) → owner_of trace st seg ≡ k → IsFalse (heap_eq k h) → bytes_of trace (create seg ty (kinds_of trace ty) st) h ≡ bytes_of trace st h
  new_bytes st seg ty h k own apart =
      none_more _ _ (size_of_type trace ty) (heap_eq (owner_of trace st seg) h) (bytes_after trace st seg ty h) (ap (λ o. heap_eq o h) own ∙ apart)

  module _ (st : State) (p s : ℕ) (root : Name) (known : p < process_count trace) (lives : IsFalse (among p st.ended)) (frozen : phase_of st.phases s ≡ Frozen root) where
    -- another phase is another heap's
    other_heap : (t : ℕ) (phase : Phase) → phase_of st.phases t ≡ phase → (phase ≡ Frozen root → ⊥) → IsFalse (t == s)
    other_heap t phase is apart = ne_eqb t s (λ same. apart (sym is ∙ ap (phase_of st.phases) same ∙ frozen))

    set_other : (t : ℕ) (phase : Phase) → IsFalse (t == s) → phase_of (set st.phases t phase) s ≡ phase_of st.phases s
    set_other t phase apart = elim (get_or-set_cases st.phases t s phase Unmade) [
      | inl same ↦ same
      | inr here ↦ absurd (false≢true (sym apart ∙ eq-eqb t s (sym here.0)))
    ]

    freeze_stays : (t : ℕ) (b : Option Name) →
        first_fault (at_base b (λ x. fault_where (not (heap_eq (owner_of trace st x.seg.0) (shared t))) Segv ∷ fault_where (not (is_populating (phase_of st.phases t) p)) (NotPopulating (record { 0 = t })) ∷ [])) ≡ None →
        StaysFrozen trace st (after_freeze t b st) s
    unfolding after_freeze set_phase
    freeze_stays t None fine = record { phase = refl; bytes = refl }
    freeze_stays t (Some x) fine =
        let inside = none_on (not (heap_eq (owner_of trace st x.seg.0) (shared t))) Segv _ fine in
        let populates = none_on (not (is_populating (phase_of st.phases t) p)) (NotPopulating (record { 0 = t })) [] inside.1 in
        let phase = is_populating_by (phase_of st.phases t) p (not-false _ populates.0) in
        record {
          phase = set_other t (Frozen x) (other_heap t (Populating phase.0) phase.1 (λ e. cc e));
          bytes = phase_bytes st t (Frozen x) (shared s) (sym (ap is_absorbed phase.1));
        }

    exit_stays_frozen : StaysFrozen trace st (after_end_of trace p st) s
    unfolding after_end_of end_process clear_registers keep_shares turn_exits
    exit_stays_frozen = record { phase = refl; bytes = same_bytes trace st p (shared s) refl refl }

    kill_stays_frozen : (q : ℕ) → StaysFrozen trace st (after_kill trace q st) s
    unfolding after_kill after_end_of end_process clear_registers keep_shares turn_exits
    kill_stays_frozen q = elim (among q st.ended) as (λ b. StaysFrozen trace st (cond b st (after_end_of trace q st)) s) [
      | true ↦ record { phase = refl; bytes = refl }
      | false ↦ record { phase = refl; bytes = same_bytes trace st q (shared s) refl refl }
    ]

    effect_stays : (op : Op) → first_fault (faults trace st p op) ≡ None → StaysFrozen trace st (effect trace p op st) s
    unfolding effect set_register open_scan add_share set_phase create faults set_max
    effect_stays (New r ty) fine = record { phase = refl; bytes = new_bytes st (p + 1) ty (shared s) (user p) (owner_user trace st p known lives) refl }
    effect_stays (KNew r ty) fine = record { phase = refl; bytes = new_bytes st 0 ty (shared s) Kernel (owner_kernel trace st) refl }
    effect_stays (SNew r t ty) fine =
        let phase = is_populating_by (phase_of st.phases t.0) p (not-false _ (none_on (not (is_populating (phase_of st.phases t.0) p)) (NotPopulating t) _ fine).0) in
        record {
          phase = refl;
          bytes = new_bytes st (1 + process_count trace + t.0) ty (shared s) (shared t.0) (owner_shared trace st t.0 (ap is_absorbed phase.1)) (other_heap t.0 (Populating phase.0) phase.1 (λ e. cc e));
        }
    effect_stays (Store base i value) fine = record {
      phase = ap (λ (su : State). phase_of su.phases s) (store_rest trace st (register st.registers p base.0) i (register st.registers p value.0));
      bytes = store_bytes st (register st.registers p base.0) i (register st.registers p value.0) (shared s);
    }
    effect_stays (Put base i number) fine = record {
      phase = ap (λ (su : State). phase_of su.phases s) (put_rest st (register st.registers p base.0) i number);
      bytes = put_bytes st (register st.registers p base.0) i number (shared s);
    }
    effect_stays (Share t) fine =
        let unmade = is_unmade_so (phase_of st.phases t.0) (not-false _ (none_on (not (is_unmade (phase_of st.phases t.0))) (Taken t) [] fine).0) in
        record {
          phase = set_other t.0 (Populating (record { 0 = p })) (other_heap t.0 Unmade unmade (λ e. cc e));
          bytes = phase_bytes st t.0 (Populating (record { 0 = p })) (shared s) (sym (ap is_absorbed unmade));
        }
    effect_stays (Freeze t root') fine = freeze_stays t.0 (register st.registers p root'.0) fine
    effect_stays Exit fine = exit_stays_frozen
    effect_stays (Kill q) fine = kill_stays_frozen q.0
    effect_stays _ fine = record { phase = refl; bytes = refl }

    unless_stays : (f : Option Fault) (op : Op) → first_fault (faults trace st p op) ≡ f → StaysFrozen trace st (effect_unless f trace p op st) s
    unless_stays None op e = effect_stays op e
    unless_stays (Some f) op e = record { phase = refl; bytes = refl }

    pub operation_stays : (op : Op) → StaysFrozen trace st (after_operation trace p op st) s
    unfolding after_operation count_done
    operation_stays op = let stays = unless_stays (first_fault (faults trace st p op)) op refl in record { phase = stays.phase; bytes = stays.bytes }

  phase_in : Option Phase → Phase
  phase_in None = Unmade
  phase_in (Some phase) = phase

  part_phase : (st after : State) (s : ℕ) → part trace after (shared s) ≡ part trace st (shared s) → phase_of after.phases s ≡ phase_of st.phases s
  unfolding part phase_in
  part_phase st after s same = ap (λ (c : CellPart). phase_in c.phase) same

  untouched_stays : (st : State) (event : Event) (s : ℕ) → IsPossible trace st event → IsFalse (touches trace st event (shared s)) → StaysFrozen trace st (step trace st event) s
  untouched_stays st event s may apart =
      let same = frame trace st event (shared s) may apart in
      record { phase = part_phase st (step trace st event) s same; bytes = part_bytes st (step trace st event) (shared s) same }

  or_none : (b : Bool) → b ≡ false → (b || false) ≡ false
  or_none b e = ap (λ b. b || false) e

  pub stays_frozen : (st : State) (event : Event) (s : ℕ) (root : Name) → IsSound trace st → IsPossible trace st event → phase_of st.phases s ≡ Frozen root →
      StaysFrozen trace st (step trace st event) s ⊎ (event ≡ Absorbed (record { 0 = s }))
  unfolding step cells_touched
  stays_frozen st (Done pid op said) s root sound may frozen = inl (operation_stays st pid.0 s root may.known may.lives frozen op)
  stays_frozen st (Ended h a b c d) s root sound may frozen =
      inl (untouched_stays st (Ended h a b c d) s may
      (or_none _ (false_from_ne_true _ (λ same. false≢true (sym (ap is_some (sound.scans.none_shared s)) ∙ ap (is_scanned st.scans) (sym (heap_eq-true h (shared s) same)) ∙ may.scanned)))))
  stays_frozen st (Absorbed t) s root sound may frozen =
      elim (cases_eq t.0 s) [
        | inl same ↦ inr (ap (λ k. Absorbed (record { 0 = k })) same)
        | inr apart ↦ inl (untouched_stays st (Absorbed t) s may (or_none _ (ne_eqb t.0 s apart)))
      ]
  stays_frozen st Closing s root sound may frozen = inl (untouched_stays st Closing s may refl)
