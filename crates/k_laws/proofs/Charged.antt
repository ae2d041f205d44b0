-- What each process is charged after an operation.
use Rattle.std.proofs.Common.{◌≡◌, ℕ, ◌+◌, ◌*◌, ◌<◌, ◌==◌, not, Bool, true, false, cond, refl, sym, ap, ap₂, ◌∙◌, List, [], ◌∷◌, ◌++◌, filter, Option, Some, None, arith, IsFalse}
use Rattle.std.proofs.lemmas.Bool.{false≢true, not-false}
use Rattle.k_types.specs.declared.names.Name.{Name}
use Rattle.k_types.specs.declared.names.Pid.{Pid}
use Rattle.k_types.specs.declared.names.TypeId.{TypeId}
use Rattle.k_types.specs.declared.names.Heap.{Heap}
use Rattle.k_types.specs.declared.names.Heap.TheVariants.{Kernel, Shared}
use Rattle.k_types.specs.declared.names.Phase.{Phase}
use Rattle.k_types.specs.declared.names.Phase.TheVariants.{Unmade, Populating, Frozen}
use Rattle.k_types.specs.declared.op.Op.{Op}
use Rattle.k_types.specs.declared.op.Op.TheVariants.{New, KNew, SNew, Store, Put, Share, Freeze, Attach, Exit, Kill}
use Rattle.k_types.specs.declared.event.Fault.{Fault}
use Rattle.k_types.specs.declared.event.Fault.TheVariants.{Segv, NotPopulating, Taken}
use Rattle.k_types.specs.declared.event.Reply.{Reply}
use Rattle.k_types.specs.declared.event.Event.TheVariants.{Done}
use Rattle.k_types.specs.Names.{heap_eq, among}
use Rattle.k_types.specs.Trace.{Trace, process_count, limit_of, kinds_of, size_of_type}
use Rattle.k_types.specs.TraceRules.{AreLimits, ends_a_process, is_resize}
use Rattle.k_types.specs.State.{State, Content, Refers, Holds, Sharing, has_share, register}
use Rattle.k_types.specs.Owners.{owner_of, user, shared, bytes_by, bytes_of, charge_of, charge_by, phase_of, is_absorbed}
use Rattle.k_types.specs.Limits.{limits_in, with_maxima, use_of, use_by, path_of}
use Rattle.k_types.specs.Updates.{create, write, add_exit, set_register, open_scan, set_phase, add_share, set_max, count_done}
use Rattle.k_types.specs.Replies.{first_fault, faults, fault_where, at_base, is_populating, is_unmade}
use Rattle.k_types.specs.Effects.{step, effect, effect_unless, after_operation, after_store, after_put, after_freeze, with_exit_of_store}
use Rattle.k_types.specs.Steps.{IsPossible}
use Rattle.k_types.specs.Sound.{IsSound}
use Rattle.k_laws.specs.Charges.{bytes_charged, bytes_added, charged_unless}
use Rattle.k_types.proofs.Sums.{bit, sum_same}
use Rattle.k_laws.proofs.Bytes.{bytes-written}
use Rattle.k_laws.proofs.FrameSteps.{none_on}
use Rattle.k_laws.proofs.OwnerOf.{owner_user, owner_kernel, owner_shared}
use Rattle.k_laws.proofs.Raised.{charge_added, charge_shared_added, charge_sharing}
use Rattle.k_laws.proofs.SoundNew.{bytes_after}
use Rattle.k_laws.proofs.SoundShare.{owner_kept}
use Rattle.k_laws.proofs.SoundSharing.{bytes_none}
use Rattle.k_laws.proofs.SoundEffects.{is_populating_by, is_unmade_so}
use Rattle.k_laws.proofs.UsesRaised.{uses_raised}
use Rattle.k_laws.proofs.Constant.{step_maxima}

-- the same bytes in all user heaps and shared heaps are the same charges
pub charge_same : (b c : Heap → ℕ) (ended : List ℕ) (shares : List Sharing) → ((q : ℕ) → b (user q) ≡ c (user q)) → ((s : ℕ) → b (shared s) ≡ c (shared s)) → (q : ℕ) →
    charge_by b ended shares q ≡ charge_by c ended shares q
charge_same b c ended shares users heaps q =
    ap₂ (λ x y. cond (among q ended) 0 (x + y)) (users q) (sum_same (λ e. b (shared e.heap)) (λ e. c (shared e.heap)) (λ e. heaps e.heap) (filter (λ e. e.process == q) shares))

nothing_more : (a b : ℕ) (t : Bool) → a ≡ b → a ≡ b + 0 * bit t
nothing_more a b t e = omega (arith, e)

-- an object in the kernel's heap is charged to nobody
pub charge_of_kernel_new : (trace : Trace) (st : State) (ty : TypeId) (q : ℕ) → charge_of trace (create 0 ty (kinds_of trace ty) st) q ≡ charge_of trace st q
unfolding create
charge_of_kernel_new trace st ty q = charge_same (bytes_of trace (create 0 ty (kinds_of trace ty) st)) (bytes_of trace st) st.ended st.shares (λ k. same (user k) refl) (λ k. same (shared k) refl) q
  where
    same : (h : Heap) → IsFalse (heap_eq Kernel h) → bytes_of trace (create 0 ty (kinds_of trace ty) st) h ≡ bytes_of trace st h
    same h apart =
        bytes_after trace st 0 ty h ∙ ap (λ own. bytes_of trace st h + size_of_type trace ty * bit (heap_eq own h)) (owner_kernel trace st)
        ∙ ap (λ b. bytes_of trace st h + size_of_type trace ty * bit b) apart ∙ (omega arith)

module _ (trace : Trace) (st : State) (p : ℕ) (sound : IsSound trace st) (known : p < process_count trace) (lives : IsFalse (among p st.ended)) where
  abbrev pub Same : State → ℕ → Type 0
  Same su q = charge_of trace su q ≡ charge_of trace st q + 0 * bit (q == p)

  pub new_charge : (ty : TypeId) (q : ℕ) → charge_of trace (create (p + 1) ty (kinds_of trace ty) st) q ≡ charge_of trace st q + size_of_type trace ty * bit (q == p)
  unfolding create
  new_charge ty q = charge_added (bytes_of trace st) (bytes_of trace (create (p + 1) ty (kinds_of trace ty) st)) st.ended st.shares p (size_of_type trace ty) lives
      (λ h. bytes_after trace st (p + 1) ty h ∙ ap (λ own. bytes_of trace st h + size_of_type trace ty * bit (heap_eq own h)) (owner_user trace st p known lives)) q

  knew_charge : (ty : TypeId) (q : ℕ) → Same (create 0 ty (kinds_of trace ty) st) q
  knew_charge ty q = nothing_more _ _ (q == p) (charge_of_kernel_new trace st ty q)

  pub snew_charge : (s : ℕ) (pid : Pid) (ty : TypeId) → phase_of st.phases s ≡ Populating pid → pid.0 ≡ p → (q : ℕ) →
      charge_of trace (create (1 + process_count trace + s) ty (kinds_of trace ty) st) q ≡ charge_of trace st q + size_of_type trace ty * bit (q == p)
  unfolding create
  snew_charge s pid ty phase is q =
      let own : owner_of trace st (1 + process_count trace + s) ≡ shared s = owner_shared trace st s (ap is_absorbed phase) in
      charge_shared_added (bytes_of trace st) (bytes_of trace (create (1 + process_count trace + s) ty (kinds_of trace ty) st)) st.ended st.shares p s (size_of_type trace ty) lives
      sound.shape.distinct_shares (ap (λ k. has_share st.shares k s) (sym is) ∙ sound.phases.populated s pid phase (ap (λ k. among k st.ended) is ∙ lives))
      (λ k t. sound.phases.populating s pid k phase t ∙ is)
      (λ h. bytes_after trace st (1 + process_count trace + s) ty h ∙ ap (λ o. bytes_of trace st h + size_of_type trace ty * bit (heap_eq o h)) own) q

  write_charge : (su : State) (x : Name) (i : ℕ) (c : Content) (q : ℕ) → charge_of trace (write x i c su) q ≡ charge_of trace su q
  unfolding write
  write_charge su x i c q = charge_same (bytes_of trace (write x i c su)) (bytes_of trace su) su.ended su.shares
      (λ k. bytes-written (owner_of trace su) (user k) x i c su.objects) (λ k. bytes-written (owner_of trace su) (shared k) x i c su.objects) q

  link_charge : (x : Name) (v : Option Name) (q : ℕ) → charge_of trace (with_exit_of_store trace x v st) q ≡ charge_of trace st q
  unfolding with_exit_of_store add_exit
  link_charge x None q = refl
  link_charge x (Some y) q = elim (heap_eq (owner_of trace st x.seg.0) (owner_of trace st y.seg.0)) as (λ b. charge_of trace (cond b st (add_exit (owner_of trace st x.seg.0) y st)) q ≡ charge_of trace st q) [ true ↦ refl | false ↦ refl ]

  store_charge : (x : Option Name) (i : ℕ) (v : Option Name) (q : ℕ) → charge_of trace (after_store trace x i v st) q ≡ charge_of trace st q
  unfolding after_store
  store_charge None i v q = refl
  store_charge (Some x) i v q = write_charge (with_exit_of_store trace x v st) x i (Refers v) q ∙ link_charge x v q

  put_charge : (x : Option Name) (i n : ℕ) (q : ℕ) → charge_of trace (after_put x i n st) q ≡ charge_of trace st q
  unfolding after_put
  put_charge None i n q = refl
  put_charge (Some x) i n q = write_charge st x i (Holds n) q

  phase_charge : (s : ℕ) (phase : Phase) → is_absorbed phase ≡ is_absorbed (phase_of st.phases s) → (q : ℕ) → charge_of trace (set_phase s phase st) q ≡ charge_of trace st q
  unfolding set_phase
  phase_charge s phase same q = ap (λ own. charge_by (λ h. bytes_by own h st.objects) st.ended st.shares q) (owner_kept trace st s phase same)

  freeze_charge : (s : ℕ) (root : Option Name) (pid : Pid) → phase_of st.phases s ≡ Populating pid → (q : ℕ) → charge_of trace (after_freeze s root st) q ≡ charge_of trace st q
  unfolding after_freeze
  freeze_charge s None pid phase q = refl
  freeze_charge s (Some root) pid phase q = phase_charge s (Frozen root) (sym (ap is_absorbed phase)) q

  freeze_nothing : (s : ℕ) → after_freeze s None st ≡ st
  unfolding after_freeze
  freeze_nothing s = refl

  pub attach_charge : (s q : ℕ) → charge_of trace (add_share p s st) q ≡ charge_of trace st q + cond (has_share st.shares p s) 0 (bytes_of trace st (shared s)) * bit (q == p)
  unfolding add_share
  attach_charge s q =
      elim (has_share st.shares p s) as (λ b. charge_by (bytes_of trace st) st.ended (cond b st.shares (st.shares ++ record { process = p; heap = s } ∷ [])) q ≡ charge_of trace st q + cond b 0 (bytes_of trace st (shared s)) * bit (q == p)) [
        | true ↦ nothing_more _ _ (q == p) refl
        | false ↦ charge_sharing (bytes_of trace st) st.ended st.shares p s lives q
      ]

  pub share_charge : (s q : ℕ) (pid : Pid) → phase_of st.phases s ≡ Unmade → Same (add_share p s (set_phase s (Populating pid) st)) q
  unfolding add_share set_phase
  share_charge s q pid unmade =
      let own = owner_kept trace st s (Populating pid) (sym (ap is_absorbed unmade)) in
      let none = bytes_none (owner_of trace st) (shared s) st.objects (λ n there. sound.phases.unmade_objects s n unmade there) in
      ap (λ own. charge_by (λ h. bytes_by own h st.objects) st.ended (cond (has_share st.shares p s) st.shares (st.shares ++ record { process = p; heap = s } ∷ [])) q) own
      ∙ attach_none none
    where
      attach_none : bytes_of trace st (shared s) ≡ 0 → charge_by (bytes_of trace st) st.ended (cond (has_share st.shares p s) st.shares (st.shares ++ record { process = p; heap = s } ∷ [])) q ≡ charge_of trace st q + 0 * bit (q == p)
      attach_none none =
          elim (has_share st.shares p s) as (λ b. charge_by (bytes_of trace st) st.ended (cond b st.shares (st.shares ++ record { process = p; heap = s } ∷ [])) q ≡ charge_of trace st q + 0 * bit (q == p)) [
            | true ↦ nothing_more _ _ (q == p) refl
            | false ↦ charge_sharing (bytes_of trace st) st.ended st.shares p s lives q ∙ ap (λ n. charge_of trace st q + n * bit (q == p)) none
          ]

  effect_charges : (op : Op) → IsFalse (ends_a_process op) → first_fault (faults trace st p op) ≡ None → (q : ℕ) →
      charge_of trace (effect trace p op st) q ≡ charge_of trace st q + bytes_charged trace st p op * bit (q == p)
  unfolding effect faults set_register open_scan set_max
  effect_charges (New r ty) other fine q = new_charge ty q
  effect_charges (KNew r ty) other fine q = knew_charge ty q
  effect_charges (SNew r s ty) other fine q =
      let phase = is_populating_by (phase_of st.phases s.0) p (not-false _ (none_on (not (is_populating (phase_of st.phases s.0) p)) (NotPopulating s) _ fine).0) in
      snew_charge s.0 phase.0 ty phase.1 phase.2 q
  effect_charges (Store base i value) other fine q = nothing_more _ _ (q == p) (store_charge (register st.registers p base.0) i (register st.registers p value.0) q)
  effect_charges (Put base i number) other fine q = nothing_more _ _ (q == p) (put_charge (register st.registers p base.0) i number q)
  effect_charges (Share s) other fine q =
      share_charge s.0 q (record { 0 = p }) (is_unmade_so (phase_of st.phases s.0) (not-false _ (none_on (not (is_unmade (phase_of st.phases s.0))) (Taken s) [] fine).0))
  effect_charges (Freeze s root) other fine q = nothing_more _ _ (q == p) (go (register st.registers p root.0) fine)
    where
      go : (b : Option Name) → first_fault (at_base b (λ x. fault_where (not (heap_eq (owner_of trace st x.seg.0) (Shared s))) Segv ∷ fault_where (not (is_populating (phase_of st.phases s.0) p)) (NotPopulating s) ∷ [])) ≡ None →
          charge_of trace (after_freeze s.0 b st) q ≡ charge_of trace st q
      go None e = ap (λ su. charge_of trace su q) (freeze_nothing s.0)
      go (Some x) e =
          let inside = none_on (not (heap_eq (owner_of trace st x.seg.0) (Shared s))) Segv _ e in
          let phase = is_populating_by (phase_of st.phases s.0) p (not-false _ (none_on (not (is_populating (phase_of st.phases s.0) p)) (NotPopulating s) [] inside.1).0) in
          freeze_charge s.0 (Some x) phase.0 phase.1 q
  effect_charges (Attach r s) other fine q = attach_charge s.0 q
  effect_charges Exit other fine q = absurd (false≢true (sym other))
  effect_charges (Kill k) other fine q = absurd (false≢true (sym other))
  effect_charges _ other fine q = nothing_more _ _ (q == p) refl

  pub operation_charges : (op : Op) → IsFalse (ends_a_process op) → (q : ℕ) → charge_of trace (after_operation trace p op st) q ≡ charge_of trace st q + bytes_added trace st p op * bit (q == p)
  unfolding after_operation count_done
  operation_charges op other q = go (first_fault (faults trace st p op)) refl
    where
      go : (f : Option Fault) → first_fault (faults trace st p op) ≡ f → charge_of trace (effect_unless f trace p op st) q ≡ charge_of trace st q + charged_unless f (bytes_charged trace st p op) * bit (q == p)
      go None e = effect_charges op other e q
      go (Some f) e = nothing_more _ _ (q == p) refl

-- the uses rise on the path of the process's limit alone
pub operation_uses : (trace : Trace) → AreLimits trace → (st : State) (pid : Pid) (op : Op) (said : Reply) → IsSound trace st → IsPossible trace st (Done pid op said) → IsFalse (ends_a_process op) → IsFalse (is_resize op) → (m : ℕ) →
    use_of trace (step trace st (Done pid op said)) m ≡ use_of trace st m + cond (among m (path_of (limits_in trace st) (limit_of trace pid.0))) (bytes_added trace st pid.0 op) 0
unfolding step
operation_uses trace rules_hold st pid op said sound may other fixed m =
    ap (λ maxima. use_by trace (with_maxima trace.limits maxima) (charge_of trace (after_operation trace pid.0 op st)) m) (step_maxima trace st (Done pid op said) fixed)
    ∙ uses_raised trace rules_hold st pid.0 (bytes_added trace st pid.0 op) (charge_of trace st) (charge_of trace (after_operation trace pid.0 op st)) may.known
    (operation_charges trace st pid.0 sound may.known may.lives op other) m
