-- What the end of a process leaves, and that no event of another raises what a process is charged.
use Rattle.std.proofs.Common.{◌≡◌, ◌≢◌, ℕ, ◌+◌, ◌*◌, ◌<◌, ◌≤◌, ◌==◌, ◌||◌, ◌&&◌, not, Bool, true, false, cond, refl, sym, ap, ap₂, ◌∙◌, [], ◌∷◌, ◌++◌, filter, length, replicate, get_or-set_same, get_or-set_other, Option, Some, None, subst, ltb-true, arith, ne_eqb, eq-eqb, eqb-true, inl, inr, IsTrue, IsFalse, le_refl, le_of_eq}
use Rattle.std.proofs.lemmas.Bool.{false≢true, cases_Bool, cases_eq, or_left, or_right, not_from_false, and_right, and_parts, not-true}
use Rattle.std.proofs.lemmas.List.Folds.{list_any-append}
use Rattle.k_types.specs.declared.names.Heap.{Heap}
use Rattle.k_types.specs.declared.names.Pid.{Pid}
use Rattle.k_types.specs.declared.event.Reply.{Reply}
use Rattle.k_types.specs.declared.names.Heap.TheVariants.{Kernel, User}
use Rattle.k_types.specs.declared.op.Op.{Op}
use Rattle.k_types.specs.declared.op.Op.TheVariants.{Exit, Kill}
use Rattle.k_types.specs.declared.event.Fault.{Fault}
use Rattle.k_types.specs.declared.event.Event.{Event}
use Rattle.k_types.specs.declared.event.Event.TheVariants.{Done, Ended, Absorbed as AbsorbedEvent, Closing}
use Rattle.k_types.specs.Names.{heap_eq, among}
use Rattle.k_types.specs.Totals.{total}
use Rattle.k_types.specs.Trace.{Trace, process_count}
use Rattle.k_types.specs.TraceRules.{AreLimits, ends_a_process}
use Rattle.k_types.specs.State.{State, has_share, is_scanned}
use Rattle.k_types.specs.Owners.{owner_of, user, shared, bytes_by, bytes_of, charge_of, object_bytes, phase_of}
use Rattle.k_types.specs.Replies.{first_fault, fault_where, faults, ends_other}
use Rattle.k_types.specs.Limits.{is_above}
use Rattle.k_types.specs.Updates.{count_done, set_phase, open_scan, close, close_scan, keep_objects, keep_exits, keep_shares, clear_registers, end_process, turn_exits}
use Rattle.k_types.specs.Effects.{step, effect, effect_unless, after_operation, after_end_of, after_kill, after_ended, after_absorbed, after_closing, survives, share_stays}
use Rattle.k_types.specs.Steps.{IsPossible, is_live, has_sharer, in_range}
use Rattle.k_types.specs.Sound.{IsSound}
use Rattle.k_laws.specs.Changes.{MayAbsorb, MayExit}
use Rattle.k_laws.specs.Charges.{is_done_by, bytes_added}
use Rattle.k_laws.specs.Termination.{CreditsTheCharge, LeavesTheRest}
use Rattle.k_types.proofs.Sums.{bit, sum_same}
use Rattle.k_laws.proofs.ElsewhereOther.{among-push, owner_ended, owned_agree}
use Rattle.k_laws.proofs.Kept.{has_share-kept}
use Rattle.k_laws.proofs.SoundAbsorbed.{bytes_fewer, merged_fewer, is_merged}
use Rattle.k_laws.proofs.SoundCollected.{bytes-kept}
use Rattle.k_laws.proofs.Uses.{charge_less, charged_less}
use Rattle.k_laws.proofs.UsesRaised.{uses_raised}
use Rattle.k_laws.proofs.Charged.{operation_charges}
use Rattle.k_types.proofs.Lists.{none_is, filter_stronger}
use Rattle.k_types.specs.Cells.{cells_touched, other_cells}
use Rattle.std.specs.List.{list_all}

module _ (trace : Trace) (st : State) (p : ℕ) where
  own_ended : IsTrue (among p (st.ended ++ p ∷ []))
  own_ended = list_any-append (λ m. m == p) st.ended (p ∷ []) ∙ or_right _ _ (or_left (p == p) false (eq-eqb p p refl))

  pub own_charge : charge_of trace (after_end_of trace p st) p ≡ 0
  unfolding after_end_of end_process clear_registers keep_shares turn_exits
  own_charge = ap (λ b. cond b 0 (bytes_of trace (after_end_of trace p st) (user p) + total (λ e. bytes_of trace (after_end_of trace p st) (shared e.heap)) (filter (λ e. e.process == p) (filter (λ e. not (e.process == p)) st.shares)))) own_ended

  pub same_bytes : (h : Heap) → IsFalse (heap_eq (user p) h) → IsFalse (heap_eq Kernel h) → bytes_of trace (after_end_of trace p st) h ≡ bytes_of trace st h
  unfolding after_end_of end_process clear_registers keep_shares turn_exits bytes_by
  same_bytes h apart kernel = ap (total object_bytes)
      (owned_agree (owner_of trace st) (owner_of trace (after_end_of trace p st)) h (λ seg. owner_ended (process_count trace) st.ended st.phases p seg h apart kernel) st.objects)

  pub other_charge : (q : ℕ) → q ≢ p → charge_of trace (after_end_of trace p st) q ≡ charge_of trace st q
  unfolding after_end_of end_process clear_registers keep_shares turn_exits
  other_charge q ne =
      ap (λ b. cond b 0 (bytes_of trace (after_end_of trace p st) (user q) + total (λ e. bytes_of trace (after_end_of trace p st) (shared e.heap)) (filter (λ e. e.process == q) (filter (λ e. not (e.process == p)) st.shares))))
      (among-push st.ended p q (λ e. ne (sym e)))
      ∙ ap₂ (λ x y. cond (among q st.ended) 0 (x + y)) (same_bytes (user q) (ne_eqb p q (λ e. ne (sym e))) refl)
      (ap (total (λ e. bytes_of trace (after_end_of trace p st) (shared e.heap)))
      (filter_stronger (λ e. e.process == q) (λ e. not (e.process == p)) (λ e t. not_from_false _ (ne_eqb e.process p (λ same. ne (sym (eqb-true e.process q t) ∙ same)))) st.shares)
      ∙ sum_same (λ e. bytes_of trace (after_end_of trace p st) (shared e.heap)) (λ e. bytes_of trace st (shared e.heap)) (λ e. same_bytes (shared e.heap) refl refl) (filter (λ e. e.process == q) st.shares))

  pub credits : AreLimits trace → p < process_count trace → CreditsTheCharge trace st p (after_end_of trace p st)
  unfolding after_end_of end_process clear_registers keep_shares turn_exits
  credits rules_hold known = record {
    own = own_charge;
    others = other_charge;
    uses = λ m. uses_raised trace rules_hold st p (charge_of trace st p) (charge_of trace (after_end_of trace p st)) (charge_of trace st) known more m;
  }
    where
      more : (q : ℕ) → charge_of trace st q ≡ charge_of trace (after_end_of trace p st) q + charge_of trace st p * bit (q == p)
      more q = elim (cases_eq q p) [
        | inl e ↦ rw (eq-eqb q p e) (let own = own_charge in let same = ap (charge_of trace st) e in let now = ap (charge_of trace (after_end_of trace p st)) e in omega arith)
        | inr ne ↦ rw (ne_eqb q p ne) (let same = other_charge q ne in omega arith)
      ]

  pub leaves_rest : p < length st.registers → LeavesTheRest st p (after_end_of trace p st)
  unfolding after_end_of end_process clear_registers keep_shares turn_exits
  leaves_rest known = record {
    objects = refl;
    made = refl;
    done = refl;
    phases = refl;
    scans = refl;
    closed = refl;
    maxima = refl;
    ended = λ q. list_any-append (λ m. m == q) st.ended (p ∷ []) ∙ ap (λ b. among q st.ended || b) (or_nothing (p == q));
    registers = get_or-set_same st.registers p (replicate 16 None) [] known;
    other_registers = λ q ne. get_or-set_other st.registers p q (replicate 16 None) [] ne;
    shares = λ s. has_share-kept (λ e. not (e.process == p)) st.shares p s ∙ ap (λ b. has_share st.shares p s && not b) (eq-eqb p p refl) ∙ and_right _ _ refl;
    other_shares = λ q s ne. has_share-kept (λ e. not (e.process == p)) st.shares q s ∙ ap (λ b. has_share st.shares q s && not b) (ne_eqb q p ne) ∙ and_true (has_share st.shares q s);
  }
    where
      or_nothing : (b : Bool) → (b || false) ≡ b
      or_nothing true = refl
      or_nothing false = refl

      and_true : (b : Bool) → (b && true) ≡ b
      and_true true = refl
      and_true false = refl

-- an exit is never refused, and does what the end of its process does
pub exit_event : (trace : Trace) (st : State) (pid : Pid) (said : Reply) → step trace st (Done pid Exit said) ≡ count_done pid.0 (after_end_of trace pid.0 st)
unfolding step after_operation faults first_fault effect
exit_event trace st pid said = refl

pub exit_credits : (trace : Trace) (st : State) (pid : Pid) (said : Reply) → AreLimits trace → IsPossible trace st (Done pid Exit said) → CreditsTheCharge trace st pid.0 (step trace st (Done pid Exit said))
unfolding step after_operation faults first_fault effect count_done
exit_credits trace st pid said limits may =
    let credit = credits trace st pid.0 limits may.known in
    record { own = credit.own; others = credit.others; uses = credit.uses }

-- the end of a process raises nobody's charge
killed_charge : (trace : Trace) (st : State) (p q : ℕ) → charge_of trace (after_kill trace p st) q ≤ charge_of trace st q
unfolding after_kill
killed_charge trace st p q =
    elim (among p st.ended) as (λ b. charge_of trace (cond b st (after_end_of trace p st)) q ≤ charge_of trace st q) [
      | true ↦ le_refl (charge_of trace st q)
      | false ↦ elim (cases_eq q p) [
        | inl e ↦ subst (λ k. charge_of trace (after_end_of trace p st) k ≤ charge_of trace st k) (sym e) (let gone = own_charge trace st p in omega (arith, gone))
        | inr ne ↦ le_of_eq (other_charge trace st p q ne)
      ]
    ]

-- a kill that ends its target does what the end of the target does, and counts as done
pub kill_event : (trace : Trace) (st : State) (pid target : Pid) (said : Reply) → IsTrue (ends_other trace st pid.0 target.0) →
    step trace st (Done pid (Kill target) said) ≡ count_done pid.0 (after_end_of trace target.0 st)
unfolding step after_operation faults first_fault fault_where effect after_kill
kill_event trace st pid target said ends =
    let parts = and_parts (is_above trace pid.0 target.0) (not (among target.0 st.ended)) ends in
    rw (parts.0, not-true _ parts.1) refl

-- a kill of a process that has ended changes nothing
pub idle_kill_event : (trace : Trace) (st : State) (pid target : Pid) (said : Reply) → IsTrue (among target.0 st.ended) → step trace st (Done pid (Kill target) said) ≡ count_done pid.0 st
unfolding step after_operation effect after_kill
idle_kill_event trace st pid target said ended = ap (count_done pid.0) (go (first_fault (faults trace st pid.0 (Kill target))))
  where
    go : (f : Option Fault) → effect_unless f trace pid.0 (Kill target) st ≡ st
    go None = ap (λ b. cond b st (after_end_of trace target.0 st)) ended
    go (Some f) = refl

-- whoever a possible kill ends may end: nothing of its heap or of the kernel's is scanned
pub may_end_other : (trace : Trace) (st : State) (pid target : Pid) (said : Reply) → IsPossible trace st (Done pid (Kill target) said) → IsTrue (ends_other trace st pid.0 target.0) → MayExit trace st target.0
unfolding cells_touched other_cells in_range
may_end_other trace st pid target said may ends =
    let all = and_parts (not (is_scanned st.scans (user pid.0))) _ may.idle in
    let idle = ap (λ b. list_all (λ c. not (is_scanned st.scans c)) (cond b (User target ∷ Kernel ∷ []) [])) (sym ends) ∙ all.1 in
    let parts = and_parts (not (is_scanned st.scans (User target))) (list_all (λ c. not (is_scanned st.scans c)) (Kernel ∷ [])) idle in
    record {
      known = ltb-true _ _ may.in_range;
      lives = not-true _ (and_parts (is_above trace pid.0 target.0) (not (among target.0 st.ended)) ends).1;
      idle = none_is _ (not-true _ parts.0);
      kernel_idle = none_is _ (not-true _ (and_parts (not (is_scanned st.scans Kernel)) true parts.1).0);
    }

pub kill_credits : (trace : Trace) (st : State) (pid target : Pid) (said : Reply) → AreLimits trace → IsPossible trace st (Done pid (Kill target) said) → IsTrue (ends_other trace st pid.0 target.0) →
    CreditsTheCharge trace st target.0 (step trace st (Done pid (Kill target) said))
unfolding count_done in_range
kill_credits trace st pid target said limits may ends =
    let credit = credits trace st target.0 limits (ltb-true _ _ may.in_range) in
    subst (CreditsTheCharge trace st target.0) (sym (kill_event trace st pid target said ends)) (record { own = credit.own; others = credit.others; uses = credit.uses })

-- no event but an operation of the process itself raises what it is charged
pub others_never_raise : (trace : Trace) (st : State) (event : Event) (q : ℕ) → IsSound trace st → IsPossible trace st event → IsFalse (is_done_by event q) → charge_of trace (step trace st event) q ≤ charge_of trace st q
unfolding step after_operation count_done after_ended keep_objects keep_exits keep_shares close_scan after_absorbed set_phase after_closing close open_scan faults first_fault effect
others_never_raise trace st (Done pid op said) q sound may other =
    elim (cases_Bool (ends_a_process op)) [
      | inl ends ↦ exits op ends
      | inr stays ↦ le_of_eq (operation_charges trace st pid.0 sound may.known may.lives op stays q ∙ ap (λ b. charge_of trace st q + bytes_added trace st pid.0 op * bit b) apart ∙ (omega arith))
    ]
  where
    apart : (q == pid.0) ≡ false
    apart = ne_eqb q pid.0 (λ e. false≢true (sym other ∙ eq-eqb pid.0 q (sym e)))

    exits : (op : Op) → IsTrue (ends_a_process op) → charge_of trace (after_operation trace pid.0 op st) q ≤ charge_of trace st q
    exits Exit t = le_of_eq (other_charge trace st pid.0 q (λ e. false≢true (sym other ∙ eq-eqb pid.0 q (sym e))))
    exits (Kill target) t = kills (first_fault (faults trace st pid.0 (Kill target)))
      where
        kills : (f : Option Fault) → charge_of trace (effect_unless f trace pid.0 (Kill target) st) q ≤ charge_of trace st q
        kills (Some f) = le_refl (charge_of trace st q)
        kills None = killed_charge trace st target.0 q
    exits _ t = absurd (false≢true t)
others_never_raise trace st (Ended h a b c d) q sound may other =
    charge_less (bytes_of trace (after_ended trace h st)) (bytes_of trace st) st.ended (share_stays trace st h) st.shares (λ g. bytes-kept (owner_of trace st) g (survives trace st h) st.objects) q
others_never_raise trace st (AbsorbedEvent s) q sound may other =
    charged_less (bytes_of trace (after_absorbed trace s.0 st)) (bytes_of trace st) st.ended st.shares (λ k. fewer (user k) refl) (λ k. fewer (shared k) refl) q
  where
    fewer : (h : Heap) → IsFalse (heap_eq Kernel h) → bytes_by (owner_of trace (after_absorbed trace s.0 st)) h st.objects ≤ bytes_by (owner_of trace st) h st.objects
    fewer h kernel = bytes_fewer (owner_of trace st) (owner_of trace (after_absorbed trace s.0 st)) h
        (λ seg t. merged_fewer (shared s.0) h (owner_of trace st seg) kernel (ap (λ k. heap_eq k h) (sym (is_merged trace st s.0 sound may_absorb seg)) ∙ t)) st.objects
      where
        may_absorb : MayAbsorb trace st s.0
        may_absorb = record {
          known = may.known;
          no_sharer = not-true _ (and_parts (is_live (phase_of st.phases s.0)) (not (has_sharer st.shares s.0)) may.orphan).1;
          idle = none_is _ may.idle;
        }
others_never_raise trace st Closing q sound may other = le_refl (charge_of trace st q)
