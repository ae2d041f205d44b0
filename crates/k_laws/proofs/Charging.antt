-- Which events change a charge, and by how much the end of a collection does.
use Rattle.std.proofs.Common.{◌≡◌, ◌≢◌, ℕ, ◌+◌, ◌*◌, ◌<◌, ◌==◌, ◌&&◌, not, Bool, true, false, cond, refl, sym, ap, ap₂, ◌∙◌, inl, inr, List, [], ◌∷◌, filter, is_some, arith, eqb-true, ne_eqb, eq-eqb, IsTrue, IsFalse, Option, Some, None}
use Rattle.std.proofs.lemmas.Bool.{and_parts, cases_Bool, cases_eq, false≢true, false_from_ne_true, not-true, or_left, or_parts}
use Rattle.k_types.specs.declared.names.Heap.{Heap}
use Rattle.k_types.specs.declared.names.Heap.TheVariants.{Kernel}
use Rattle.k_types.specs.declared.op.Op.{Op}
use Rattle.k_types.specs.declared.op.Op.TheVariants.{Exit, Kill}
use Rattle.k_types.specs.declared.event.Event.{Event}
use Rattle.k_types.specs.declared.event.Event.TheVariants.{Done, Ended, Absorbed, Closing}
use Rattle.k_types.specs.Names.{among, heap_eq}
use Rattle.k_types.specs.Numbers.{numbers_below}
use Rattle.k_types.specs.Totals.{total}
use Rattle.k_types.specs.Trace.{Trace, limit_of, process_count}
use Rattle.k_types.specs.TraceRules.{AreLimits, ends_a_process}
use Rattle.k_types.specs.State.{State, Sharing, has_share, is_scanned}
use Rattle.k_types.specs.Owners.{bytes_by, bytes_of, charge_of, object_bytes, phase_of, shared, user}
use Rattle.k_types.specs.Limits.{limits_in, path_of, use_of}
use Rattle.k_types.specs.Cells.{CellPart, part}
use Rattle.k_types.specs.Replies.{faults, first_fault}
use Rattle.k_types.specs.Updates.{close, close_scan, count_done, keep_exits, keep_objects, keep_shares, open_scan, set_phase}
use Rattle.k_types.specs.Effects.{after_absorbed, after_closing, after_ended, after_operation, effect, share_stays, step, after_kill, after_end_of, effect_unless}
use Rattle.k_types.specs.Steps.{IsPossible, has_sharer, is_live}
use Rattle.k_types.specs.Sound.{IsSound}
use Rattle.k_laws.specs.Charges.{bytes_added, is_done_by}
use Rattle.k_laws.proofs.ElsewhereOther.{absorbed_elsewhere, collected_elsewhere}
use Rattle.k_laws.proofs.Kept.{any-fewer, distinct_shares-kept}
use Rattle.k_types.proofs.NameTests.{heap_eq-true}
use Rattle.k_types.proofs.Sums.{bit, sum_both, sum_same}
use Rattle.k_laws.proofs.Charged.{operation_charges}
use Rattle.k_laws.proofs.Ending.{other_charge}
use Rattle.k_laws.proofs.UsesRaised.{uses_raised}
use Rattle.k_laws.proofs.SharedSums.{shares_sum}
use Rattle.k_laws.specs.Kept.{Credits, bytes_dropped, is_end_of, is_kill_of}
use Rattle.k_laws.proofs.EndNumbers.{numbers_are_right}
use Rattle.k_types.specs.declared.event.Fault.{Fault}
use Rattle.k_types.proofs.Lists.{filter_stronger}

-- a sum over some shares of what is the same for every heap but one that nobody shares
sum_apart : (f g : ℕ → ℕ) (q s : ℕ) (shares : List Sharing) → IsFalse (has_sharer shares s) → ((t : ℕ) → t ≢ s → f t ≡ g t) →
    total (λ (e : Sharing). f e.heap) (filter (λ e. e.process == q) shares) ≡ total (λ (e : Sharing). g e.heap) (filter (λ e. e.process == q) shares)
sum_apart f g q s [] none same = refl
sum_apart f g q s (e ∷ shares) none same =
    let parts = or_parts (e.heap == s) (has_sharer shares s) none in
    let rest = sum_apart f g q s shares parts.1 same in
    elim (e.process == q) as (λ b. total (λ (e : Sharing). f e.heap) (cond b (e ∷ filter (λ e. e.process == q) shares) (filter (λ e. e.process == q) shares))
    ≡ total (λ (e : Sharing). g e.heap) (cond b (e ∷ filter (λ e. e.process == q) shares) (filter (λ e. e.process == q) shares))) [
      | true ↦ ap₂ (λ a b. a + b) (same e.heap (λ is. false≢true (sym parts.0 ∙ eq-eqb e.heap s is))) rest
      | false ↦ rest
    ]

module _ (trace : Trace) (st : State) where
  -- the end of a collection leaves the bytes of other heaps
  collected_bytes : (h g : Heap) → IsFalse (heap_eq h g) → bytes_of trace (after_ended trace h st) g ≡ bytes_of trace st g
  unfolding part bytes_by
  collected_bytes h g apart = ap (λ (c : CellPart). total object_bytes c.objects) (collected_elsewhere trace st g h apart)

  absorbed_bytes : (s : ℕ) (g : Heap) → IsFalse (heap_eq (shared s) g) → IsFalse (heap_eq Kernel g) → bytes_of trace (after_absorbed trace s st) g ≡ bytes_of trace st g
  unfolding part bytes_by
  absorbed_bytes s g apart kernel = ap (λ (c : CellPart). total object_bytes c.objects) (absorbed_elsewhere trace st g s apart kernel)

  share_apart : (h : Heap) (e : Sharing) → IsFalse (heap_eq h (user e.process)) → IsTrue (share_stays trace st h e)
  unfolding share_stays
  share_apart h e other = or_left _ _ (or_left _ _ (or_left _ _ (ap not other)))

  -- shares of a process whose heap is not the collected one stay
  shares_hidden : (h : Heap) (q : ℕ) → IsFalse (heap_eq h (user q)) → filter (λ e. e.process == q) (filter (share_stays trace st h) st.shares) ≡ filter (λ e. e.process == q) st.shares
  shares_hidden h q apart =
      filter_stronger (λ e. e.process == q) (share_stays trace st h) (λ e own. share_apart h e (ap (λ k. heap_eq h (user k)) (eqb-true e.process q own) ∙ apart)) st.shares

module _ (trace : Trace) (st : State) (sound : IsSound trace st) where
  scanned_apart : (h : Heap) (t : ℕ) → IsTrue (is_scanned st.scans h) → IsFalse (heap_eq h (shared t))
  scanned_apart h t scanned = false_from_ne_true _ (λ same. false≢true (sym (ap is_some (sound.scans.none_shared t)) ∙ ap (is_scanned st.scans) (sym (heap_eq-true h (shared t) same)) ∙ scanned))

  ended_charge : (h : Heap) (q : ℕ) → IsTrue (is_scanned st.scans h) → IsFalse (heap_eq h (user q)) → charge_of trace (after_ended trace h st) q ≡ charge_of trace st q
  unfolding after_ended keep_objects keep_exits keep_shares close_scan
  ended_charge h q scanned apart =
      ap₂ (λ a b. cond (among q st.ended) 0 (a + b)) (collected_bytes trace st h (user q) apart)
      (ap (total (λ (e : Sharing). bytes_of trace (after_ended trace h st) (shared e.heap))) (shares_hidden trace st h q apart)
      ∙ sum_same (λ (e : Sharing). bytes_of trace (after_ended trace h st) (shared e.heap)) (λ (e : Sharing). bytes_of trace st (shared e.heap)) (λ e. collected_bytes trace st h (shared e.heap) (scanned_apart h e.heap scanned)) (filter (λ e. e.process == q) st.shares))

  absorbed_charge : (s q : ℕ) → IsFalse (has_sharer st.shares s) → charge_of trace (after_absorbed trace s st) q ≡ charge_of trace st q
  unfolding after_absorbed set_phase keep_exits
  absorbed_charge s q none =
      ap₂ (λ a b. cond (among q st.ended) 0 (a + b)) (absorbed_bytes trace st s (user q) refl refl)
      (sum_apart (λ t. bytes_of trace (after_absorbed trace s st) (shared t)) (λ t. bytes_of trace st (shared t)) q s st.shares none
      (λ t ne. absorbed_bytes trace st s (shared t) (ne_eqb s t (λ same. ne (sym same))) refl))

  -- the end of another process leaves the charge
  killed_charge : (p q : ℕ) → q ≢ p → charge_of trace (after_kill trace p st) q ≡ charge_of trace st q
  unfolding after_kill
  killed_charge p q ne = elim (among p st.ended) as (λ b. charge_of trace (cond b st (after_end_of trace p st)) q ≡ charge_of trace st q) [
    | true ↦ refl
    | false ↦ other_charge trace st p q ne
  ]

  pub charge_kept : (event : Event) (q : ℕ) → IsPossible trace st event → IsFalse (is_done_by event q) → IsFalse (is_kill_of event q) → IsFalse (is_end_of event q) → charge_of trace (step trace st event) q ≡ charge_of trace st q
  unfolding step after_operation count_done after_closing close open_scan faults first_fault effect
  charge_kept (Done pid op said) q may other killed own =
      elim (cases_Bool (ends_a_process op)) [
        | inl ends ↦ exits op ends killed
        | inr stays ↦ operation_charges trace st pid.0 sound may.known may.lives op stays q ∙ ap (λ b. charge_of trace st q + bytes_added trace st pid.0 op * bit b) apart ∙ (omega arith)
      ]
    where
      apart : (q == pid.0) ≡ false
      apart = ne_eqb q pid.0 (λ e. false≢true (sym other ∙ eq-eqb pid.0 q (sym e)))

      exits : (op : Op) → IsTrue (ends_a_process op) → IsFalse (is_kill_of (Done pid op said) q) → charge_of trace (after_operation trace pid.0 op st) q ≡ charge_of trace st q
      exits Exit t apart = other_charge trace st pid.0 q (λ e. false≢true (sym other ∙ eq-eqb pid.0 q (sym e)))
      exits (Kill target) t apart = kills (first_fault (faults trace st pid.0 (Kill target)))
        where
          kills : (f : Option Fault) → charge_of trace (effect_unless f trace pid.0 (Kill target) st) q ≡ charge_of trace st q
          kills None = killed_charge target.0 q (λ e. false≢true (sym apart ∙ eq-eqb target.0 q (sym e)))
          kills (Some f) = refl
      exits _ t apart = absurd (false≢true t)
  charge_kept (Ended h a b c d) q may other killed own = ended_charge h q may.scanned own
  charge_kept (Absorbed s) q may other killed own = absorbed_charge s.0 q (not-true _ (and_parts (is_live (phase_of st.phases s.0)) (not (has_sharer st.shares s.0)) may.orphan).1)
  charge_kept Closing q may other killed own = refl

  module _ (limits : AreLimits trace) (p objects bytes exits shares : ℕ) (known : p < process_count trace) (may : IsPossible trace st (Ended (user p) objects bytes exits shares)) where
    abbrev after : State
    after = after_ended trace (user p) st

    abbrev weight : ℕ → ℕ
    weight t = bytes_of trace st (shared t)

    lives : IsFalse (among p st.ended)
    lives = false_from_ne_true _ (λ t. false≢true (sym (ap is_some (sound.gone.scans p t)) ∙ may.scanned))

    stays_shared : (s : ℕ) → IsTrue (has_share after.shares p s) → IsTrue (has_share st.shares p s)
    unfolding after_ended keep_objects keep_exits keep_shares close_scan
    stays_shared s t = any-fewer _ (share_stays trace st (user p)) st.shares t

    split : (a b : Bool) (n : ℕ) → (IsTrue b → IsTrue a) → cond a n 0 ≡ cond b n 0 + cond (a && not b) n 0
    split true true n more = omega arith
    split true false n more = omega arith
    split false false n more = refl
    split false true n more = absurd (false≢true (more refl))

    shares_after : total (λ (e : Sharing). bytes_of trace after (shared e.heap)) (filter (λ e. e.process == p) after.shares) ≡ total (λ t. cond (has_share after.shares p t) (weight t) 0) (numbers_below trace.shared_heaps)
    unfolding after_ended keep_objects keep_exits keep_shares close_scan
    shares_after =
        sum_same (λ (e : Sharing). bytes_of trace after (shared e.heap)) (λ (e : Sharing). weight e.heap) (λ e. collected_bytes trace st (user p) (shared e.heap) refl) (filter (λ e. e.process == p) after.shares)
        ∙ shares_sum weight p trace.shared_heaps after.shares (distinct_shares-kept (share_stays trace st (user p)) st.shares sound.shape.distinct_shares)
        (λ q s t. sound.shape.known.shared q s (any-fewer _ (share_stays trace st (user p)) st.shares t))

    shares_before : total (λ (e : Sharing). bytes_of trace st (shared e.heap)) (filter (λ e. e.process == p) st.shares)
        ≡ total (λ t. cond (has_share after.shares p t) (weight t) 0) (numbers_below trace.shared_heaps) + bytes_dropped trace st after p
    shares_before =
        shares_sum weight p trace.shared_heaps st.shares sound.shape.distinct_shares sound.shape.known.shared
        ∙ sum_same (λ t. cond (has_share st.shares p t) (weight t) 0) (λ t. cond (has_share after.shares p t) (weight t) 0 + cond (has_share st.shares p t && not (has_share after.shares p t)) (weight t) 0)
        (λ t. split (has_share st.shares p t) (has_share after.shares p t) (weight t) (stays_shared t)) (numbers_below trace.shared_heaps)
        ∙ sum_both (λ t. cond (has_share after.shares p t) (weight t) 0) (λ t. cond (has_share st.shares p t && not (has_share after.shares p t)) (weight t) 0) (numbers_below trace.shared_heaps)

    own_credit : charge_of trace st p ≡ charge_of trace after p + (bytes + bytes_dropped trace st after p)
    unfolding step after_ended keep_objects keep_exits keep_shares close_scan
    own_credit =
        let own = (numbers_are_right trace st (user p) objects bytes exits shares may).bytes_gone in
        ap (λ b. cond b 0 (bytes_of trace st (user p) + total (λ (e : Sharing). bytes_of trace st (shared e.heap)) (filter (λ e. e.process == p) st.shares))) lives
        ∙ adds _ _ _ _ _ _ own shares_before shares_after
        ∙ ap (λ b. cond b 0 (bytes_of trace after (user p) + total (λ (e : Sharing). bytes_of trace after (shared e.heap)) (filter (λ e. e.process == p) after.shares)) + (bytes + bytes_dropped trace st after p)) (sym lives)
      where
        adds : (a b s t u d : ℕ) → a ≡ b + bytes → s ≡ t + d → u ≡ t → a + s ≡ b + u + (bytes + d)
        adds a b s t u d own before now = omega (arith, own, before, now)

    more : (q : ℕ) → charge_of trace st q ≡ charge_of trace after q + (bytes + bytes_dropped trace st after p) * bit (q == p)
    more q = elim (cases_eq q p) [
      | inl e ↦ rw (eq-eqb q p e) (let was = ap (charge_of trace st) e in let now = ap (charge_of trace after) e in omega (arith, own_credit, was, now))
      | inr ne ↦ rw (ne_eqb q p ne) (let same = ended_charge (user p) q may.scanned (ne_eqb p q (λ same. ne (sym same))) in omega (arith, same))
    ]

    uses_credited : (m : ℕ) → use_of trace st m ≡ use_of trace after m + cond (among m (path_of (limits_in trace st) (limit_of trace p))) (bytes + bytes_dropped trace st after p) 0
    unfolding after_ended keep_objects keep_exits keep_shares close_scan
    uses_credited m = uses_raised trace limits st p (bytes + bytes_dropped trace st after p) (charge_of trace after) (charge_of trace st) known more m

    pub credited : Credits trace st after p (bytes + bytes_dropped trace st after p)
    credited = record {
      own = own_credit;
      others = λ q ne. ended_charge (user p) q may.scanned (ne_eqb p q (λ same. ne (sym same)));
      uses = uses_credited;
    }
