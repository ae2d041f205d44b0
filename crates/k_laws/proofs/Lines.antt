-- The events of one operation of the file's order.
use Rattle.std.proofs.Common.{◌≡◌, ℕ, ◌+◌, ◌<◌, ◌==◌, ◌||◌, not, Bool, true, false, cond, refl, sym, ap, ap₂, ◌∙◌, inl, inr, List, [], ◌∷◌, ◌++◌, filter, length, drop, slice_get, Option, Some, None, get_or, arith, eq-eqb, ne_eqb, IsTrue, IsFalse, if◌then◌else◌}
use Rattle.std.specs.List.{list_all}
use Rattle.std.proofs.lemmas.Bool.{cases_eq, false_from_ne_true, false≢true}
use Rattle.k_types.specs.declared.names.Pid.{Pid}
use Rattle.k_types.specs.declared.names.Heap.{Heap}
use Rattle.k_types.specs.declared.names.Heap.TheVariants.{Kernel}
use Rattle.k_types.specs.declared.op.Op.{Op}
use Rattle.k_types.specs.declared.event.Event.{Event}
use Rattle.k_types.specs.declared.event.Event.TheVariants.{Done}
use Rattle.k_types.specs.Names.{among}
use Rattle.k_types.specs.Numbers.{numbers_below}
use Rattle.k_types.specs.Trace.{Trace, operations_of, process_count}
use Rattle.k_types.specs.TraceRules.{AreOperations}
use Rattle.k_types.specs.State.{State, Scan, is_scanned}
use Rattle.k_types.specs.Reach.{roots_of}
use Rattle.k_types.specs.Replies.{reply_to}
use Rattle.k_types.specs.Updates.{keep_objects, keep_exits, keep_shares, close_scan}
use Rattle.k_types.specs.Effects.{step, after_operation, after_ended}
use Rattle.k_types.specs.Steps.{IsPossible, IsRun, run, in_range, is_orphan, no_orphan, waits_for_orphans, done_by}
use Rattle.k_types.specs.Cells.{cells_touched}
use Rattle.k_types.specs.Sound.{IsSized}
use Rattle.k_types.specs.FileOrder.{absorptions, end_of, events_of, heap_begun, next_operation, with_end}
use Rattle.k_laws.specs.Counts.{one_if}
use Rattle.k_laws.proofs.Dones.{done_at}
use Rattle.k_laws.proofs.AbsorbedCounts.{done_closed}
use Rattle.k_laws.proofs.Histories.{run_append, legal_append, done_append}
use Rattle.k_laws.proofs.Sizes.{run_sized}
use Rattle.k_types.proofs.Numbered.{occurrences, all_at, element_at}
use Rattle.k_laws.proofs.Absorbing.{orphans_absorbed, none_left, none_done}
use Rattle.k_laws.proofs.Operating.{done_ended, begun_scans, no_scans, scan_ends, scan_is_open}

-- between the lines: no collection is open, nothing is closed, and each living process has as many operations to do as the order
-- has lines of it. What a process that has ended hasn't done it never does
pub record Ready (trace : Trace) (st : State) (order : List ℕ) : Type 0 where
  pub sized : IsSized trace st
  pub scans : st.scans ≡ []
  pub closed : st.closed ≡ false
  pub counted : (p : ℕ) → p < process_count trace → IsFalse (among p st.ended) → get_or st.done p 0 + occurrences p order ≡ length (operations_of trace p)

-- what the absorptions before an operation leave
pub record Calm (trace : Trace) (st : State) (first : List Event) : Type 0 where
  pub legal : IsRun trace st first
  pub scans : (run trace st first).scans ≡ []
  pub ended : (run trace st first).ended ≡ st.ended
  pub done : (run trace st first).done ≡ st.done
  pub closed : (run trace st first).closed ≡ st.closed
  pub none : (p : ℕ) → done_by p first ≡ []

-- the events of a line
pub record LineDone (trace : Trace) (st : State) (order : List ℕ) (events : List Event) : Type 0 where
  pub legal : IsRun trace st events
  pub ready : Ready trace (run trace st events) order
  pub done : (p : ℕ) → p < process_count trace → done_by p events ++ drop (get_or (run trace st events).done p 0) (operations_of trace p) ≡ drop (get_or st.done p 0) (operations_of trace p)

module _ (trace : Trace) (rules : AreOperations trace) where
  pub kernel_idle : (st : State) → st.scans ≡ [] → IsFalse (is_scanned st.scans Kernel)
  kernel_idle st quiet = ap (λ scans. is_scanned scans Kernel) quiet

  pub calm_after : (st : State) → IsSized trace st → st.scans ≡ [] → Calm trace st (absorptions trace st)
  calm_after st sized quiet =
      let absorbed = orphans_absorbed trace st sized (kernel_idle st quiet) in record {
        legal = absorbed.legal;
        scans = absorbed.scans ∙ quiet;
        ended = absorbed.ended;
        done = absorbed.done;
        closed = absorbed.closed;
        none = λ p. none_done p (filter (is_orphan st) (numbers_below trace.shared_heaps));
      }

  first_of : State → Op → List Event
  first_of st op = if waits_for_orphans op then absorptions trace st else []

  calm_first : (st : State) (op : Op) → IsSized trace st → st.scans ≡ [] → Calm trace st (first_of st op) × IsTrue (not (waits_for_orphans op) || no_orphan trace (run trace st (first_of st op)))
  unfolding first_of
  calm_first st op sized quiet =
      elim (waits_for_orphans op) as (λ b. Calm trace st (if b then absorptions trace st else []) × IsTrue (not b || no_orphan trace (run trace st (if b then absorptions trace st else [])))) [
        | true ↦ (calm_after st sized quiet, none_left trace st sized (kernel_idle st quiet))
        | false ↦ (record { legal = tt; scans = quiet; ended = refl; done = refl; closed = refl; none = λ p. refl }, refl)
      ]

  idle_cells : (cells : List Heap) → list_all (λ c. not (is_scanned [] c)) cells ≡ true
  idle_cells [] = refl
  idle_cells (c ∷ cells) = idle_cells cells

  step_done : (st : State) (pid : Pid) (op : Op) → step trace st (Done pid op (reply_to trace st pid.0 op)) ≡ after_operation trace pid.0 op st
  unfolding step
  step_done st pid op = refl

  step_ended : (st : State) (h : Heap) → step trace st (end_of trace st h) ≡ after_ended trace h st
  unfolding step
  step_ended st h = refl

  record SameBut (st su : State) : Type 0 where
    ended : su.ended ≡ st.ended
    done : su.done ≡ st.done
    closed : su.closed ≡ st.closed

  ended_rest : (st : State) (h : Heap) → SameBut st (after_ended trace h st)
  unfolding after_ended close_scan keep_shares keep_exits keep_objects
  ended_rest st h = record { ended = refl; done = refl; closed = refl }

  -- an operation and the end of the collection that it begins
  record OperationDone (now : State) (q : ℕ) (op : Op) (events : List Event) : Type 0 where
    legal : IsRun trace now events
    scans : (run trace now events).scans ≡ []
    ended : (run trace now events).ended ≡ (after_operation trace q op now).ended
    done : (run trace now events).done ≡ (after_operation trace q op now).done
    closed : (run trace now events).closed ≡ (after_operation trace q op now).closed
    by : (p : ℕ) → done_by p events ≡ cond (q == p) (op ∷ []) []

  operation_done : (now : State) (q : ℕ) (op : Op) → now.scans ≡ [] → IsPossible trace now (Done (record { 0 = q }) op (reply_to trace now q op)) → (begun : Option Heap) → heap_begun q op ≡ begun →
      OperationDone now q op (with_end trace now (Done (record { 0 = q }) op (reply_to trace now q op)) begun)
  operation_done now q op quiet may None e =
      let is = step_done now (record { 0 = q }) op in record {
        legal = (may, tt);
        scans = ap (λ (s : State). s.scans) is ∙ no_scans trace now q op e quiet;
        ended = ap (λ (s : State). s.ended) is;
        done = ap (λ (s : State). s.done) is;
        closed = ap (λ (s : State). s.closed) is;
        by = λ p. refl;
      }
  operation_done now q op quiet may (Some h) e =
      let is = step_done now (record { 0 = q }) op in
      let su : State = step trace now (Done (record { 0 = q }) op (reply_to trace now q op)) in
      let scan : Scan = record { heap = h; roots = roots_of trace now h } in
      let one : su.scans ≡ scan ∷ [] = ap (λ (s : State). s.scans) is ∙ begun_scans trace now q op h e ∙ ap (λ scans. scan ∷ scans) quiet in
      let over = step_ended su h in
      let rest = ended_rest su h in record {
        legal = (may, (record { scanned = scan_is_open trace su h scan refl one; objects_gone = refl; bytes_gone = refl; exits_gone = refl; shares_gone = refl }, tt));
        scans = ap (λ (s : State). s.scans) over ∙ scan_ends trace su h scan refl one;
        ended = ap (λ (s : State). s.ended) over ∙ rest.ended ∙ ap (λ (s : State). s.ended) is;
        done = ap (λ (s : State). s.done) over ∙ rest.done ∙ ap (λ (s : State). s.done) is;
        closed = ap (λ (s : State). s.closed) over ∙ rest.closed ∙ ap (λ (s : State). s.closed) is;
        by = λ p. elim (q == p) as (λ b. cond b (op ∷ []) [] ≡ cond b (op ∷ []) []) [ true ↦ refl | false ↦ refl ];
      }

  -- the operation may be done next
  may_be_done : (now : State) (q : ℕ) (op : Op) → q < process_count trace → slice_get (operations_of trace q) (get_or now.done q 0) ≡ Some op → IsFalse (among q now.ended) → now.scans ≡ [] →
      IsTrue (not (waits_for_orphans op) || no_orphan trace now) → IsPossible trace now (Done (record { 0 = q }) op (reply_to trace now q op))
  may_be_done now q op known got lives quiet orphans = record {
    known = known;
    lives = lives;
    in_range = all_at (in_range trace) (operations_of trace q) (get_or now.done q 0) op (rules.in_range q known) got;
    idle = ap (λ scans. list_all (λ c. not (is_scanned scans c)) (cells_touched trace now (Done (record { 0 = q }) op (reply_to trace now q op)))) quiet ∙ idle_cells (cells_touched trace now (Done (record { 0 = q }) op (reply_to trace now q op)));
    orphans = orphans;
    replied = refl;
  }

  -- the line of a process that has ended gives no event
  pub no_line : (st : State) (q : ℕ) (order : List ℕ) → Ready trace st (q ∷ order) → IsTrue (among q st.ended) → Ready trace st order
  no_line st q order ready ended = record {
    sized = ready.sized;
    scans = ready.scans;
    closed = ready.closed;
    counted = λ p there lives.
        ap (λ b. get_or st.done p 0 + cond b (1 + occurrences p order) (occurrences p order)) (sym (ne_eqb q p (λ same. false≢true (sym lives ∙ ap (λ k. among k st.ended) (sym same) ∙ ended))))
        ∙ ready.counted p there lives;
  }

  module _ (st : State) (q : ℕ) (order : List ℕ) (ready : Ready trace st (q ∷ order)) (known : q < process_count trace) (lives_now : IsFalse (among q st.ended)) where
    todo : get_or st.done q 0 < length (operations_of trace q)
    todo =
        let count = ready.counted q known lives_now in
        let more = ap (λ b. cond b (1 + occurrences q order) (occurrences q order)) (eq-eqb q q refl) in
        omega arith

    still : (d o l e : ℕ) (b : Bool) → e ≡ d + one_if b → d + cond b (1 + o) o ≡ l → e + o ≡ l
    still d o l e true now was = omega arith
    still d o l e false now was = omega arith

    module _ (op : Op) (got : slice_get (operations_of trace q) (get_or st.done q 0) ≡ Some op) (left : drop (get_or st.done q 0) (operations_of trace q) ≡ op ∷ drop (get_or st.done q 0 + 1) (operations_of trace q)) where
      next_left : (p : ℕ) → cond (q == p) (op ∷ []) [] ++ drop (get_or st.done p 0 + one_if (q == p)) (operations_of trace p) ≡ drop (get_or st.done p 0) (operations_of trace p)
      next_left p = elim (cases_eq q p) [
        | inl same ↦
            ap (λ b. cond b (op ∷ []) [] ++ drop (get_or st.done p 0 + one_if b) (operations_of trace p)) (eq-eqb q p same)
            ∙ ap (λ k. op ∷ drop (get_or st.done k 0 + 1) (operations_of trace k)) (sym same) ∙ sym left ∙ ap (λ k. drop (get_or st.done k 0) (operations_of trace k)) same
        | inr other ↦
            ap (λ b. cond b (op ∷ []) [] ++ drop (get_or st.done p 0 + one_if b) (operations_of trace p)) (ne_eqb q p other)
            ∙ ap (λ n. drop n (operations_of trace p)) (omega arith)
      ]

      line_done : LineDone trace st order (events_of trace st q (Some op))
      unfolding first_of
      line_done =
          let first = calm_first st op ready.sized ready.scans in
          let now : State = run trace st (first_of st op) in
          let calm = first.0 in
          let lives : IsFalse (among q now.ended) = ap (among q) calm.ended ∙ lives_now in
          let may = may_be_done now q op known (ap (λ done. slice_get (operations_of trace q) (get_or done q 0)) calm.done ∙ got) lives calm.scans first.1 in
          let act = operation_done now q op calm.scans may (heap_begun q op) refl in
          let tail : List Event = with_end trace now (Done (record { 0 = q }) op (reply_to trace now q op)) (heap_begun q op) in
          let joined : run trace st (first_of st op ++ tail) ≡ run trace now tail = run_append trace st (first_of st op) tail in
          let inside : q < length now.done = rw (ap length calm.done ∙ ready.sized.done) known in
          let counted : (p : ℕ) → get_or (run trace st (first_of st op ++ tail)).done p 0 ≡ get_or st.done p 0 + one_if (q == p) =
          λ p. ap (λ (s : State). get_or s.done p 0) joined ∙ ap (λ done. get_or done p 0) act.done ∙ done_at trace now q p op inside ∙ ap (λ done. get_or done p 0 + one_if (q == p)) calm.done in
          let ended : (p : ℕ) → IsTrue (among p st.ended) → IsTrue (among p (run trace st (first_of st op ++ tail)).ended) =
          λ p t. ap (λ (s : State). among p s.ended) joined ∙ ap (among p) act.ended ∙ done_ended trace now q op p (ap (among p) calm.ended ∙ t) in
          record {
            legal = legal_append trace st (first_of st op) tail calm.legal act.legal;
            ready = record {
              sized = run_sized trace st (first_of st op ++ tail) ready.sized;
              scans = ap (λ (s : State). s.scans) joined ∙ act.scans;
              closed = ap (λ (s : State). s.closed) joined ∙ act.closed ∙ done_closed trace now q op ∙ calm.closed ∙ ready.closed;
              counted = λ p there lives.
                  still (get_or st.done p 0) (occurrences p order) (length (operations_of trace p)) _ (q == p) (counted p)
                  (ready.counted p there (false_from_ne_true _ (λ t. false≢true (sym lives ∙ ended p t))));
            };
            done = λ p there.
                ap (λ ops. ops ++ drop (get_or (run trace st (first_of st op ++ tail)).done p 0) (operations_of trace p)) (done_append p (first_of st op) tail ∙ ap₂ (λ a b. a ++ b) (calm.none p) (act.by p))
                ∙ ap (λ n. cond (q == p) (op ∷ []) [] ++ drop n (operations_of trace p)) (counted p) ∙ next_left p;
          }

    pub line : (op : Op) × (next_operation trace st q ≡ Some op) × LineDone trace st order (events_of trace st q (Some op))
    line =
        let at = element_at (operations_of trace q) (get_or st.done q 0) todo in
        (at.0, ap (λ b. cond b None (slice_get (operations_of trace q) (get_or st.done q 0))) lives_now ∙ at.1, line_done at.0 at.1 at.2)
