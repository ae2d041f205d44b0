-- The history in the order of the file is legal and complete.
use Rattle.std.proofs.Common.{◌≡◌, ℕ, ◌<◌, ◌&&◌, not, nat_lt, Bool, true, false, cond, refl, sym, ap, ap₂, ◌∙◌, List, [], ◌∷◌, ◌++◌, filter, drop, Some, get_or, arith, IsTrue, IsFalse, subst, ltb-true, if◌then◌else◌, slice_get, inl, inr, None}
use Rattle.std.specs.List.{list_all}
use Rattle.std.proofs.lemmas.List.{append_assoc}
use Rattle.std.proofs.lemmas.Bool.{false≢true, and_parts, cases_Bool}
use Rattle.k_types.specs.declared.names.Heap.TheVariants.{Kernel}
use Rattle.k_types.specs.declared.op.Op.{Op}
use Rattle.k_types.specs.declared.event.Event.{Event}
use Rattle.k_types.specs.declared.event.Event.TheVariants.{Closing}
use Rattle.k_types.specs.Names.{among}
use Rattle.k_types.specs.Numbers.{numbers_below}
use Rattle.k_types.specs.Trace.{Trace, operations_of, process_count}
use Rattle.k_types.specs.TraceRules.{AreOperations}
use Rattle.k_types.specs.State.{State, Scan, Sharing, opening}
use Rattle.k_types.specs.Owners.{phase_of}
use Rattle.k_types.specs.Reach.{roots_of}
use Rattle.k_types.specs.Updates.{open_scan, close, keep_objects, keep_exits, keep_shares, close_scan}
use Rattle.k_types.specs.Effects.{step, after_closing, after_ended, share_stays}
use Rattle.k_types.specs.Steps.{IsPossible, IsRun, IsLegalHistory, run, is_live, has_sharer, no_orphan, done_by, state_after}
use Rattle.k_types.specs.Complete.{IsComplete, EndsWithClosing, all_ended, IsPrefixOf}
use Rattle.k_types.specs.FileOrder.{absorptions, end_of, events_of, file_order, file_order_from, last_events, next_operation, with_end}
use Rattle.k_laws.proofs.Histories.{run_append, legal_append, done_append}
use Rattle.k_laws.proofs.Sizes.{opening_sized, get_or-same}
use Rattle.k_types.proofs.Numbered.{occurrences_count, drop_all}
use Rattle.k_laws.proofs.Absorbing.{none_left}
use Rattle.k_laws.proofs.Operating.{scan_ends, scan_is_open}
use Rattle.k_laws.proofs.Lines.{Ready, LineDone, line, calm_after, kernel_idle, no_line}

-- a filter that all pass
pub all_kept : {A : Type 0} (p : A → Bool) → ((x : A) → p x ≡ true) → (xs : List A) → filter p xs ≡ xs
all_kept p passes [] = refl
all_kept p passes (x ∷ xs) = ap (λ b. cond b (x ∷ filter p xs) (filter p xs)) (passes x) ∙ ap (λ ys. x ∷ ys) (all_kept p passes xs)

-- with nothing left to do the last events follow
pub order_end : (trace : Trace) (st : State) → file_order_from trace st [] ≡ last_events trace st
unfolding file_order_from
order_end trace st = refl

-- the next operation of the first process comes first
pub order_next : (trace : Trace) (st : State) (q : ℕ) (order : List ℕ) (op : Op) → next_operation trace st q ≡ Some op →
    file_order_from trace st (q ∷ order) ≡ events_of trace st q (Some op) ++ file_order_from trace (run trace st (events_of trace st q (Some op))) order
unfolding file_order_from
order_next trace st q order op e = ap (λ next. events_of trace st q next ++ file_order_from trace (run trace st (events_of trace st q next)) order) e

module _ (trace : Trace) (rules : AreOperations trace) where
  -- the events do first operations of what each process has left to do, all of them where it lives on, and end with the last
  -- collection where all have ended
  record Filed (st : State) (events : List Event) : Type 0 where
    legal : IsRun trace st events
    scans : (run trace st events).scans ≡ []
    first : (p : ℕ) → p < process_count trace → IsPrefixOf (done_by p events) (drop (get_or st.done p 0) (operations_of trace p))
    done : (p : ℕ) → p < process_count trace → IsFalse (among p (run trace st events).ended) → done_by p events ≡ drop (get_or st.done p 0) (operations_of trace p)
    ends : IsTrue (all_ended trace (run trace st events)) → IsTrue (no_orphan trace (run trace st events)) × EndsWithClosing events

  closing_step : (now : State) → step trace now Closing ≡ after_closing trace now
  unfolding step
  closing_step now = refl

  record Closes (now su : State) : Type 0 where
    scans : su.scans ≡ record { heap = Kernel; roots = roots_of trace now Kernel } ∷ now.scans
    ended : su.ended ≡ now.ended
    shares : su.shares ≡ now.shares
    phases : su.phases ≡ now.phases

  closing_rest : (now : State) → Closes now (after_closing trace now)
  unfolding after_closing close open_scan
  closing_rest now = record { scans = refl; ended = refl; shares = refl; phases = refl }

  end_step : (su : State) → step trace su (end_of trace su Kernel) ≡ after_ended trace Kernel su
  unfolding step
  end_step su = refl

  record EndsKernel (su after : State) : Type 0 where
    ended : after.ended ≡ su.ended
    shares : after.shares ≡ su.shares
    phases : after.phases ≡ su.phases

  end_rest : (su : State) → EndsKernel su (after_ended trace Kernel su)
  unfolding after_ended close_scan keep_shares keep_exits keep_objects share_stays
  end_rest su = record { ended = refl; shares = all_kept (share_stays trace su Kernel) (λ e. refl) su.shares; phases = refl }

  same_orphans : (st su : State) → su.shares ≡ st.shares → su.phases ≡ st.phases → no_orphan trace su ≡ no_orphan trace st
  same_orphans st su shares phases = ap₂ (λ (sharings : List Sharing) ps. list_all (λ s. not (is_live (phase_of ps s) && not (has_sharer sharings s))) (numbers_below trace.shared_heaps)) shares phases

  -- the last collection
  closed_end : (st : State) → Ready trace st [] → IsTrue (all_ended trace st) → Filed st (absorptions trace st ++ with_end trace (run trace st (absorptions trace st)) Closing (Some Kernel))
  closed_end st ready over =
      let calm = calm_after trace rules st ready.sized ready.scans in
      let now : State = run trace st (absorptions trace st) in
      let su : State = step trace now Closing in
      let tail : List Event = with_end trace now Closing (Some Kernel) in
      let closing = closing_rest now in
      let is = closing_step now in
      let over' : IsTrue (all_ended trace now) = ap (λ ended. list_all (λ p. among p ended) (numbers_below (process_count trace))) calm.ended ∙ over in
      let orphans = none_left trace st ready.sized (kernel_idle trace rules st ready.scans) in
      let scan : Scan = record { heap = Kernel; roots = roots_of trace now Kernel } in
      let one : su.scans ≡ scan ∷ [] = ap (λ (s : State). s.scans) is ∙ closing.scans ∙ ap (λ scans. scan ∷ scans) calm.scans in
      let may : IsPossible trace now Closing = record { all_ended = over'; orphans = orphans; idle = kernel_idle trace rules now calm.scans; first = calm.closed ∙ ready.closed } in
      let may_end : IsPossible trace su (end_of trace su Kernel) = record { scanned = scan_is_open trace su Kernel scan refl one; objects_gone = refl; bytes_gone = refl; exits_gone = refl; shares_gone = refl } in
      let joined : run trace st (absorptions trace st ++ tail) ≡ run trace now tail = run_append trace st (absorptions trace st) tail in
      let last = end_step su in
      let ending = end_rest su in
      record {
        legal = legal_append trace st (absorptions trace st) tail calm.legal (may, (may_end, tt));
        scans = ap (λ (s : State). s.scans) joined ∙ ap (λ (s : State). s.scans) last ∙ scan_ends trace su Kernel scan refl one;
        first = λ p known. (
          drop (get_or st.done p 0) (operations_of trace p),
          ap (λ ops. ops ++ drop (get_or st.done p 0) (operations_of trace p)) (done_append p (absorptions trace st) tail ∙ ap (λ ops. ops ++ []) (calm.none p)),
        );
        done = λ p known lives.
            let same : (run trace st (absorptions trace st ++ tail)).ended ≡ st.ended =
            ap (λ (s : State). s.ended) joined ∙ ap (λ (s : State). s.ended) last ∙ ending.ended ∙ ap (λ (s : State). s.ended) is ∙ closing.ended ∙ calm.ended in
            done_append p (absorptions trace st) tail ∙ ap (λ ops. ops ++ []) (calm.none p)
            ∙ sym (drop_all (operations_of trace p) (get_or st.done p 0) (let count = ready.counted p known (ap (among p) (sym same) ∙ lives) in omega arith));
        ends = λ t. (
          ap (no_orphan trace) joined
              ∙ same_orphans su (run trace now tail) (ap (λ (s : State). s.shares) last ∙ ending.shares) (ap (λ (s : State). s.phases) last ∙ ending.phases)
              ∙ same_orphans now su (ap (λ (s : State). s.shares) is ∙ closing.shares) (ap (λ (s : State). s.phases) is ∙ closing.phases) ∙ orphans,
          (absorptions trace st, _, _, _, _, refl),
        );
      }

  open_end : (st : State) → Ready trace st [] → IsFalse (all_ended trace st) → Filed st []
  open_end st ready going = record {
    legal = tt;
    scans = ready.scans;
    first = λ p known. (drop (get_or st.done p 0) (operations_of trace p), refl);
    done = λ p known lives. sym (drop_all (operations_of trace p) (get_or st.done p 0) (let count = ready.counted p known lives in omega arith));
    ends = λ t. absurd (false≢true (sym going ∙ t));
  }

  -- the line of a process that has ended is passed over
  order_skip : (st : State) (q : ℕ) (order : List ℕ) → IsTrue (among q st.ended) → file_order_from trace st (q ∷ order) ≡ file_order_from trace st order
  unfolding file_order_from
  order_skip st q order ended =
      ap (λ b. events_of trace st q (cond b None (slice_get (operations_of trace q) (get_or st.done q 0))) ++ file_order_from trace (run trace st (events_of trace st q (cond b None (slice_get (operations_of trace q) (get_or st.done q 0))))) order) ended

  filed_end : (st : State) → Ready trace st [] → Filed st (file_order_from trace st [])
  filed_end st ready = subst (Filed st) (sym (order_end trace st)) (go (all_ended trace st) refl)
    where
      go : (b : Bool) → all_ended trace st ≡ b → Filed st (if b then absorptions trace st ++ with_end trace (run trace st (absorptions trace st)) Closing (Some Kernel) else [])
      go true over = closed_end st ready over
      go false going = open_end st ready going

  after_line : (st : State) (order : List ℕ) (events more : List Event) → LineDone trace st order events → Filed (run trace st events) more → Filed st (events ++ more)
  after_line st order events more done filed =
      let joined : run trace st (events ++ more) ≡ run trace (run trace st events) more = run_append trace st events more in record {
        legal = legal_append trace st events more done.legal filed.legal;
        scans = ap (λ (s : State). s.scans) joined ∙ filed.scans;
        first = λ p known.
            let rest = filed.first p known in (
              rest.0,
              ap (λ ops. ops ++ rest.0) (done_append p events more) ∙ append_assoc (done_by p events) (done_by p more) rest.0 ∙ ap (λ ops. done_by p events ++ ops) rest.1 ∙ done.done p known,
            );
        done = λ p known lives.
            done_append p events more ∙ ap (λ ops. done_by p events ++ ops) (filed.done p known (ap (λ (s : State). among p s.ended) (sym joined) ∙ lives)) ∙ done.done p known;
        ends = λ t.
            let both = filed.ends (ap (all_ended trace) (sym joined) ∙ t) in
            let last = both.1 in (
              ap (no_orphan trace) joined ∙ both.0,
              (events ++ last.0, last.1, last.2, last.3, last.4, ap (λ es. events ++ es) last.5 ∙ sym (append_assoc events last.0 _)),
            );
      }

  filed : (order : List ℕ) (st : State) → Ready trace st order → list_all (λ p. nat_lt p (process_count trace)) order ≡ true → Filed st (file_order_from trace st order)
  filed [] st ready ordered = filed_end st ready
  filed (q ∷ order) st ready ordered =
      let parts = and_parts (nat_lt q (process_count trace)) (list_all (λ p. nat_lt p (process_count trace)) order) ordered in
      elim (cases_Bool (among q st.ended)) [
        | inl ended ↦ subst (Filed st) (sym (order_skip st q order ended)) (filed order st (no_line trace rules st q order ready ended) parts.1)
        | inr lives ↦
            let next = line trace rules st q order ready (ltb-true _ _ parts.0) lives in
            let op = next.0 in
            let rest = filed order (run trace st (events_of trace st q (Some op))) next.2.ready parts.1 in
            subst (Filed st) (sym (order_next trace st q order op next.1)) (after_line st order (events_of trace st q (Some op)) (file_order_from trace (run trace st (events_of trace st q (Some op))) order) next.2 rest)
      ]

  begins : Ready trace (opening trace) trace.order
  begins = record {
    sized = opening_sized trace;
    scans = refl;
    closed = refl;
    counted = λ p known lives. let count = rules.counted p known in let own = occurrences_count p trace.order in let none = nothing_done p known in omega arith;
  }
    where
      nothing_done : (p : ℕ) → p < process_count trace → get_or (opening trace).done p 0 ≡ 0
      nothing_done p known = get_or-same (process_count trace) p 0 0 known

  whole : Filed (opening trace) (file_order trace)
  whole = filed trace.order (opening trace) begins rules.ordered

  first_done : (p : ℕ) → p < process_count trace → IsPrefixOf (done_by p (file_order trace)) (operations_of trace p)
  first_done p known =
      let rest = whole.first p known in
      (rest.0, rest.1 ∙ ap (λ n. drop n (operations_of trace p)) (get_or-same (process_count trace) p 0 0 known))

  all_done : (p : ℕ) → p < process_count trace → IsFalse (among p (state_after trace (file_order trace)).ended) → done_by p (file_order trace) ≡ operations_of trace p
  all_done p known lives = whole.done p known lives ∙ ap (λ n. drop n (operations_of trace p)) (get_or-same (process_count trace) p 0 0 known)

  pub file_order_legal : IsLegalHistory trace (file_order trace)
  file_order_legal = whole.legal

  pub file_order_complete : IsComplete trace (file_order trace)
  file_order_complete = record {
    in_order = first_done;
    all = all_done;
    no_scan = whole.scans;
    no_orphan = λ over. (whole.ends over).0;
    ends = λ over. (whole.ends over).1;
  }
