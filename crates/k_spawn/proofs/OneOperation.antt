-- One operation in the order of the file: its events are the next ones, and those that each process has left to do.
use Rattle.std.proofs.Common.{◌≡◌, ◌∙◌, ℕ, zero, suc, ◌<◌, ◌==◌, Bool, true, false, cond, List, [], ◌∷◌, ◌++◌, drop, filter, get_or, slice_get, Option, Some, None, refl, sym, ap, ap₂, subst, IsFalse}
use Rattle.k_types.specs.declared.op.Op.{Op}
use Rattle.k_types.specs.declared.names.Heap.{Heap}
use Rattle.k_types.specs.declared.event.Event.TheVariants.{Done}
use Rattle.k_types.specs.FileOrder.{absorptions, events_of, file_order_from, heap_begun, next_operation, with_end}
use Rattle.k_types.specs.Names.{among}
use Rattle.k_types.specs.Numbers.{numbers_below}
use Rattle.k_types.specs.Replies.{reply_to}
use Rattle.k_types.specs.State.{State}
use Rattle.k_types.specs.Steps.{IsRun, done_by, is_orphan, run, waits_for_orphans}
use Rattle.k_types.specs.Trace.{Trace, operations_of, process_count}
use Rattle.k_types.specs.TraceRules.{AreOperations}
use Rattle.k_types.proofs.Lists.{some_one}
use Rattle.k_laws.proofs.Histories.{done_append}
use Rattle.k_laws.proofs.Absorbing.{none_done}
use Rattle.k_laws.proofs.Lines.{LineDone, Ready, line}
use Rattle.k_laws.proofs.FileOrders.{order_next}

-- what is left of a list at one of its elements
pub taken_at : {A : Type 0} (xs : List A) (n : ℕ) (y : A) (ys : List A) → drop n xs ≡ y ∷ ys → slice_get xs n ≡ Some y
taken_at [] zero y ys e = absurd (cc)
taken_at [] (suc n) y ys e = absurd (cc)
taken_at (x ∷ xs) zero y ys e = ap Some (let same : x ≡ y = cc in same)
taken_at (x ∷ xs) (suc n) y ys e = taken_at xs n y ys e

module _ (trace : Trace) (st : State) (p : ℕ) (op : Op) where
  -- the events of an operation are one operation of its process
  end_done : (now : State) (q : ℕ) (begun : Option Heap) → done_by q (with_end trace now (Done (record { 0 = p }) op (reply_to trace now p op)) begun) ≡ cond (p == q) (op ∷ []) []
  end_done now q None = refl
  end_done now q (Some h) = elim (p == q) as (λ b. cond b (op ∷ []) [] ≡ cond b (op ∷ []) []) [ true ↦ refl | false ↦ refl ]

  pub one_done : (q : ℕ) → done_by q (events_of trace st p (Some op)) ≡ cond (p == q) (op ∷ []) []
  one_done q = go (waits_for_orphans op)
    where
      go : (b : Bool) → done_by q (let first = cond b (absorptions trace st) [] in first ++ with_end trace (run trace st first) (Done (record { 0 = p }) op (reply_to trace (run trace st first) p op)) (heap_begun p op)) ≡ cond (p == q) (op ∷ []) []
      go true =
          done_append q (absorptions trace st) _
          ∙ ap₂ (λ xs ys. xs ++ ys) (none_done q (filter (is_orphan st) (numbers_below trace.shared_heaps))) (end_done (run trace st (absorptions trace st)) q (heap_begun p op))
      go false = end_done st q (heap_begun p op)

-- the events of an operation: they are possible, the next ones in the order of the file, and leave the rest to do
pub record IsNext (trace : Trace) (st : State) (p : ℕ) (op : Op) (order : List ℕ) : Type 0 where
  pub legal : IsRun trace st (events_of trace st p (Some op))
  pub ready : Ready trace (run trace st (events_of trace st p (Some op))) order
  pub filed : file_order_from trace st (p ∷ order) ≡ events_of trace st p (Some op) ++ file_order_from trace (run trace st (events_of trace st p (Some op))) order
  pub left : (q : ℕ) → q < process_count trace → cond (p == q) (op ∷ []) [] ++ drop (get_or (run trace st (events_of trace st p (Some op))).done q 0) (operations_of trace q) ≡ drop (get_or st.done q 0) (operations_of trace q)

pub next_is : (trace : Trace) → AreOperations trace → (st : State) (p : ℕ) (op : Op) (rest : List Op) (order : List ℕ) → Ready trace st (p ∷ order) → p < process_count trace → IsFalse (among p st.ended) →
    drop (get_or st.done p 0) (operations_of trace p) ≡ op ∷ rest → IsNext trace st p op order
next_is trace rules st p op rest order ready known lives todo =
    let found = line trace rules st p order ready known lives in
    let mine : next_operation trace st p ≡ Some op = ap (λ b. cond b None (slice_get (operations_of trace p) (get_or st.done p 0))) lives ∙ taken_at (operations_of trace p) (get_or st.done p 0) op rest todo in
    let same : found.0 ≡ op = some_one (sym found.1 ∙ mine) in
    let done : LineDone trace st order (events_of trace st p (Some op)) = subst (λ o. LineDone trace st order (events_of trace st p (Some o))) same found.2 in record {
      legal = done.legal;
      ready = done.ready;
      filed = order_next trace st p order op mine;
      left = λ q less. ap (λ ops. ops ++ drop (get_or (run trace st (events_of trace st p (Some op))).done q 0) (operations_of trace q)) (sym (one_done trace st p op q)) ∙ done.done q less;
    }
