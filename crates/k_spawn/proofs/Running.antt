-- The operations of a line, one after the other in the order of the file.
use Rattle.std.proofs.Common.{◌≡◌, ◌∙◌, ℕ, ◌<◌, ◌==◌, Bool, true, false, cond, List, [], ◌∷◌, ◌++◌, drop, map, get_or, Some, refl, sym, ap, subst, eq-eqb}
use Rattle.std.proofs.lemmas.List.{append_assoc, append_cancel_left}
use Rattle.k_types.specs.declared.op.Op.{Op}
use Rattle.k_types.specs.declared.event.Event.{Event}
use Rattle.k_types.specs.FileOrder.{events_of, file_order_from}
use Rattle.k_types.specs.State.{State}
use Rattle.k_types.specs.Steps.{IsRun, done_by, run}
use Rattle.k_types.specs.Trace.{Trace, operations_of, process_count}
use Rattle.k_laws.proofs.Histories.{done_append, legal_append, run_append}
use Rattle.k_laws.proofs.Lines.{Ready}
use Rattle.k_types.specs.declared.event.Event.TheVariants.{Done, Ended, Absorbed, Closing}
use Rattle.k_spawn.specs.Agreement.{replies_in}
use Rattle.k_spawn.proofs.OneOperation.{IsNext, one_done}

-- the operations of the process were done: their events are possible, the next ones in the order of the file, and leave the rest to do
pub record Ran (trace : Trace) (st : State) (p : ℕ) (ops : List Op) (order : List ℕ) (events : List Event) : Type 0 where
  pub legal : IsRun trace st events
  pub ready : Ready trace (run trace st events) order
  pub filed : file_order_from trace st (map (λ op. p) ops ++ order) ≡ events ++ file_order_from trace (run trace st events) order
  pub left : (q : ℕ) → q < process_count trace → cond (p == q) ops [] ++ drop (get_or (run trace st events).done q 0) (operations_of trace q) ≡ drop (get_or st.done q 0) (operations_of trace q)
  pub done : (q : ℕ) → done_by q events ≡ cond (p == q) ops []

module _ (trace : Trace) (p : ℕ) (order : List ℕ) where
  pub ran_nothing : (st : State) → Ready trace st order → Ran trace st p [] order []
  ran_nothing st ready = record { legal = tt; ready = ready; filed = refl; left = λ q less. none q (p == q); done = λ q. sym (nothing (p == q)) }
    where
      nothing : (b : Bool) → cond {A = List Op} b [] [] ≡ []
      nothing true = refl
      nothing false = refl

      none : (q : ℕ) (b : Bool) → cond b [] [] ++ drop (get_or st.done q 0) (operations_of trace q) ≡ drop (get_or st.done q 0) (operations_of trace q)
      none q true = refl
      none q false = refl

  pub ran_more : (st : State) (op : Op) (ops : List Op) (more : List Event) → IsNext trace st p op (map (λ o. p) ops ++ order) → Ran trace (run trace st (events_of trace st p (Some op))) p ops order more →
      Ran trace st p (op ∷ ops) order (events_of trace st p (Some op) ++ more)
  ran_more st op ops more next rest =
      let events : List Event = events_of trace st p (Some op) in
      let joined : run trace st (events ++ more) ≡ run trace (run trace st events) more = run_append trace st events more in record {
        legal = legal_append trace st events more next.legal rest.legal;
        ready = subst (λ z. Ready trace z order) (sym joined) rest.ready;
        filed =
            next.filed ∙ ap (λ es. events ++ es) rest.filed
            ∙ sym (append_assoc events more (file_order_from trace (run trace (run trace st events) more) order))
            ∙ ap (λ (z : State). (events ++ more) ++ file_order_from trace z order) (sym joined);
        left = λ q less.
            ap (λ (z : State). cond (p == q) (op ∷ ops) [] ++ drop (get_or z.done q 0) (operations_of trace q)) joined
            ∙ both (p == q) (drop (get_or (run trace (run trace st events) more).done q 0) (operations_of trace q)) (drop (get_or (run trace st events).done q 0) (operations_of trace q)) (rest.left q less)
            ∙ next.left q less;
        done = λ q. done_append q events more ∙ ap (λ xs. xs ++ done_by q more) (one_done trace st p op q) ∙ ap (λ ys. cond (p == q) (op ∷ []) [] ++ ys) (rest.done q) ∙ one (p == q);
      }
    where
      both : (b : Bool) (xs ys : List Op) → cond b ops [] ++ xs ≡ ys → cond b (op ∷ ops) [] ++ xs ≡ cond b (op ∷ []) [] ++ ys
      both true xs ys e = ap (λ zs. op ∷ zs) e
      both false xs ys e = e

      one : (b : Bool) → cond b (op ∷ []) [] ++ cond b ops [] ≡ cond b (op ∷ ops) []
      one true = refl
      one false = refl

-- what the process has left to do behind its next operation
pub left_own : (trace : Trace) (st : State) (p : ℕ) (op : Op) (rest : List Op) (order : List ℕ) → p < process_count trace → IsNext trace st p op order → drop (get_or st.done p 0) (operations_of trace p) ≡ op ∷ rest →
    drop (get_or (run trace st (events_of trace st p (Some op))).done p 0) (operations_of trace p) ≡ rest
left_own trace st p op rest order known next todo =
    append_cancel_left (op ∷ []) _ rest
    (ap (λ b. cond b (op ∷ []) [] ++ drop (get_or (run trace st (events_of trace st p (Some op))).done p 0) (operations_of trace p)) (sym (eq-eqb p p refl)) ∙ next.left p known ∙ todo)

-- the replies of two lists of events
pub replies_append : (xs ys : List Event) → replies_in (xs ++ ys) ≡ replies_in xs ++ replies_in ys
replies_append [] ys = refl
replies_append (Done pid op said ∷ xs) ys = ap (λ rest. said ∷ rest) (replies_append xs ys)
replies_append (Ended h a b c d ∷ xs) ys = replies_append xs ys
replies_append (Absorbed s ∷ xs) ys = replies_append xs ys
replies_append (Closing ∷ xs) ys = replies_append xs ys
