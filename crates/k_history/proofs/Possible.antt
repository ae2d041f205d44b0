-- An event is possible or not, and a history with one event more is begun or not.
use Rattle.std.proofs.Common.{◌≡◌, ◌∙◌, ◌⊎◌, ℕ, ◌<◌, Bool, true, false, cond, not, ◌||◌, eqb, List, [], ◌∷◌, ◌++◌, refl, sym, ap, subst, arith, inl, inr, append_assoc}
use Rattle.std.specs.List.{list_all}
use Rattle.std.proofs.lemmas.Bool.{cases_lt, eqb-true}
use Rattle.std.proofs.lemmas.Bool.Decides.{nat_tests}
use Rattle.std.proofs.lemmas.List.{append-nil, append_cancel_left}
use Rattle.k_types.specs.declared.names.Heap.{Heap}
use Rattle.k_types.specs.declared.names.Heap.TheVariants.{Kernel}
use Rattle.k_types.specs.declared.op.Op.{Op}
use Rattle.k_types.specs.declared.event.Reply.{Reply}
use Rattle.k_types.specs.declared.event.Event.{Event}
use Rattle.k_types.specs.declared.event.Event.TheVariants.{Done, Ended, Absorbed, Closing}
use Rattle.k_types.specs.Names.{among}
use Rattle.k_types.specs.Trace.{Trace, process_count, operations_of}
use Rattle.k_types.specs.Numbers.{numbers_below}
use Rattle.k_types.specs.State.{State, opening, is_scanned}
use Rattle.k_types.specs.Replies.{reply_to}
use Rattle.k_types.specs.Cells.{Cell, cells_touched}
use Rattle.k_types.specs.Steps.{in_range, is_orphan, no_orphan, waits_for_orphans, MayBeDone, MayEnd, MayBeAbsorbed, MayClose, IsPossible, run, done_by}
use Rattle.k_types.specs.Complete.{IsPrefixOf}
use Rattle.k_laws.proofs.Histories.{legal_append, legal_rest, done_append}
use Rattle.k_reports.specs.Begun.{IsBegun}
use Rattle.k_history.proofs.Codes.{same_op, same_reply}

-- It is so, or it isn't.
abbrev pub Decided : Type 0 → Type 0
Decided P = P ⊎ ¬ P

pub decide_true : (b : Bool) → Decided (b ≡ true)
decide_true true = inl refl
decide_true false = inr (λ e. absurd cc)

pub decide_false : (b : Bool) → Decided (b ≡ false)
decide_false true = inr (λ e. absurd cc)
decide_false false = inl refl

same_number_by : (a b : ℕ) (t : Bool) → eqb a b ≡ t → Decided (a ≡ b)
same_number_by a b true e = inl (eqb-true a b e)
same_number_by a b false e = inr (λ s. absurd (let f : eqb a b ≡ true = grind (arith, nat_tests) in let g : true ≡ false = sym f ∙ e in cc))

pub decide_same : (a b : ℕ) → Decided (a ≡ b)
decide_same a b = same_number_by a b (eqb a b) refl

pub decide_below : (a b : ℕ) → Decided (a < b)
decide_below a b = elim (cases_lt a b) [ inl lt ↦ inl lt | inr le ↦ inr (λ lt. absurd (omega arith)) ]

-- Both, one after the other.
pub decide_both : {P Q : Type 0} → Decided P → Decided Q → Decided (P × Q)
decide_both (inl p) (inl q) = inl (p, q)
decide_both (inl p) (inr q) = inr (λ w. q w.1)
decide_both (inr p) d = inr (λ w. p w.0)

-- What means the same is decided alike.
pub decide_as : {P Q : Type 0} → (P → Q) → (Q → P) → Decided P → Decided Q
decide_as f g (inl p) = inl (f p)
decide_as f g (inr p) = inr (λ q. p (g q))

decide_done : (trace : Trace) (st : State) (p : ℕ) (op : Op) (said : Reply) (cells : List Cell) → Decided (MayBeDone trace st p op said cells)
decide_done trace st p op said cells =
    decide_as (λ w. record { known = w.0; lives = w.1.0; in_range = w.1.1.0; idle = w.1.1.1.0; orphans = w.1.1.1.1.0; replied = w.1.1.1.1.1 })
    (λ m. (m.known, (m.lives, (m.in_range, (m.idle, (m.orphans, m.replied))))))
    (decide_both (decide_below p (process_count trace))
    (decide_both (decide_false (among p st.ended))
    (decide_both (decide_true (in_range trace op))
    (decide_both (decide_true (list_all (λ c. not (is_scanned st.scans c)) cells))
    (decide_both (decide_true (not (waits_for_orphans op) || no_orphan trace st)) (same_reply said (reply_to trace st p op)))))))

decide_end : (trace : Trace) (st : State) (h : Heap) (objects bytes exits shares : ℕ) → Decided (MayEnd trace st h objects bytes exits shares)
decide_end trace st h objects bytes exits shares =
    decide_as (λ w. record { scanned = w.0; objects_gone = w.1.0; bytes_gone = w.1.1.0; exits_gone = w.1.1.1.0; shares_gone = w.1.1.1.1 })
    (λ m. (m.scanned, (m.objects_gone, (m.bytes_gone, (m.exits_gone, m.shares_gone)))))
    (decide_both (decide_true (is_scanned st.scans h))
    (decide_both (decide_same objects _)
    (decide_both (decide_same bytes _)
    (decide_both (decide_same exits _) (decide_same shares _)))))

decide_absorbed : (trace : Trace) (st : State) (s : ℕ) → Decided (MayBeAbsorbed trace st s)
decide_absorbed trace st s =
    decide_as (λ w. record { known = w.0; orphan = w.1.0; idle = w.1.1 }) (λ m. (m.known, (m.orphan, m.idle)))
    (decide_both (decide_below s trace.shared_heaps) (decide_both (decide_true (is_orphan st s)) (decide_false (is_scanned st.scans Kernel))))

decide_closing : (trace : Trace) (st : State) → Decided (MayClose trace st)
decide_closing trace st =
    decide_as (λ w. record { all_ended = w.0; orphans = w.1.0; idle = w.1.1.0; first = w.1.1.1 }) (λ m. (m.all_ended, (m.orphans, (m.idle, m.first))))
    (decide_both (decide_true (list_all (λ p. among p st.ended) (numbers_below (process_count trace))))
    (decide_both (decide_true (no_orphan trace st)) (decide_both (decide_false (is_scanned st.scans Kernel)) (decide_false st.closed))))

-- An event is possible, or not.
pub decide_possible : (trace : Trace) (st : State) (e : Event) → Decided (IsPossible trace st e)
decide_possible trace st (Done pid op said) = decide_done trace st pid.0 op said (cells_touched trace st (Done pid op said))
decide_possible trace st (Ended h objects bytes exits shares) = decide_end trace st h objects bytes exits shares
decide_possible trace st (Absorbed s) = decide_absorbed trace st s.0
decide_possible trace st Closing = decide_closing trace st

-- ---- one event more

-- The next operation is that one.
pub next_op : (done ops : List Op) (op : Op) (rest : List Op) → done ++ rest ≡ ops → Decided (IsPrefixOf (done ++ op ∷ []) ops)
next_op done ops op [] e = inr (λ w. absurd (let f : op ∷ w.0 ≡ [] = append_cancel_left done (op ∷ w.0) [] (sym (append_assoc done (op ∷ []) w.0) ∙ w.1 ∙ sym e) in cc))
next_op done ops op (o ∷ rest) e = decide_as
    (λ same. (rest, append_assoc done (op ∷ []) rest ∙ ap (λ (x : Op). done ++ x ∷ rest) same ∙ e))
    (λ w. let f : op ∷ w.0 ≡ o ∷ rest = append_cancel_left done (op ∷ w.0) (o ∷ rest) (sym (append_assoc done (op ∷ []) w.0) ∙ w.1 ∙ sym e) in cc)
    (same_op op o)

-- What holds, and then what is decided by it.
pub decide_then : {P Q : Type 0} → Decided P → (P → Decided Q) → Decided (P × Q)
decide_then (inl p) d = decide_both (inl p) (d p)
decide_then (inr p) d = inr (λ w. p w.0)

-- The process's operations so far, with what is done now, are the first of its own.
pub at_process : (trace : Trace) (history : List Event) (pid p : ℕ) (op : Op) (now : List Op) (t : Bool) → eqb pid p ≡ t → now ≡ cond t (op ∷ []) []
    → IsPrefixOf (done_by pid history ++ op ∷ []) (operations_of trace pid) → IsPrefixOf (done_by p history) (operations_of trace p) → IsPrefixOf (done_by p history ++ now) (operations_of trace p)
at_process trace history pid p op now true e is w so_far =
    rw is (subst (λ (q : ℕ). IsPrefixOf (done_by q history ++ op ∷ []) (operations_of trace q)) (eqb-true pid p e) w)
at_process trace history pid p op now false e is w so_far = rw is (subst (λ (ops : List Op). IsPrefixOf ops (operations_of trace p)) (sym (append-nil (done_by p history))) so_far)

pub itself : (n : ℕ) → eqb n n ≡ true
itself n = grind (arith, nat_tests)

event_in_order : (trace : Trace) (history : List Event) (pid : ℕ) (op : Op) (doing : ℕ → List Op) → ((p : ℕ) → doing p ≡ cond (eqb pid p) (op ∷ []) []) → pid < process_count trace
    → ((p : ℕ) → p < process_count trace → IsPrefixOf (done_by p history) (operations_of trace p))
    → Decided ((p : ℕ) → p < process_count trace → IsPrefixOf (done_by p history ++ doing p) (operations_of trace p))
event_in_order trace history pid op doing does known so_far =
    let rest = so_far pid known in
    decide_as (λ w. λ p below. at_process trace history pid p op (doing p) (eqb pid p) refl (does p) w (so_far p below))
    (λ all. subst (λ (now : List Op). IsPrefixOf (done_by pid history ++ now) (operations_of trace pid)) (does pid ∙ rw (itself pid) refl) (all pid known))
    (next_op (done_by pid history) (operations_of trace pid) op rest.0 rest.1)

-- The event keeps the order of the operations, or not.
decide_order : (trace : Trace) (history : List Event) (e : Event) → IsBegun trace history → IsPossible trace (run trace (opening trace) history) e
    → Decided ((p : ℕ) → p < process_count trace → IsPrefixOf (done_by p history ++ done_by p (e ∷ [])) (operations_of trace p))
decide_order trace history (Done pid op said) h may = event_in_order trace history pid.0 op (λ p. done_by p (Done pid op said ∷ [])) (λ p. refl) may.known h.in_order
decide_order trace history (Ended g a b c d) h may = inl (λ p below. subst (λ (ops : List Op). IsPrefixOf ops (operations_of trace p)) (sym (append-nil (done_by p history))) (h.in_order p below))
decide_order trace history (Absorbed s) h may = inl (λ p below. subst (λ (ops : List Op). IsPrefixOf ops (operations_of trace p)) (sym (append-nil (done_by p history))) (h.in_order p below))
decide_order trace history Closing h may = inl (λ p below. subst (λ (ops : List Op). IsPrefixOf ops (operations_of trace p)) (sym (append-nil (done_by p history))) (h.in_order p below))

-- A history with one event more is begun, or not.
pub decide_begun : (trace : Trace) (history : List Event) (e : Event) → IsBegun trace history → Decided (IsBegun trace (history ++ e ∷ []))
decide_begun trace history e h =
    decide_as (λ w. record {
      legal = legal_append trace (opening trace) history (e ∷ []) h.legal (w.0, tt);
      in_order = λ p below. subst (λ (ops : List Op). IsPrefixOf ops (operations_of trace p)) (sym (done_append p history (e ∷ []))) (w.1 p below);
    })
    (λ b. ((legal_rest trace (opening trace) history (e ∷ []) b.legal).0, λ p below. subst (λ (ops : List Op). IsPrefixOf ops (operations_of trace p)) (done_append p history (e ∷ [])) (b.in_order p below)))
    (decide_then (decide_possible trace (run trace (opening trace) history) e) (decide_order trace history e h))
