-- An event that comes next: it is possible, and does its process's next operation.
use Rattle.std.proofs.Common.{◌≡◌, ◌∙◌, ℕ, ◌<◌, Bool, true, false, eqb, List, [], ◌∷◌, ◌++◌, length, Some, None, refl, sym, ap, subst, append_assoc}
use Rattle.std.specs.Prelude.{slice_get}
use Rattle.std.proofs.lemmas.List.{append-nil}
use Rattle.k_types.specs.declared.op.Op.{Op}
use Rattle.k_types.specs.declared.names.Pid.{Pid}
use Rattle.k_types.specs.declared.event.Reply.{Reply}
use Rattle.k_types.specs.declared.event.Event.{Event}
use Rattle.k_types.specs.declared.event.Event.TheVariants.{Done, Ended, Absorbed, Closing}
use Rattle.k_types.specs.Complete.{IsPrefixOf}
use Rattle.k_types.specs.State.{opening}
use Rattle.k_types.specs.Steps.{IsPossible, done_by, state_after}
use Rattle.k_types.specs.Trace.{Trace, process_count, operations_of}
use Rattle.k_laws.proofs.Histories.{done_append, legal_append, legal_rest}
use Rattle.k_reports.specs.Begun.{IsBegun}
use Rattle.k_history.proofs.Possible.{at_process, itself}
use Rattle.k_check.specs.Turns.{IsInTurn}

-- ---- an event that comes next

stays_in_order : (trace : Trace) (history : List Event) (p : ℕ) → IsPrefixOf (done_by p history) (operations_of trace p) → IsPrefixOf (done_by p history ++ []) (operations_of trace p)
stays_in_order trace history p first = subst (λ (ops : List Op). IsPrefixOf ops (operations_of trace p)) (sym (append-nil (done_by p history))) first

order_with : (trace : Trace) (history : List Event) (e : Event) → IsInTurn trace history e → (p : ℕ) → IsPrefixOf (done_by p history) (operations_of trace p)
    → IsPrefixOf (done_by p history ++ done_by p (e ∷ [])) (operations_of trace p)
order_with trace history (Done pid op said) turn p first = at_process trace history pid.0 p op (done_by p (Done pid op said ∷ [])) (eqb pid.0 p) refl refl turn.1 first
order_with trace history (Ended h a b c d) turn p first = stays_in_order trace history p first
order_with trace history (Absorbed s) turn p first = stays_in_order trace history p first
order_with trace history Closing turn p first = stays_in_order trace history p first

-- A history goes on with an event that is possible and in turn.
pub begun_with : (trace : Trace) (history : List Event) (e : Event) → IsBegun trace history → IsInTurn trace history e → IsPossible trace (state_after trace history) e → IsBegun trace (history ++ e ∷ [])
begun_with trace history e begun turn may = record {
  legal = legal_append trace (opening trace) history (e ∷ []) begun.legal (may, tt);
  in_order = λ p below. subst (λ (ops : List Op). IsPrefixOf ops (operations_of trace p)) (sym (done_append p history (e ∷ []))) (order_with trace history e turn p (begun.in_order p below));
}

-- An event with which a history goes on is possible.
pub may_come : (trace : Trace) (history : List Event) (e : Event) → IsBegun trace (history ++ e ∷ []) → IsPossible trace (state_after trace history) e
may_come trace history e begun = (legal_rest trace (opening trace) history (e ∷ []) begun.legal).0

-- And it is in turn.
pub turn_of : (trace : Trace) (history : List Event) (e : Event) → IsBegun trace (history ++ e ∷ []) → IsInTurn trace history e
turn_of trace history (Done pid op said) begun =
    let known = (may_come trace history (Done pid op said) begun).known in
    let now : done_by pid.0 (Done pid op said ∷ []) ≡ op ∷ [] = rw (itself pid.0) refl in
    (known, subst (λ (ops : List Op). IsPrefixOf ops (operations_of trace pid.0)) (done_append pid.0 history (Done pid op said ∷ []) ∙ ap (λ (ops : List Op). done_by pid.0 history ++ ops) now) (begun.in_order pid.0 known))
turn_of trace history (Ended h a b c d) begun = tt
turn_of trace history (Absorbed s) begun = tt
turn_of trace history Closing begun = tt

-- ---- the next operation of a process

get_behind : (done rest : List Op) → slice_get (done ++ rest) (length done) ≡ slice_get rest 0
get_behind [] rest = refl
get_behind (o ∷ done) rest = get_behind done rest

-- The operation at that place comes next.
pub next_is : (done ops : List Op) (op : Op) → IsPrefixOf done ops → slice_get ops (length done) ≡ Some op → IsPrefixOf (done ++ op ∷ []) ops
next_is done ops op first is = go first.0 (sym (get_behind done first.0) ∙ ap (λ (xs : List Op). slice_get xs (length done)) first.1 ∙ is) first.1
  where
    go : (rest : List Op) → slice_get rest 0 ≡ Some op → done ++ rest ≡ ops → IsPrefixOf (done ++ op ∷ []) ops
    go [] e all = absurd (cc e)
    go (o ∷ rest) e all = (rest, append_assoc done (op ∷ []) rest ∙ (let same : op ≡ o = cc e in ap (λ (x : Op). done ++ x ∷ rest) same) ∙ all)

-- And what comes next is at that place.
pub next_at : (done ops : List Op) (op : Op) → IsPrefixOf (done ++ op ∷ []) ops → slice_get ops (length done) ≡ Some op
next_at done ops op first =
    ap (λ (xs : List Op). slice_get xs (length done)) (sym first.1 ∙ append_assoc done (op ∷ []) first.0) ∙ get_behind done (op ∷ first.0)

-- ---- whether an operation is the next one

pub turn_if : (trace : Trace) (history : List Event) (e : Event) (pid : Pid) (op next : Op) (said : Reply) (b : Bool) → IsBegun trace history → e ≡ Done pid op said → pid.0 < process_count trace
    → slice_get (operations_of trace pid.0) (length (done_by pid.0 history)) ≡ Some next → (b ≡ true → next ≡ op) × (next ≡ op → b ≡ true) → (b ≡ true → IsInTurn trace history e) × (IsInTurn trace history e → b ≡ true)
turn_if trace history e pid op next said b begun is known found same = (
  λ t. subst (IsInTurn trace history) (sym is) (known, next_is (done_by pid.0 history) (operations_of trace pid.0) op (begun.in_order pid.0 known) (found ∙ ap (λ (x : Op). Some x) (same.0 t))),
  λ turn. same.1 (let at = next_at (done_by pid.0 history) (operations_of trace pid.0) op (subst (IsInTurn trace history) is turn).1 in let both : Some next ≡ Some op = sym found ∙ at in cc),
)

pub turn_none : (trace : Trace) (history : List Event) (e : Event) (pid : Pid) (op : Op) (said : Reply) → e ≡ Done pid op said
    → slice_get (operations_of trace pid.0) (length (done_by pid.0 history)) ≡ None → (false ≡ true → IsInTurn trace history e) × (IsInTurn trace history e → false ≡ true)
turn_none trace history e pid op said is found = (
  λ t. absurd cc,
  λ turn. absurd (let at = next_at (done_by pid.0 history) (operations_of trace pid.0) op (subst (IsInTurn trace history) is turn).1 in let both : None ≡ Some op = sym found ∙ at in cc),
)
