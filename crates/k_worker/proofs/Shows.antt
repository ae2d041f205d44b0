-- What a watched book publishes before its lock is given back.
use Rattle.std.proofs.Common.{◌≡◌, refl, ap, ◌∙◌, subst, List, [], ◌++◌}
use Rattle.std.proofs.lemmas.List.{append-nil}
use Rattle.k_types.specs.declared.event.Event.{Event}
use Rattle.k_types.specs.declared.names.Heap.{Heap}
use Rattle.k_types.specs.declared.names.Pid.{Pid}
use Rattle.k_types.specs.declared.op.Op.{Op}
use Rattle.k_types.specs.Complete.{IsPrefixOf}
use Rattle.k_types.specs.Trace.{Trace}
use Rattle.k_locks.specs.k_process.k_book.Books.{BookRecord}
use Rattle.k_locks.specs.k_process.declared.process.Process.{Process}
use Rattle.k_locks.specs.k_process.Worlds.{WorldValue}
use Rattle.k_operate.specs.Adding.{AddsEnd, AddsOne, AddsOperation, known_to}
use Rattle.k_operate.specs.Killing.{known_to_both}
use Rattle.k_operate.specs.Steps.{HasPublishedAll}
use Rattle.k_operate.proofs.Grown.{prefix_by, prefix_trans}

pub published_grows : (world : WorldValue) (q r : Process) (a b : BookRecord) → HasPublishedAll world q r a b → IsPrefixOf a.journal.list b.journal.list
published_grows world q r a b t = prefix_by a.journal.list b.journal.list q.cell.value.tail t.journal

pub one_grows : (pid : Pid) (op : Op) (h j : List Event) → AddsOne pid op h j → IsPrefixOf h j
one_grows pid op h j t = prefix_by h j _ t.new_is

pub end_grows : (heap : Heap) (h j : List Event) → AddsEnd heap h j → IsPrefixOf h j
end_grows heap h j t = prefix_by h j _ t.new_is

-- an operation between two moments at which nothing is unpublished
pub operation_grows : (trace : Trace) (pid : Pid) (op : Op) (p q : Process) (b l : BookRecord) → p.cell.value.tail ≡ [] → q.cell.value.tail ≡ [] → AddsOperation trace pid op (known_to p b) (known_to q l) → IsPrefixOf b.journal.list l.journal.list
operation_grows trace pid op p q b l none none_now t =
    let old : known_to p b ≡ b.journal.list = ap (λ (xs : List Event). b.journal.list ++ xs) none ∙ append-nil b.journal.list in
    let new : known_to q l ≡ l.journal.list = ap (λ (xs : List Event). l.journal.list ++ xs) none_now ∙ append-nil l.journal.list in
    subst (λ (xs : List Event). IsPrefixOf xs l.journal.list) old (subst (IsPrefixOf (known_to p b)) new (prefix_by (known_to p b) (known_to q l) _ t.new_is))

-- the kill of another process, after which nothing of the own is unpublished
pub kill_grows : (trace : Trace) (pid : Pid) (op : Op) (p t q : Process) (b l : BookRecord) → q.cell.value.tail ≡ [] → AddsOperation trace pid op (known_to_both p t b) (known_to q l) → IsPrefixOf b.journal.list l.journal.list
kill_grows trace pid op p t q b l none_now a =
    let new : known_to q l ≡ l.journal.list = ap (λ (xs : List Event). l.journal.list ++ xs) none_now ∙ append-nil l.journal.list in
    let own = prefix_by b.journal.list (known_to p b) p.cell.value.tail refl in
    let both = prefix_by (known_to p b) (known_to_both p t b) t.cell.value.tail refl in
    let all = subst (IsPrefixOf (known_to_both p t b)) new (prefix_by (known_to_both p t b) (known_to q l) _ a.new_is) in
    prefix_trans b.journal.list (known_to p b) l.journal.list own (prefix_trans (known_to p b) (known_to_both p t b) l.journal.list both all)
