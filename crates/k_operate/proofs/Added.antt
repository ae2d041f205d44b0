-- What an operation adds, from what its pieces add.
use Rattle.std.proofs.Common.{◌≡◌, ◌++◌, refl, sym, ap, ◌∙◌, subst, List, [], ◌∷◌, append-nil, append_assoc, false, Some}
use Rattle.std.proofs.lemmas.Bool.{false≢true}
use Rattle.k_types.specs.declared.event.Event.{Event}
use Rattle.k_types.specs.declared.event.Event.TheVariants.{Done, Ended}
use Rattle.k_types.specs.declared.event.Reply.{Reply}
use Rattle.k_types.specs.declared.names.Heap.{Heap}
use Rattle.k_types.specs.declared.names.Pid.{Pid}
use Rattle.k_types.specs.declared.op.Op.{Op}
use Rattle.k_types.specs.declared.op.Op.TheVariants.{Collect, Exit, KCollect}
use Rattle.k_types.specs.Agree.{CellValue}
use Rattle.k_types.specs.FileOrder.{heap_begun}
use Rattle.k_types.specs.Trace.{Trace}
use Rattle.k_process.specs.k_book.Books.{BookRecord}
use Rattle.k_process.specs.Locals.{local_answer}
use Rattle.k_process.specs.Stepped.{HasStepped}
use Rattle.k_process.specs.declared.process.Process.{Process}
use Rattle.k_operate.specs.Adding.{AddsEnd, AddsOne, AddsOperation, AreEnds, awaited, known_to}
use Rattle.k_operate.specs.Readiness.{begins_or_ends}

-- an operation that is done inside the heap is done by a step
pub local_steps : (v : CellValue) (p : Rattle.std.proofs.Common.ℕ) (op : Op) (said : Reply) → local_answer v p op ≡ Some said → begins_or_ends op ≡ false
unfolding local_answer
local_steps v p Collect said is = absurd cc
local_steps v p KCollect said is = absurd cc
local_steps v p Exit said is = absurd cc
local_steps v p _ said is = refl

-- an operation that is done by a step adds its own event alone
pub adds_step : (trace : Trace) (pid : Pid) (op : Op) (old new : List Event) → begins_or_ends op ≡ false → AddsOne pid op old new → AddsOperation trace pid op old new
adds_step trace pid Collect old new steps a = absurd (false≢true (sym steps))
adds_step trace pid KCollect old new steps a = absurd (false≢true (sym steps))
adds_step trace pid Exit old new steps a = absurd (false≢true (sym steps))
adds_step trace pid _ old new steps a = record { said = a.said; ends = []; are_ends = refl; new_is = a.new_is }

-- so does `exit`
pub adds_exit : (trace : Trace) (pid : Pid) (old new : List Event) → AddsOne pid Exit old new → AddsOperation trace pid Exit old new
adds_exit trace pid old new a = record { said = a.said; ends = []; are_ends = refl; new_is = a.new_is }

-- an operation that begins a collection adds its own event, after the absorptions for which it waits, and then the end
pub adds_with_end : (trace : Trace) (pid : Pid) (op : Op) (heap : Heap) (old mid after new : List Event) → heap_begun pid.0 op ≡ Some heap → mid ≡ old ++ awaited trace old op → AddsOne pid op mid after →
    AddsEnd heap after new → AddsOperation trace pid op old new
adds_with_end trace pid op heap old mid after new begins waits one end = record {
  said = one.said;
  ends = Ended heap end.objects end.bytes end.exits end.shares ∷ [];
  are_ends = subst (λ h. AreEnds h (Ended heap end.objects end.bytes end.exits end.shares ∷ [])) (sym begins)
      (record { objects = end.objects; bytes = end.bytes; exits = end.exits; shares = end.shares; new_is = refl });
  new_is =
      end.new_is
      ∙ ap (λ xs. xs ++ Ended heap end.objects end.bytes end.exits end.shares ∷ []) one.new_is
      ∙ append_assoc mid (Done pid op one.said ∷ []) (Ended heap end.objects end.bytes end.exits end.shares ∷ [])
      ∙ ap (λ xs. xs ++ Done pid op one.said ∷ Ended heap end.objects end.bytes end.exits end.shares ∷ []) waits
      ∙ append_assoc old (awaited trace old op) (Done pid op one.said ∷ Ended heap end.objects end.bytes end.exits end.shares ∷ []);
}

-- with nothing unpublished the journal is all
pub known_settled : (p : Process) (b : BookRecord) → p.cell.value.tail ≡ [] → known_to p b ≡ b.journal.list
known_settled p b none = ap (λ t. b.journal.list ++ t) none ∙ append-nil b.journal.list

-- what is added to the journal is added to what is known, where nothing is unpublished
pub adds_known : (trace : Trace) (op : Op) (pid : Pid) (p q : Process) (b l : BookRecord) → p.cell.value.tail ≡ [] → q.cell.value.tail ≡ [] → AddsOperation trace pid op b.journal.list l.journal.list →
    AddsOperation trace pid op (known_to p b) (known_to q l)
adds_known trace op pid p q b l none still a =
    subst (λ old. AddsOperation trace pid op old (known_to q l)) (sym (known_settled p b none))
    (subst (AddsOperation trace pid op b.journal.list) (sym (known_settled q l still)) a)

-- a step adds the operation's event
pub stepped_adds : (trace : Trace) (op : Op) (p q : Process) (b l : BookRecord) (event : Event) → begins_or_ends op ≡ false → p.cell.value.tail ≡ [] → HasStepped trace op p.cell q.cell b l event →
    AddsOperation trace p.cell.pid op (known_to p b) (known_to q l)
stepped_adds trace op p q b l event steps none s =
    adds_known trace op p.cell.pid p q b l none s.settled
    (adds_step trace p.cell.pid op b.journal.list l.journal.list steps (record { said = s.said; new_is = s.journal ∙ ap (λ e. b.journal.list ++ e ∷ []) s.event_is }))

-- an operation inside the heap adds its event behind the others that are unpublished
pub inside_adds : (trace : Trace) (op : Op) (p q : Process) (b : BookRecord) → begins_or_ends op ≡ false → AddsOne p.cell.pid op p.cell.value.tail q.cell.value.tail → AddsOperation trace p.cell.pid op (known_to p b) (known_to q b)
inside_adds trace op p q b steps a =
    adds_step trace p.cell.pid op (known_to p b) (known_to q b) steps
    (record { said = a.said; new_is = ap (λ t. b.journal.list ++ t) a.new_is ∙ sym (append_assoc b.journal.list p.cell.value.tail (Done p.cell.pid op a.said ∷ [])) })
