-- The events that an operation adds to a legal history are those of the file's order.
use Rattle.std.proofs.Common.{◌≡◌, ap, ◌∙◌, subst, List, [], ◌∷◌, ◌++◌, Option, Some, None}
use Rattle.k_types.specs.declared.event.Event.{Event}
use Rattle.k_types.specs.declared.event.Event.TheVariants.{Done}
use Rattle.k_types.specs.declared.event.Reply.{Reply}
use Rattle.k_types.specs.declared.names.Heap.{Heap}
use Rattle.k_types.specs.declared.names.Pid.{Pid}
use Rattle.k_types.specs.declared.op.Op.{Op}
use Rattle.k_types.specs.Effects.{step}
use Rattle.k_types.specs.FileOrder.{events_of, heap_begun, with_end}
use Rattle.k_types.specs.State.{State, opening}
use Rattle.k_types.specs.Steps.{IsLegalHistory, IsRun, run, state_after}
use Rattle.k_types.specs.Trace.{Trace}
use Rattle.k_laws.proofs.Histories.{legal_rest}
use Rattle.k_operate.specs.Adding.{AddsOperation, AreEnds, awaited}
use Rattle.k_complete.proofs.Closings.{end_is}

module _ (trace : Trace) where
  -- an event and the end of what it begins
  ends_are : (st : State) (event : Event) (begun : Option Heap) (ends : List Event) → AreEnds begun ends → IsRun trace (step trace st event) ends → event ∷ ends ≡ with_end trace st event begun
  ends_are st event None ends are legal = ap (λ es. event ∷ es) are
  ends_are st event (Some heap) ends are legal =
      let may = (subst (IsRun trace (step trace st event)) are.new_is legal).0 in
      ap (λ es. event ∷ es) are.new_is ∙ ap (λ e. event ∷ e ∷ []) (end_is trace (step trace st event) heap are.objects are.bytes are.exits are.shares may)

  -- the reply and the numbers are the only ones that are possible
  pub adds_events_of : (pid : Pid) (op : Op) (old new : List Event) → IsLegalHistory trace new → AddsOperation trace pid op old new → new ≡ old ++ events_of trace (state_after trace old) pid.0 (Some op)
  adds_events_of pid op old new legal adds =
      let st : State = state_after trace old in
      let first : List Event = awaited trace old op in
      let now : State = run trace st first in
      let rest = legal_rest trace (opening trace) old (first ++ Done pid op adds.said ∷ adds.ends) (subst (IsLegalHistory trace) adds.new_is legal) in
      let own = legal_rest trace st first (Done pid op adds.said ∷ adds.ends) rest in
      adds.new_is
      ∙ ap (λ es. old ++ (first ++ es))
      (ends_are now (Done pid op adds.said) (heap_begun pid.0 op) adds.ends adds.are_ends own.1 ∙ ap (λ (r : Reply). with_end trace now (Done pid op r) (heap_begun pid.0 op)) own.0.replied)
