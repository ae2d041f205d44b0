-- How many events the lines of a trace are.
use Rattle.std.proofs.Common.{◌≡◌, ℕ, ◌+◌, ◌*◌, ◌≤◌, Bool, true, false, ap, sym, ◌∙◌, List, [], ◌++◌, map, length, Option, Some, None, arith, if◌then◌else◌}
use Rattle.std.proofs.lemmas.List.{length-append, length-map}
use Rattle.k_types.specs.declared.event.Event.{Event}
use Rattle.k_types.specs.declared.event.Event.TheVariants.{Closing, Done}
use Rattle.k_types.specs.declared.names.Heap.{Heap}
use Rattle.k_types.specs.declared.names.Heap.TheVariants.{Kernel}
use Rattle.k_types.specs.declared.names.Pid.{Pid}
use Rattle.k_types.specs.declared.op.Op.{Op}
use Rattle.k_types.specs.Complete.{all_ended}
use Rattle.k_types.specs.FileOrder.{absorptions, events_of, heap_begun, last_events, with_end}
use Rattle.k_types.specs.Replies.{reply_to}
use Rattle.k_types.specs.State.{State}
use Rattle.k_types.specs.Steps.{run}
use Rattle.k_types.specs.Trace.{Trace}
use Rattle.k_filed.specs.Taken.{first_events}
use Rattle.k_filed.proofs.Absorptions.{few_absorptions, few_first}

end_length : (trace : Trace) (st : State) (event : Event) (begun : Option Heap) → length (with_end trace st event begun) ≤ 2
end_length trace st event None = omega arith
end_length trace st event (Some h) = omega arith

-- an operation is at most two events, after an absorption of each shared heap
pub few_events : (setup : Trace) (st : State) (p : ℕ) (op : Op) → setup.shared_heaps ≤ 64 → length (events_of setup st p (Some op)) ≤ 66
few_events setup st p op few =
    let first = first_events setup st op in
    let now = run setup st first in
    let rest = with_end setup now (Done (record { 0 = p }) op (reply_to setup now p op)) (heap_begun p op) in
    let le : length rest ≤ 2 = end_length setup now (Done (record { 0 = p }) op (reply_to setup now p op)) (heap_begun p op) in
    let le2 : length first ≤ setup.shared_heaps = few_first setup st op in
    let both : length (first ++ rest) ≡ length first + length rest = length-append first rest in
    omega (arith, le, le2, both, few)

-- and so are the last events
pub few_last : (setup : Trace) (st : State) → setup.shared_heaps ≤ 64 → length (last_events setup st) ≤ 66
few_last setup st few = go (all_ended setup st)
  where
    go : (b : Bool) → length (if b then (absorptions setup st ++ with_end setup (run setup st (absorptions setup st)) Closing (Some Kernel)) else []) ≤ 66
    go true =
        omega (
          arith,
          length-append (absorptions setup st) (with_end setup (run setup st (absorptions setup st)) Closing (Some Kernel)),
          few_absorptions setup st,
          end_length setup (run setup st (absorptions setup st)) Closing (Some Kernel),
          few,
        )
    go false = omega arith

-- the journal of one operation more
pub few_more : (old new taken : List Event) (i : ℕ) → new ≡ old ++ taken → length taken ≤ 66 → length old ≤ 66 * i → length new ≤ 66 * (i + 1)
few_more old new taken i is few before = omega (arith, ap (λ (es : List Event). length es) is, length-append old taken, few, before)

-- the order is as long as its processes
pub order_length : (pids : List Pid) (order : List ℕ) → map (λ (pid : Pid). pid.0) pids ≡ order → length pids ≡ length order
order_length pids order is = sym (length-map pids (λ (pid : Pid). pid.0)) ∙ ap (λ (ps : List ℕ). length ps) is
