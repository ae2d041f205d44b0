-- Events that don't touch a cell leave its part and its count of touches as they were, and its process has done nothing.
use Rattle.std.proofs.Common.{◌≡◌, ℕ, ◌+◌, ◌==◌, cond, true, false, refl, ap, ◌∙◌, inl, inr, List, [], ◌∷◌, ◌++◌, append-nil, arith, IsFalse, IsTrue, sym, Option, Some, option_map}
use Rattle.std.proofs.lemmas.Bool.{cases_Bool, or_left}
use Rattle.k_types.specs.declared.names.Pid.{Pid}
use Rattle.k_types.specs.declared.op.Op.{Op}
use Rattle.k_types.specs.declared.event.Reply.{Reply}
use Rattle.k_types.specs.declared.event.Event.{Event}
use Rattle.k_types.specs.declared.event.Event.TheVariants.{Done, Ended, Absorbed, Closing}
use Rattle.k_types.specs.Trace.{Trace}
use Rattle.k_types.specs.State.{State, opening}
use Rattle.k_types.specs.Owners.{user}
use Rattle.k_types.specs.Effects.{step}
use Rattle.k_types.specs.Cells.{Cell, part, touches, cells_touched, ProcessPart}
use Rattle.k_types.specs.Steps.{IsRun, run, IsLegalHistory, state_after, touch_count_from, touch_count, done_by}
use Rattle.k_laws.proofs.FrameSteps.{frame}
use Rattle.k_laws.proofs.Histories.{run_append, legal_rest, touches_append, done_append}
use Rattle.k_laws.specs.PartUpdates.{done_in, process_with_done}

pub part_kept : (trace : Trace) (c : Cell) (st : State) (events : List Event) → IsRun trace st events → touch_count_from trace st c events ≡ 0 → part trace (run trace st events) c ≡ part trace st c
part_kept trace c st [] legal none = refl
part_kept trace c st (event ∷ events) legal none =
    elim (touches trace st event c) as (λ b. touches trace st event c ≡ b → cond b 1 0 + touch_count_from trace (step trace st event) c events ≡ 0 → part trace (run trace (step trace st event) events) c ≡ part trace st c) [
      | true ↦ λ t n. absurd (omega arith)
      | false ↦ λ f n. part_kept trace c (step trace st event) events legal.1 (omega arith) ∙ frame trace st event c legal.0 f
    ] refl none

-- a cell that the later events don't touch is as it was after the first ones
pub untouched : (trace : Trace) (c : Cell) (known rest : List Event) → IsLegalHistory trace (known ++ rest) → touch_count trace c (known ++ rest) ≡ touch_count trace c known →
    part trace (state_after trace (known ++ rest)) c ≡ part trace (state_after trace known) c
untouched trace c known rest legal same =
    ap (λ s. part trace s c) (run_append trace (opening trace) known rest)
    ∙ part_kept trace c (state_after trace known) rest (legal_rest trace (opening trace) known rest legal)
    (let split = touches_append trace (opening trace) c known rest in omega arith)

pub count_kept : (trace : Trace) (c : Cell) (history : List Event) (event : Event) → IsFalse (touches trace (state_after trace history) event c) → touch_count trace c (history ++ event ∷ []) ≡ touch_count trace c history
count_kept trace c history event apart =
    let split = touches_append trace (opening trace) c history (event ∷ []) in
    let none : touch_count_from trace (state_after trace history) c (event ∷ []) ≡ 0 = ap (λ b. cond b 1 0 + 0) apart in
    omega arith

pub count_raised : (trace : Trace) (c : Cell) (history : List Event) (event : Event) → IsTrue (touches trace (state_after trace history) event c) → touch_count trace c (history ++ event ∷ []) ≡ touch_count trace c history + 1
count_raised trace c history event meets =
    let split = touches_append trace (opening trace) c history (event ∷ []) in
    let one : touch_count_from trace (state_after trace history) c (event ∷ []) ≡ 1 = ap (λ b. cond b 1 0 + 0) meets in
    omega arith

-- as many touches after the later events as before them are none in them
pub none_touch : (trace : Trace) (c : Cell) (known rest : List Event) → touch_count trace c (known ++ rest) ≡ touch_count trace c known → touch_count_from trace (state_after trace known) c rest ≡ 0
none_touch trace c known rest same = let split = touches_append trace (opening trace) c known rest in omega arith

-- an operation of the process touches its cell
own_touched : (trace : Trace) (st : State) (pid : Pid) (op : Op) (said : Reply) (p : ℕ) → (pid.0 == p) ≡ true → touches trace st (Done pid op said) (user p) ≡ true
unfolding cells_touched
own_touched trace st pid op said p same = or_left _ _ same

nothing_done : (trace : Trace) (p : ℕ) (st : State) (events : List Event) → touch_count_from trace st (user p) events ≡ 0 → done_by p events ≡ []
nothing_done trace p st [] none = refl
nothing_done trace p st (Done pid op said ∷ events) none =
    elim (cases_Bool (pid.0 == p)) [
      | inl own ↦ absurd (let one = ap (λ b. cond b 1 0 + touch_count_from trace (step trace st (Done pid op said)) (user p) events) (own_touched trace st pid op said p own) in omega (arith, none, one))
      | inr other ↦
          ap (λ b. cond b (op ∷ done_by p events) (done_by p events)) other
          ∙ nothing_done trace p (step trace st (Done pid op said)) events (omega (arith, none))
    ]
nothing_done trace p st (Ended h a b c d ∷ events) none = nothing_done trace p (step trace st (Ended h a b c d)) events (omega (arith, none))
nothing_done trace p st (Absorbed s ∷ events) none = nothing_done trace p (step trace st (Absorbed s)) events (omega (arith, none))
nothing_done trace p st (Closing ∷ events) none = nothing_done trace p (step trace st Closing) events (omega (arith, none))

-- the process of a cell that the later events don't touch has done nothing since
pub idle_since : (trace : Trace) (p : ℕ) (known rest : List Event) → touch_count trace (user p) (known ++ rest) ≡ touch_count trace (user p) known → done_by p (known ++ rest) ≡ done_by p known
idle_since trace p known rest same =
    done_append p known rest
    ∙ ap (λ ops. done_by p known ++ ops) (nothing_done trace p (state_after trace known) rest (let split = touches_append trace (opening trace) (user p) known rest in omega arith))
    ∙ append-nil (done_by p known)

pub one_counted : (process : Option ProcessPart) (q : ProcessPart) → process ≡ Some q → done_in (option_map process_with_done process) ≡ done_in process + 1
one_counted process q is = ap (λ (p : Option ProcessPart). done_in (option_map process_with_done p)) is ∙ sym (ap (λ (p : Option ProcessPart). done_in p + 1) is)
