-- A machine that has taken a possible step is sound again.
use Rattle.std.proofs.Common.{◌≡◌, ◌↔◌, Bool, true, false, refl, ap, subst, sym, ◌∙◌, Result, Ok, Err}
use Rattle.std.specs.Prelude.{IfOk, IsFalse, IsTrue, OnErr, OnOk}
use Rattle.k_types.specs.declared.no_memory.NoMemory.{NoMemory}
use Rattle.k_types.specs.declared.names.Pid.{Pid}
use Rattle.k_types.specs.declared.op.Op.{Op}
use Rattle.k_types.specs.declared.event.Reply.{Reply}
use Rattle.k_types.specs.declared.event.Event.{Event}
use Rattle.k_types.specs.declared.event.Event.TheVariants.{Done}
use Rattle.k_types.specs.Trace.{Trace}
use Rattle.k_types.specs.TraceRules.{AreLimits}
use Rattle.k_types.specs.Sound.{IsSound}
use Rattle.k_types.specs.Replies.{reply_to}
use Rattle.k_types.specs.Effects.{step}
use Rattle.k_types.specs.Steps.{IsPossible}
use Rattle.k_laws.proofs.SoundSteps.{step_sound}
use Rattle.k_scan.specs.k_state.Machines.{Machine}
use Rattle.k_plain.specs.Sounds.{IsSoundMachine}

moved_sound : (before after : Machine) (event : Event) → IsSoundMachine before → IsPossible before.setup before.state event → after.setup ≡ before.setup →
    after.state ≡ step before.setup before.state event → IsSoundMachine after
moved_sound before after event sound may setup state = record {
  limits = subst AreLimits (sym setup) sound.limits;
  sound = subst (λ (t : Trace). IsSound t after.state) (sym setup)
      (subst (IsSound before.setup) (sym state) (step_sound before.setup sound.limits before.state sound.sound event may));
}

-- after a step, or where memory was wanting
pub stepped_sound : {A : Type 0} (before after : Machine) (event : Event) (result : Result A NoMemory) → IsSoundMachine before →
    IsPossible before.setup before.state event → after.setup ≡ before.setup →
    OnOk result (after.state ≡ step before.setup before.state event) → OnErr result (after ≡ before) → IsSoundMachine after
stepped_sound before after event (Ok a) sound may setup state err = moved_sound before after event sound may setup state
stepped_sound before after event (Err e) sound may setup state err = subst IsSoundMachine (sym err) sound

-- after a step that is taken where it is possible, or where memory was wanting
pub tried_sound : (before after : Machine) (event : Event) (result : Result Bool NoMemory) → IsSoundMachine before → after.setup ≡ before.setup →
    IfOk result (λ had. IsTrue had ↔ IsPossible before.setup before.state event) →
    IfOk result (λ had. IsTrue had → after.state ≡ step before.setup before.state event) → IfOk result (λ had. IsFalse had → after ≡ before) →
    OnErr result (after ≡ before) → IsSoundMachine after
tried_sound before after event (Ok true) sound setup possible stepped same err = moved_sound before after event sound (possible.0 refl) setup (stepped refl)
tried_sound before after event (Ok false) sound setup possible stepped same err = subst IsSoundMachine (sym (same refl)) sound
tried_sound before after event (Err e) sound setup possible stepped same err = subst IsSoundMachine (sym err) sound

-- after an operation, or where memory was wanting
pub operated_sound : (before after : Machine) (pid : Pid) (op : Op) (result : Result Reply NoMemory) → IsSoundMachine before →
    IsPossible before.setup before.state (Done pid op (reply_to before.setup before.state pid.0 op)) → after.setup ≡ before.setup →
    IfOk result (λ said. said ≡ reply_to before.setup before.state pid.0 op) →
    IfOk result (λ said. after.state ≡ step before.setup before.state (Done pid op said)) → OnErr result (after ≡ before) → IsSoundMachine after
operated_sound before after pid op (Ok said) sound may setup reply state err =
    moved_sound before after (Done pid op (reply_to before.setup before.state pid.0 op)) sound may setup
    (state ∙ ap (λ r. step before.setup before.state (Done pid op r)) reply)
operated_sound before after pid op (Err e) sound may setup reply state err = subst IsSoundMachine (sym err) sound
