-- A refused operation counts as done, and changes nothing else.
use Rattle.std.proofs.Common.{◌≡◌, ℕ, ap, Option, Some, None, refl}
use Rattle.k_types.specs.declared.event.Event.TheVariants.{Done as DoneEvent}
use Rattle.k_types.specs.declared.event.Fault.{Fault}
use Rattle.k_types.specs.declared.event.Reply.{Reply}
use Rattle.k_types.specs.declared.event.Reply.TheVariants.{Refused}
use Rattle.k_types.specs.declared.names.Pid.{Pid}
use Rattle.k_types.specs.declared.op.Op.{Op}
use Rattle.k_types.specs.Effects.{after_operation, effect_unless, step}
use Rattle.k_types.specs.Replies.{answer, faults, first_fault, refused_or, reply_to}
use Rattle.k_types.specs.State.{State}
use Rattle.k_types.specs.Trace.{Trace}
use Rattle.k_types.specs.Updates.{count_done}
use Rattle.k_laws.proofs.Answers.{no_refusal}

-- where there is a fault the effect is left out
left_out : (trace : Trace) (st : State) (p : ℕ) (op : Op) (fault : Fault) (first : Option Fault) (reply : Reply) → (reply ≡ Refused fault → ⊥) →
    refused_or first reply ≡ Refused fault → effect_unless first trace p op st ≡ st
left_out trace st p op fault None reply never e = absurd (never e)
left_out trace st p op fault (Some first) reply never e = refl

pub refused_stays : (trace : Trace) (st : State) (pid : Pid) (op : Op) (fault : Fault) → reply_to trace st pid.0 op ≡ Refused fault →
    step trace st (DoneEvent pid op (Refused fault)) ≡ count_done pid.0 st
unfolding step after_operation reply_to
refused_stays trace st pid op fault e =
    ap (λ (su : State). count_done pid.0 su)
    (left_out trace st pid.0 op fault (first_fault (faults trace st pid.0 op)) (answer trace st pid.0 op) (no_refusal trace st pid.0 op fault) e)
