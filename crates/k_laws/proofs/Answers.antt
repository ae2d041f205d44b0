-- What an operation is never answered.
use Rattle.std.proofs.Common.{◌≡◌, ℕ}
use Rattle.k_types.specs.declared.op.Op.{Op}
use Rattle.k_types.specs.declared.op.Op.TheVariants.{New}
use Rattle.k_types.specs.declared.event.Fault.{Fault}
use Rattle.k_types.specs.declared.event.Reply.TheVariants.{Refused}
use Rattle.k_types.specs.Replies.{answer}
use Rattle.k_types.specs.State.{State}
use Rattle.k_types.specs.Trace.{Trace}

pub no_refusal : (trace : Trace) (st : State) (p : ℕ) (op : Op) (fault : Fault) → answer trace st p op ≡ Refused fault → ⊥
unfolding answer
no_refusal trace st p (New r ty) fault e = cc e
no_refusal trace st p _ fault e = cc e
