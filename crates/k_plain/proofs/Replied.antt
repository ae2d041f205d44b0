-- What the reply to an operation says of its effect.
use Rattle.std.proofs.Common.{◌≡◌, ℕ, refl, sym, ◌∙◌, Option, Some, None, Result, Ok, Err}
use Rattle.std.specs.Prelude.{OnOk}
use Rattle.k_types.specs.declared.no_memory.NoMemory.{NoMemory}
use Rattle.k_types.specs.declared.op.Op.{Op}
use Rattle.k_types.specs.declared.event.Fault.{Fault}
use Rattle.k_types.specs.declared.event.Reply.{Reply}
use Rattle.k_types.specs.declared.event.Reply.TheVariants.{Refused}
use Rattle.k_types.specs.Effects.{effect, effect_unless}
use Rattle.k_types.specs.Replies.{answer, faults, first_fault, refused_or, reply_to}
use Rattle.k_types.specs.State.{State}
use Rattle.k_types.specs.Trace.{Trace}
use Rattle.k_laws.proofs.Answers.{no_refusal}

-- what is refused has no effect
pub refused_keeps : (trace : Trace) (st : State) (p : ℕ) (op : Op) (fault : Fault) → Refused fault ≡ reply_to trace st p op →
    st ≡ effect_unless (first_fault (faults trace st p op)) trace p op st
unfolding reply_to
refused_keeps trace st p op fault e = go (first_fault (faults trace st p op)) e
  where
    go : (f : Option Fault) → Refused fault ≡ refused_or f (answer trace st p op) → st ≡ effect_unless f trace p op st
    go None e = absurd (no_refusal trace st p op fault (sym e))
    go (Some f) e = refl

-- and what is not has its effect
pub answered_takes : (trace : Trace) (st : State) (p : ℕ) (op : Op) (said : Reply) → ((fault : Fault) → said ≡ Refused fault → ⊥) → said ≡ reply_to trace st p op →
    effect trace p op st ≡ effect_unless (first_fault (faults trace st p op)) trace p op st
unfolding reply_to
answered_takes trace st p op said other e = go (first_fault (faults trace st p op)) e
  where
    go : (f : Option Fault) → said ≡ refused_or f (answer trace st p op) → effect trace p op st ≡ effect_unless f trace p op st
    go None e = refl
    go (Some f) e = absurd (other f e)

pub effect_taken : {A : Type 0} (trace : Trace) (st now : State) (p : ℕ) (op : Op) (said : Reply) (result : Result A NoMemory) → ((fault : Fault) → said ≡ Refused fault → ⊥) → said ≡ reply_to trace st p op →
    OnOk result (now ≡ effect trace p op st) → OnOk result (now ≡ effect_unless (first_fault (faults trace st p op)) trace p op st)
effect_taken trace st now p op said (Ok a) other e taken = taken ∙ answered_takes trace st p op said other e
effect_taken trace st now p op said (Err b) other e taken = tt
