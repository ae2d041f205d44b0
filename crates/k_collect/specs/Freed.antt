-- The names of the objects that the end of a collection frees.
use Rattle.std.specs.Prelude.{◌≡◌, ℕ, ◌+◌, ◌&&◌, ◌++◌, ◌∷◌, [], not, List, if◌then◌else◌}
use Rattle.k_types.specs.declared.event.Event.{Event}
use Rattle.k_types.specs.declared.names.Name.{Name}
use Rattle.k_types.specs.State.{State, has}
use Rattle.k_types.specs.Steps.{state_after}
use Rattle.k_types.specs.Trace.{Trace}
use Rattle.k_mark.specs.Listening.{times}

-- 1 for an object that the first state has and the second has not
abbrev pub gone_between : State → State → Name → ℕ
gone_between before after n = if has before.objects n && not (has after.objects n) then 1 else 0

-- the names of the objects that the machine has after this history, and no more after the event, came to those that were there, each once
pub record AreFreed (trace : Trace) (history : List Event) (event : Event) (old new : List Name) : Type 0 where
  pub once : (n : Name) → times n new ≡ times n old + gone_between (state_after trace history) (state_after trace (history ++ event ∷ [])) n
