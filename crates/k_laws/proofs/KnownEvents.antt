-- Each event of a run from a sound state names what the trace declares, and a tail has operations alone.
use Rattle.std.proofs.Common.{sym, subst, List, [], ◌∷◌}
use Rattle.k_types.specs.declared.event.Event.{Event}
use Rattle.k_types.specs.declared.event.Event.TheVariants.{Done, Ended, Absorbed, Closing}
use Rattle.k_types.specs.Trace.{Trace}
use Rattle.k_types.specs.TraceRules.{AreLimits}
use Rattle.k_types.specs.State.{State, opening, scan_of}
use Rattle.k_types.specs.Effects.{step}
use Rattle.k_types.specs.Known.{IsKnownEvent, IsKnownReply}
use Rattle.k_types.specs.Steps.{IsLegalHistory, IsPossible, IsRun}
use Rattle.k_types.specs.Sound.{IsSound}
use Rattle.k_types.proofs.Objects.{some_is}
use Rattle.k_laws.proofs.SoundOpening.{opening_sound}
use Rattle.k_laws.proofs.SoundSteps.{step_sound}
use Rattle.k_laws.specs.Fits.{AreKnownEvents}
use Rattle.k_laws.proofs.Replied.{reply_known}

event_known : (trace : Trace) → AreLimits trace → (st : State) → IsSound trace st → (event : Event) → IsPossible trace st event → IsKnownEvent trace event
event_known trace limits st sound (Done pid op said) may =
    (may.known, may.in_range, subst (IsKnownReply trace) (sym may.replied) (reply_known trace st limits sound pid.0 may.known op may.in_range))
event_known trace limits st sound (Ended h a b c d) may = let roots = some_is (scan_of st.scans h) may.scanned in sound.shape.known.scanned h roots.0 roots.1
event_known trace limits st sound (Absorbed s) may = may.known
event_known trace limits st sound Closing may = tt

run_known : (trace : Trace) → AreLimits trace → (st : State) → IsSound trace st → (events : List Event) → IsRun trace st events → AreKnownEvents trace events
run_known trace limits st sound [] legal = tt
run_known trace limits st sound (event ∷ events) legal =
    (event_known trace limits st sound event legal.0, run_known trace limits (step trace st event) (step_sound trace limits st sound event legal.0) events legal.1)

pub history_known : (trace : Trace) (history : List Event) → AreLimits trace → IsLegalHistory trace history → AreKnownEvents trace history
history_known trace history limits legal = run_known trace limits (opening trace) (opening_sound trace limits) history legal
