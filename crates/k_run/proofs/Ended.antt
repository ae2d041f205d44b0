-- The end of a run is the run of its trace.
use Rattle.std.proofs.Common.{◌≡◌, ℕ, sym, ap, subst, List, []}
use Rattle.k_types.specs.declared.setup.Setup.{Setup}
use Rattle.k_types.specs.Trace.{Trace, trace_of}
use Rattle.k_laws.proofs.OrderLaws.{ended_histories_leave_what_the_directory_reaches}
use Rattle.k_laws.specs.Setups.{setup_of}
use Rattle.k_trace.specs.Named.{DeclaredNames, NamedTrace}
use Rattle.k_opening.specs.k_outcome.k_process.Over.{OutcomeValue}
use Rattle.k_opening.specs.k_outcome.Ends.{EndsRun}
use Rattle.k_opening.specs.k_outcome.Listed.{AreRoomsFor, CanEnd}
use Rattle.k_run.specs.Runs.{IsRunOf}

-- a trace of the setup has that setup
pub setup_same : (setup : Setup) (trace : Trace) → trace ≡ trace_of setup trace.operations trace.order → trace_of setup [] [] ≡ setup_of trace
setup_same setup trace is = sym (ap setup_of is)

-- what has ended can be put together as an end, where there are rooms
pub can_end : (trace : Trace) (setup : Setup) (o : OutcomeValue) (rooms : List ℕ) → trace ≡ trace_of setup trace.operations trace.order → EndsRun trace (setup_of trace) o → AreRoomsFor trace rooms →
    CanEnd trace (trace_of setup [] []) o rooms
can_end trace setup o rooms is ended room = record {
  over = subst (λ (s : Trace). EndsRun trace s o) (sym (setup_same setup trace is)) ended;
  room = room;
}

-- a run that is over is a run of its trace
pub ended_run : (named : NamedTrace) (names : DeclaredNames) (setup : Trace) (o : OutcomeValue) → EndsRun named.trace (setup_of named.trace) o → names ≡ named.names → setup ≡ setup_of named.trace →
    IsRunOf named (record { names = names; setup = setup; cells = o })
ended_run named names setup o ended same_names same_setup = record {
  names = same_names;
  setup = same_setup;
  legal = ended.outcome.legal;
  complete = ended.outcome.complete;
  sound = ended.outcome.sound;
  reclaimed = ended_histories_leave_what_the_directory_reaches named.trace o.book.journal.list ended.rules.limits ended.outcome.legal ended.outcome.complete;
}
