-- What a run that was opened for a trace asks and gives, told of the trace.
use Rattle.std.proofs.Common.{Result, sym, subst}
use Rattle.std.specs.Prelude.{IfOk}
use Rattle.k_types.specs.Trace.{Trace}
use Rattle.k_run.specs.k_outcome.k_process.Worlds.{WorldValue}
use Rattle.k_run.specs.k_outcome.k_process.Heaps.{value_of}
use Rattle.k_run.specs.k_outcome.k_process.BetweenSteps.{AllStand}
use Rattle.k_run.specs.Opening.{IsSetupOf}
use Rattle.k_run.specs.k_outcome.Ends.{EndValue}
use Rattle.k_run.specs.k_outcome.Listed.{AreRoomsFor}
use Rattle.k_trace.specs.Named.{NamedTrace}
use Rattle.k_run.specs.k_opening.declared.still.Still.{Still}
use Rattle.k_run.specs.Opened.{named_in, trace_in, world_in}
use Rattle.k_run.specs.Runs.{IsRunOf}
use Rattle.k_run.specs.Stills.{IsOpenedStill}
use Rattle.k_run.proofs.Told.{named_told, trace_told, world_told}

module _ (named : NamedTrace) (still : Still) (o : IsOpenedStill named still) where
  pub stands_told : AllStand (world_in still.cells) (value_of still.cells.heaps)
  stands_told = subst (λ (w : WorldValue). AllStand w (value_of still.cells.heaps)) (world_told named still.cells o.cells) o.cells.stands

  pub setup_told : IsSetupOf still.cells.setup (world_in still.cells)
  setup_told = subst (λ (w : WorldValue). IsSetupOf still.cells.setup w) (world_told named still.cells o.cells) o.cells.setup

  pub rooms_told : AreRoomsFor (trace_in still.cells) still.rooms
  rooms_told = subst (λ (t : Trace). AreRoomsFor t still.rooms) (trace_told named still.cells o.cells) o.rooms

  pub run_told : {E : Type 0} (end : Result EndValue E) → IfOk end (IsRunOf (named_in still.cells)) → IfOk end (IsRunOf named)
  run_told end run = subst (λ (n : NamedTrace). IfOk end (IsRunOf n)) (sym (named_told named still.cells o.cells)) run
