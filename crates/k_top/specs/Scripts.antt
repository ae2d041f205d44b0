-- The run of a script that the source gave.
use Rattle.std.specs.Prelude.{◌≡◌}
use Rattle.k_types.specs.FileOrder.{file_order}
use Rattle.k_trace.specs.Named.{NamedTrace}
use Rattle.k_run.specs.k_outcome.Ends.{EndValue, journal_of}
use Rattle.k_run.specs.Runs.{IsRunOf}
use Rattle.k_status.specs.Ends.{Input}
use Rattle.k_answers.specs.Scripts.{GaveScript}

-- The source gave a script, and this is the end of a run of its translation in the order of the file.
pub record HasReplayed (input : Input) (end : EndValue) : Type 0 where
  pub trace : NamedTrace
  pub gave : GaveScript input trace
  pub run : IsRunOf trace end
  pub in_order : journal_of end ≡ file_order trace.trace
