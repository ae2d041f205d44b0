-- What a run of a trace is, which all that stands above says of a run.
use Rattle.std.specs.Prelude.{◌≡◌, IsTrue}
use Rattle.k_types.specs.Complete.{IsComplete, all_ended}
use Rattle.k_types.specs.Sound.{IsSound}
use Rattle.k_types.specs.Steps.{IsLegalHistory, state_after}
use Rattle.k_laws.specs.Reclaimed.{IsReclaimed}
use Rattle.k_laws.specs.Setups.{setup_of}
use Rattle.k_trace.specs.Named.{NamedTrace}
use Rattle.k_opening.specs.k_outcome.Ends.{EndValue, journal_of}

-- the names and the setup are those of the trace, the journal is a legal and complete history of it, the state after the journal is sound, and
-- where every process has ended, all is reclaimed
pub record IsRunOf (named : NamedTrace) (end : EndValue) : Type 0 where
  pub names : end.names ≡ named.names
  pub setup : end.setup ≡ setup_of named.trace
  pub legal : IsLegalHistory named.trace (journal_of end)
  pub complete : IsComplete named.trace (journal_of end)
  pub sound : IsSound named.trace (state_after named.trace (journal_of end))
  pub reclaimed : IsTrue (all_ended named.trace (state_after named.trace (journal_of end))) → IsReclaimed named.trace (state_after named.trace (journal_of end))
