-- Where the reading of a report's events ends.
use Rattle.std.specs.Prelude.{◌≡◌, ◌+◌, ℕ, List, ◌∷◌, length, codes}
use Rattle.k_types.specs.declared.event.Event.{Event}
use Rattle.k_words.specs.Words.{Text}
use Rattle.k_trace.specs.Named.{NamedTrace}
use Rattle.k_history.specs.Good.{IsReadUpTo, IsRefusedAt}
use Rattle.k_check.specs.declared.lines.Stop.{Stop}
use Rattle.k_check.specs.declared.lines.Stop.TheVariants.{Graph, Wrong}

-- The history was read up to the line `graph`, which has this number.
pub record IsAtGraph (t : NamedTrace) (report : Text) (history : List Event) (n : ℕ) : Type 0 where
  pub behind : List Text
  pub read : IsReadUpTo t report history (codes "graph" ∷ behind)
  pub number : n ≡ length history + 2

-- The reading ended at the line `graph`, or at the line at which the report is refused.
abbrev pub IsStop : NamedTrace → Text → List Event → Stop → Type 0
IsStop t report history (Graph n) = IsAtGraph t report history n
IsStop t report history (Wrong n) = IsRefusedAt t report n
