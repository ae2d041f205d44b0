-- What a sink in memory has taken, and how many writes to it have failed.
use Rattle.std.specs.Prelude.{ℕ, List}

pub record TakenValue : Type 0 where
  pub taken : List ℕ
  pub faults : ℕ
