-- How far a writer of several lines has come.
use Rattle.std.specs.Prelude.{◌≡◌, ℕ, List}
use Rattle.k_io.specs.Taking.{Takes}

-- The text was written so far, and the sink had no fault.
pub record HasWritten (old new : List ℕ → List ℕ → Type 0) (before now : ℕ) (text : List ℕ) : Type 0 where
  pub taken : Takes old new text
  pub steady : now ≡ before
