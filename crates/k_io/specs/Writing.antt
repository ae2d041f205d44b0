-- What a call that writes a text to a sink does.
use Rattle.std.specs.Prelude.{◌≡◌, ℕ, zero, suc, List, [], ◌++◌, Result, OnOk, OnErr}
use Rattle.k_io.specs.Causes.{HasCause}
use Rattle.k_io.specs.Taking.{Takes, TakesFront}

-- The whole text was taken, and the sink had no fault; or, after a fault of the sink, a front of it.
pub record Writes {T E : Type 0} (old new : List ℕ → List ℕ → Type 0) (before now : ℕ) (result : Result T E) (text : List ℕ) : Type 0 where
  pub ok : OnOk result (Takes old new text)
  pub err : OnErr result (TakesFront old new text)
  pub steady : OnOk result (now ≡ before)
  pub cause : HasCause before now result

-- The texts of the numbers below n, one after the other.
unfoldable pub up_to : (ℕ → List ℕ) → ℕ → List ℕ
up_to f zero = []
up_to f (suc n) = up_to f n ++ f n
