-- What was done is what was asked for.
use Rattle.std.proofs.Common.{Bool, IsFalse, IsTrue, ◌∙◌, sym}
use Rattle.std.proofs.lemmas.Bool.{false≢true}
use Rattle.k_slots.specs.Serving.{IsEither}

module _ {asked : Bool} {Done Else : Type 0} where
  pub done_is : IsTrue asked → Done → IsEither asked Done Else
  done_is is d = record { done = λ _. d; other = λ isnt. absurd (false≢true (sym isnt ∙ is)) }

  pub other_is : IsFalse asked → Else → IsEither asked Done Else
  other_is isnt d = record { done = λ is. absurd (false≢true (sym isnt ∙ is)); other = λ _. d }
