-- What a write does to the texts that a sink agrees with.
use Rattle.std.specs.Prelude.{ℕ, List, ◌++◌, take, Result, MatchResult}

-- Where the sink agreed with a text, it agrees now with that text and bs behind it.
abbrev pub Takes : (List ℕ → List ℕ → Type 0) → (List ℕ → List ℕ → Type 0) → List ℕ → Type 0
Takes old new bs = (given xs : List ℕ) → old given xs → new given (xs ++ bs)

-- The same of a front of bs.
abbrev pub TakesFront : (List ℕ → List ℕ → Type 0) → (List ℕ → List ℕ → Type 0) → List ℕ → Type 0
TakesFront old new bs = (n : ℕ) × Takes old new (take n bs)

-- A write that was done took the first n bytes of the piece; one that failed took none.
abbrev pub WriteTakes : {E : Type 0} → (List ℕ → List ℕ → Type 0) → (List ℕ → List ℕ → Type 0) → Result ℕ E → List ℕ → Type 0
WriteTakes old new result piece = MatchResult result (λ n. Takes old new (take n piece)) (λ _. (given xs : List ℕ) → old given xs → new given xs)
