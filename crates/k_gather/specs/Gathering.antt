-- What a sink that gathers tells, by the sink to which it hands on.
use Rattle.std.specs.Prelude.{◌≡◌, ℕ, ◌≤◌, List, [], ◌∷◌, ◌++◌, length}

-- It was made over a sink that agreed with a text of so many bytes: this number stands before what that sink was made over. It agrees with
-- each text that the sink agrees with now and that is at least as long, with what is gathered behind it.
abbrev pub Gathers : (List ℕ → List ℕ → Type 0) → List ℕ → List ℕ → List ℕ → Type 0
Gathers inner held [] xs = ⊥
Gathers inner held (count ∷ given) xs = (taken : List ℕ) × inner given taken × (count ≤ length taken) × (xs ≡ taken ++ held)

-- Where a sink agreed with a text, it agrees with it now.
abbrev pub Keeps : (List ℕ → List ℕ → Type 0) → (List ℕ → List ℕ → Type 0) → Type 0
Keeps old new = (given xs : List ℕ) → old given xs → new given xs
