-- Sums that are kept in numbers of 64 bits.
use Rattle.std.specs.Prelude.{◌≡◌, ℕ, ◌<◌, ◌-◌, ◌^◌, List, min, slice_index_or}

-- The first n numbers are those sums, or the greatest number of 64 bits where a sum is more.
abbrev pub AreSums : List ℕ → (ℕ → ℕ) → ℕ → Type 0
AreSums numbers sum n = (k : ℕ) → k < n → slice_index_or numbers k 0 ≡ min (sum k) (2 ^ 64 - 1)
