-- How the table is kept. No public clause cites this file.
use Rattle.std.specs.Prelude.{◌≡◌, ℕ, ◌+◌, ◌*◌, ◌<◌, ◌^◌, not, Bool, false, List, [], ◌∷◌, ◌++◌, map, filter, length, slice_index_or}
use Rattle.k_types.specs.declared.names.Phase.{Phase}
use Rattle.k_types.specs.Numbers.{numbers_below}
use Rattle.k_types.specs.State.{Sharing}
use Rattle.k_shares.specs.Sharers.{ShareValue}

-- the place of a process and a shared heap among the bits, where there are so many shared heaps
unfoldable pub place_of : ℕ → ℕ → ℕ → ℕ
place_of heaps p s = p * heaps + s

-- the bit at a place
abbrev pub bit_at : List Bool → ℕ → Bool
bit_at bits i = slice_index_or bits i false

-- the process shares the heap
abbrev pub bit_of : ℕ → List Bool → ℕ → ℕ → Bool
bit_of heaps bits p s = bit_at bits (place_of heaps p s)

-- a share
abbrev pub sharing : ℕ → ℕ → Sharing
sharing p s = record { process = p; heap = s }

-- the shares of one process
abbrev pub shares_by : (ℕ → ℕ → Bool) → ℕ → ℕ → List Sharing
shares_by test heaps p = map (sharing p) (filter (test p) (numbers_below heaps))

-- the shares of these processes, one process after another
abbrev pub shares_of_all : (ℕ → ℕ → Bool) → ℕ → List ℕ → List Sharing
shares_of_all test heaps [] = []
shares_of_all test heaps (p ∷ ps) = shares_by test heaps p ++ shares_of_all test heaps ps

-- who shares what
unfoldable pub shares_in : ℕ → ℕ → List Bool → List Sharing
shares_in heaps procs bits = shares_of_all (bit_of heaps bits) heaps (numbers_below procs)

-- the processes that don't live
unfoldable pub ended_in : List Bool → List ℕ
ended_in alive = filter (λ p. not (bit_at alive p)) (numbers_below (length alive))

-- what is seen of the lists of the table
abbrev pub shown : List Bool → List Bool → List Phase → List ℕ → ShareValue
shown alive bits phases bytes = record {
  procs = length alive;
  ended = ended_in alive;
  shares = shares_in (length phases) (length alive) bits;
  phases = phases;
  shared_bytes = bytes;
}

-- the lists have one place for each process, each shared heap, and each pair of both
pub record HaveSizes (alive bits : List Bool) (phases : List Phase) (bytes : List ℕ) : Type 0 where
  pub pairs : length bits ≡ length alive * length phases
  pub heaps : length bytes ≡ length phases
  pub few_procs : length alive < 2 ^ 32
  pub few_heaps : length phases < 2 ^ 32
