-- What contracts see of the table of processes and shared heaps.
use Rattle.std.specs.Prelude.{◌≡◌, ℕ, ◌==◌, ◌&&◌, ◌||◌, not, Bool, List, [], length, find, replicate, slice_set, Option, if◌then◌else◌}
use Rattle.k_types.specs.declared.names.Phase.{Phase}
use Rattle.k_types.specs.declared.names.SharedId.{SharedId}
use Rattle.k_types.specs.declared.names.Phase.TheVariants.{Unmade}
use Rattle.k_types.specs.Names.{among}
use Rattle.k_types.specs.Numbers.{numbers_below}
use Rattle.k_types.specs.Owners.{is_absorbed, phase_of}
use Rattle.k_types.specs.State.{Sharing, has_share}
use Rattle.k_types.specs.Steps.{has_sharer, is_live}
use Rattle.k_types.specs.Totals.{total}

-- the number of processes and those that have ended; who shares what; the phase and the bytes of each shared heap
pub record ShareValue : Type 0 where
  pub procs : ℕ
  pub ended : List ℕ
  pub shares : List Sharing
  pub phases : List Phase
  pub shared_bytes : List ℕ

-- every process lives, and no shared heap is made
abbrev pub unshared : ℕ → ℕ → ShareValue
unshared procs heaps = record {
  procs = procs;
  ended = [];
  shares = [];
  phases = replicate heaps Unmade;
  shared_bytes = replicate heaps 0;
}

-- the shared heap was made, isn't absorbed, and nobody shares it
abbrev pub is_orphan_by : List Phase → List Sharing → ℕ → Bool
is_orphan_by phases shares s = is_live (phase_of phases s) && not (has_sharer shares s)

-- the number of a shared heap
abbrev pub heap_number : SharedId → ℕ
heap_number s = s.0

-- the orphan of the lowest number
abbrev pub lowest_orphan : List Phase → List Sharing → Option ℕ
lowest_orphan phases shares = find (is_orphan_by phases shares) (numbers_below (length phases))

-- the process shares the heap too, and no other share comes or goes
abbrev pub GainsShare : List Sharing → List Sharing → ℕ → ℕ → Type 0
GainsShare old new p s = (q t : ℕ) → has_share new q t ≡ (has_share old q t || ((p == q) && (s == t)))

-- the process doesn't share the heap any more, and no other share comes or goes
abbrev pub LosesShare : List Sharing → List Sharing → ℕ → ℕ → Type 0
LosesShare old new p s = (q t : ℕ) → has_share new q t ≡ (has_share old q t && not ((p == q) && (s == t)))

-- the process has ended too, and no other
abbrev pub GainsEnded : List ℕ → List ℕ → ℕ → Type 0
GainsEnded old new p = (q : ℕ) → among q new ≡ (among q old || (p == q))

-- how many of so many processes are not among those that have ended
abbrev pub living_of : List ℕ → ℕ → ℕ
living_of ended count = total (λ p. if among p ended then 0 else 1) (numbers_below count)

-- the bytes of the shared heaps once that one is in the phase: an absorbed one has none
abbrev pub bytes_in_phase : List ℕ → ℕ → Phase → List ℕ
bytes_in_phase shared_bytes s phase = if is_absorbed phase then slice_set shared_bytes s 0 else shared_bytes
