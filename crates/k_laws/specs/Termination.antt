-- What the end of a process leaves.
use Rattle.std.specs.Prelude.{◌≡◌, ◌≢◌, ℕ, ◌+◌, ◌==◌, ◌||◌, IsTrue, IsFalse, ◌&&◌, ◌⊎◌, [], slice_index_or, replicate, None, false, if◌then◌else◌}
use Rattle.k_types.specs.declared.names.Name.{Name}
use Rattle.k_types.specs.declared.names.Heap.{Heap}
use Rattle.k_types.specs.declared.names.Heap.TheVariants.{Kernel}
use Rattle.k_types.specs.Names.{heap_eq, among}
use Rattle.k_types.specs.Trace.{Trace, limit_of}
use Rattle.k_types.specs.State.{State, has_exit, has_share}
use Rattle.k_types.specs.Owners.{owner_of, user, charge_of}
use Rattle.k_types.specs.Limits.{limits_in, use_of, path_of}
use Rattle.k_types.specs.Reach.{is_shared_heap}

-- the process was charged this, and is charged nothing now: the use of each limit on the path of its limit has fallen by it,
-- and every other limit's use and every other process's charge is as it was
pub record CreditsTheCharge (trace : Trace) (st : State) (p : ℕ) (after : State) : Type 0 where
  pub own : charge_of trace after p ≡ 0
  pub others : (q : ℕ) → q ≢ p → charge_of trace after q ≡ charge_of trace st q
  pub uses : (m : ℕ) → use_of trace st m ≡ use_of trace after m + (if among m (path_of (limits_in trace st) (limit_of trace p)) then charge_of trace st p else 0)

-- an exit item after the process p has ended: one of another heap, unless it is the kernel's into the process's heap, or one
-- of the kernel that the process's heap had into a shared heap
abbrev pub StaysOrPasses : Trace → State → ℕ → Heap → Name → Type 0
StaysOrPasses trace st p h n =
    (IsTrue (has_exit st.exits h n) × IsFalse (heap_eq h (user p)) × IsFalse (heap_eq h Kernel && heap_eq (owner_of trace st n.seg.0) (user p)))
    ⊎ ((h ≡ Kernel) × IsTrue (has_exit st.exits (user p) n) × IsTrue (is_shared_heap (owner_of trace st n.seg.0)))

-- no object goes or changes; the process's registers and shares go, and those of the others stay
pub record LeavesTheRest (st : State) (p : ℕ) (after : State) : Type 0 where
  pub objects : after.objects ≡ st.objects
  pub made : after.made ≡ st.made
  pub done : after.done ≡ st.done
  pub phases : after.phases ≡ st.phases
  pub scans : after.scans ≡ st.scans
  pub closed : after.closed ≡ st.closed
  pub maxima : after.maxima ≡ st.maxima
  pub ended : (q : ℕ) → among q after.ended ≡ (among q st.ended || (p == q))
  pub registers : slice_index_or after.registers p [] ≡ replicate 16 None
  pub other_registers : (q : ℕ) → q ≢ p → slice_index_or after.registers q [] ≡ slice_index_or st.registers q []
  pub shares : (s : ℕ) → has_share after.shares p s ≡ false
  pub other_shares : (q s : ℕ) → q ≢ p → has_share after.shares q s ≡ has_share st.shares q s
