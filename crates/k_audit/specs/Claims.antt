-- What a snapshot says: a state, and what it claims of it beside.
use Rattle.std.specs.Prelude.{ℕ, false, List, [], ◌∷◌, ◌++◌, map, filter, length, replicate, if◌then◌else◌}
use Rattle.std.specs.List.{flat_map}
use Rattle.k_types.specs.declared.names.Heap.{Heap}
use Rattle.k_types.specs.declared.names.Heap.TheVariants.{Kernel}
use Rattle.k_types.specs.Limits.{use_of}
use Rattle.k_types.specs.Names.{among}
use Rattle.k_types.specs.Numbers.{numbers_below}
use Rattle.k_types.specs.Owners.{bytes_of, charge_of, owner_of, shared, user}
use Rattle.k_types.specs.State.{State, ExitItem, Sharing, has_share}
use Rattle.k_types.specs.Trace.{Trace, process_count}
use Rattle.k_text.specs.Shown.{exits_of}

-- What stands in the text beside the state: the owner of each object, the kernel's bytes and its ceiling, the use of each limit, the
-- charge of each process, and the bytes of each shared heap.
pub record Claims : Type 0 where
  pub owners : List Heap
  pub kernel : ℕ
  pub ceiling : ℕ
  pub uses : List ℕ
  pub charges : List ℕ
  pub shared_bytes : List ℕ

-- What a snapshot says.
pub record Snap : Type 0 where
  pub state : State
  pub claims : Claims

-- What is true of a state.
abbrev pub claims_of : Trace → State → Claims
claims_of trace st = record {
  owners = map (λ o. owner_of trace st o.name.seg.0) st.objects;
  kernel = bytes_of trace st Kernel;
  ceiling = trace.ceiling;
  uses = map (use_of trace st) (numbers_below (length trace.limits));
  charges = map (charge_of trace st) (numbers_below (process_count trace));
  shared_bytes = map (λ s. bytes_of trace st (shared s)) (numbers_below trace.shared_heaps);
}

-- The exit items of a heap, by segment and serial of their targets.
abbrev pub items_of : State → Heap → List ExitItem
items_of st h = map (λ n. record { heap = h; target = n }) (exits_of st.exits h)

-- The exit items by heap: the kernel's, those of the processes, those of the shared heaps.
abbrev pub exits_in_order : Trace → State → List ExitItem
exits_in_order trace st =
    items_of st Kernel
    ++ flat_map (λ p. items_of st (user p)) (numbers_below (process_count trace))
    ++ flat_map (λ s. items_of st (shared s)) (numbers_below trace.shared_heaps)

-- The share of a process in a shared heap, where it has one.
abbrev pub share_of : State → ℕ → ℕ → List Sharing
share_of st p s = if has_share st.shares p s then record { process = p; heap = s } ∷ [] else []

-- The shares, by process and shared heap.
abbrev pub shares_in_order : Trace → State → List Sharing
shares_in_order trace st = flat_map (λ p. flat_map (share_of st p) (numbers_below trace.shared_heaps)) (numbers_below (process_count trace))

-- The processes that have ended, in order.
abbrev pub ended_in_order : Trace → State → List ℕ
ended_in_order trace st = filter (λ p. among p st.ended) (numbers_below (process_count trace))

-- The state as a snapshot of it has it: its lists are in order, and nothing is scanned, closed or counted as done.
abbrev pub still : Trace → State → State
still trace st = record st {
  exits = exits_in_order trace st;
  shares = shares_in_order trace st;
  ended = ended_in_order trace st;
  scans = [];
  closed = false;
  done = replicate (process_count trace) 0;
}

-- The snapshot of a state.
abbrev pub snap_of : Trace → State → Snap
snap_of trace st = record { state = still trace st; claims = claims_of trace st }
