-- What is looked at when a worked history ends.
use Rattle.std.specs.Prelude.{ℕ, suc, Bool, List, [], ◌∷◌, ◌++◌, map, length, Option, Some, None}
use Rattle.k_types.specs.declared.names.TypeId.{TypeId}
use Rattle.k_types.specs.declared.names.Name.{Name}
use Rattle.k_types.specs.declared.names.Heap.{Heap}
use Rattle.k_types.specs.declared.names.Heap.TheVariants.{Kernel}
use Rattle.k_types.specs.declared.names.Phase.{Phase}
use Rattle.k_types.specs.declared.event.Event.{Event}
use Rattle.k_types.specs.Numbers.{numbers_below}
use Rattle.k_types.specs.Owners.{owner_of, bytes_of, charge_of, shared}
use Rattle.k_types.specs.Limits.{use_of}
use Rattle.k_types.specs.Reach.{live_everywhere}
use Rattle.k_types.specs.Cells.{entries, pins}
use Rattle.k_types.specs.Trace.{Trace, segment_count}
use Rattle.k_types.specs.State.{State, Object, Content, ExitItem, Sharing, Scan}
use Rattle.k_types.specs.Steps.{state_after}

-- an object of that name and type with these fields
abbrev pub object : Name → Option TypeId → List Content → Object
object n ty fields = record { name = n; ty = ty; fields = fields }

-- an exit item of the heap
abbrev pub item : Heap → Name → ExitItem
item h n = record { heap = h; target = n }

-- a share of the process
abbrev pub sharing : ℕ → ℕ → Sharing
sharing p heap = record { process = p; heap = heap }

-- an open collection of the heap with these roots
abbrev pub scan : Heap → List Name → Scan
scan h roots = record { heap = h; roots = roots }

-- a register of a process that holds an object
pub record Holding : Type 0 where
  pub process : ℕ
  pub register : ℕ
  pub object : Name

-- the register of the process holds the object
abbrev pub holding : ℕ → ℕ → Name → Holding
holding p r n = record { process = p; register = r; object = n }

-- what the registers of the process hold, from that register on; nothing is written for a null
abbrev holdings_from : ℕ → ℕ → List (Option Name) → List Holding
holdings_from p r [] = []
holdings_from p r (None ∷ registers) = holdings_from p (suc r) registers
holdings_from p r (Some n ∷ registers) = holding p r n ∷ holdings_from p (suc r) registers

-- what the registers of all processes hold, from that process on
abbrev holdings : ℕ → List (List (Option Name)) → List Holding
holdings p [] = []
holdings p (registers ∷ rest) = holdings_from p 0 registers ++ holdings (suc p) rest

-- the objects; the serials given in each segment; the registers that are not null; the operations done by each process; the
-- owner of each segment; the phases; who has ended; open collections; whether the last collection has begun; bytes of the
-- kernel's heap, the use and the maximum of each limit, the charge of each process, bytes of the shared heaps; exit items and shares; and of
-- each object, in their order, the number of heaps with an exit item to it and of registers of other processes that hold it
pub record Left : Type 0 where
  pub graph : List Object
  pub made : List ℕ
  pub registers : List Holding
  pub done : List ℕ
  pub owners : List Heap
  pub phases : List Phase
  pub ended : List ℕ
  pub scans : List Scan
  pub closed : Bool
  pub kernel : ℕ
  pub uses : List ℕ
  pub maxima : List ℕ
  pub charges : List ℕ
  pub shared_bytes : List ℕ
  pub exits : List ExitItem
  pub shares : List Sharing
  pub entries : List ℕ
  pub pins : List ℕ

-- the same of a state
abbrev pub left_in : Trace → State → Left
left_in trace st = record {
  graph = st.objects;
  made = st.made;
  registers = holdings 0 st.registers;
  done = st.done;
  owners = map (owner_of trace st) (numbers_below (segment_count trace));
  phases = st.phases;
  ended = st.ended;
  scans = st.scans;
  closed = st.closed;
  kernel = bytes_of trace st Kernel;
  uses = map (use_of trace st) (numbers_below (length trace.limits));
  maxima = st.maxima;
  charges = map (charge_of trace st) (numbers_below (length trace.procs));
  shared_bytes = map (λ s. bytes_of trace st (shared s)) (numbers_below trace.shared_heaps);
  exits = st.exits;
  shares = st.shares;
  entries = map (λ o. entries st o.name) st.objects;
  pins = map (λ o. pins trace st o.name) st.objects;
}

-- the same after a history
abbrev pub left_by : Trace → List Event → Left
left_by trace history = left_in trace (state_after trace history)

-- the objects that can still be used after a history, by name
abbrev pub live_by : Trace → List Event → List Name
live_by trace history = map (λ o. o.name) (live_everywhere trace (state_after trace history))
