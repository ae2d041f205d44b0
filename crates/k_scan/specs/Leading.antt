-- Into which shared heaps the exit items lead that stay.
use Rattle.std.specs.Prelude.{◌≡◌, ◌&&◌, ℕ, ◌<◌, Bool, false, List, slice_index_or}
use Rattle.std.specs.List.{list_any}
use Rattle.k_types.specs.declared.names.Heap.{Heap}
use Rattle.k_types.specs.Effects.{exit_stays, lies_in}
use Rattle.k_types.specs.Names.{heap_eq}
use Rattle.k_types.specs.State.{ExitItem, State}
use Rattle.k_types.specs.Trace.{Trace}

-- one of these exit items is the heap's, leads into the shared heap and stays
abbrev pub leads_in : Trace → State → Heap → List ExitItem → ℕ → Bool
leads_in trace st h exits s = list_any (λ x. heap_eq x.heap h && lies_in trace st s x.target && exit_stays trace st h x) exits

-- the marks of the shared heaps, as far as there can be some, say into which of them one leads
abbrev pub AreLed : Trace → State → Heap → List ExitItem → List Bool → Type 0
AreLed trace st h exits led = (s : ℕ) → s < 64 → slice_index_or led s false ≡ leads_in trace st h exits s
