-- Where no heap is scanned there is no open collection, and the last events of a history.
use Rattle.std.proofs.Common.{◌≡◌, ℕ, zero, ◌-◌, ◌<◌, not, Bool, true, false, refl, sym, ap, List, [], is_some, Option}
use Rattle.k_types.specs.declared.names.Heap.{Heap}
use Rattle.k_types.specs.declared.names.Heap.TheVariants.{Kernel, User, Shared}
use Rattle.k_types.specs.declared.names.Name.{Name}
use Rattle.k_types.specs.Owners.{user}
use Rattle.k_types.specs.Sound.{IsSound}
use Rattle.k_types.specs.State.{State, is_scanned}
use Rattle.k_types.specs.Trace.{IsHeap, Trace, process_count}
use Rattle.k_laws.proofs.NothingWaits.{no_scans_open}

-- no process's heap and not the kernel is scanned
pub quiet_all : (trace : Trace) (st : State) → IsSound trace st → ((p : ℕ) → p < process_count trace → is_scanned st.scans (user p) ≡ false) → is_scanned st.scans Kernel ≡ false →
    st.scans ≡ []
quiet_all trace st sound users kernel = no_scans_open trace st sound go
  where
    go : (h : Heap) → IsHeap trace h → is_scanned st.scans h ≡ false
    go Kernel known = kernel
    go (User p) known = users p.0 known
    go (Shared s) known = ap (λ (r : Option (List Name)). is_some r) (sound.scans.none_shared s.0)

pub off_not : (b : Bool) → not b ≡ true → b ≡ false
off_not true e = sym e
off_not false e = refl
