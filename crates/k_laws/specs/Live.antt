-- What can still be used: the least set that holds what is used at once and all that it refers to.
use Rattle.std.specs.Prelude.{◌≡◌, ℕ, Bool, IsFalse, IsTrue}
use Rattle.k_types.specs.declared.names.Name.{Name}
use Rattle.k_types.specs.Names.{among, directory}
use Rattle.k_types.specs.Owners.{owner_of, shared}
use Rattle.k_types.specs.State.{State, has, in_registers, refers_in}
use Rattle.k_types.specs.Trace.{Trace}

-- the set has what the registers of living processes hold, the directory, the objects of each shared heap that is not absorbed, and
-- what its objects refer to, whatever heaps own them
pub record HoldsWhatIsLive (trace : Trace) (st : State) (kept : Name → Bool) : Type 0 where
  pub registers : (p : ℕ) (n : Name) → IsFalse (among p st.ended) → IsTrue (in_registers st.registers p n) → IsTrue (kept n)
  pub root : IsTrue (kept directory)
  pub shared_heaps : (s : ℕ) (n : Name) → owner_of trace st n.seg.0 ≡ shared s → IsTrue (has st.objects n) → IsTrue (kept n)
  pub references : (from to : Name) → IsTrue (kept from) → IsTrue (refers_in st.objects from to) → IsTrue (kept to)

-- the set has objects of the state alone, holds what is live, and is part of each other that does
pub record IsLeastLive (trace : Trace) (st : State) (live : Name → Bool) : Type 0 where
  pub there : (n : Name) → IsTrue (live n) → IsTrue (has st.objects n)
  pub holds : HoldsWhatIsLive trace st live
  pub least : (kept : Name → Bool) → HoldsWhatIsLive trace st kept → (n : Name) → IsTrue (live n) → IsTrue (kept n)
