-- What registers hold lies in a segment of the trace.
use Rattle.std.proofs.Common.{◌≡◌, ℕ, refl, Option, Some, None}
use Rattle.std.specs.Prelude.{IfSome}
use Rattle.k_types.specs.declared.names.Name.{Name}
use Rattle.k_types.specs.Known.{IsKnownName}
use Rattle.k_types.specs.Sound.{IsSound}
use Rattle.k_types.specs.State.{State, register}
use Rattle.k_types.specs.Trace.{Trace}
use Rattle.k_laws.proofs.SoundStore.{register_holds}

pub held_known : (trace : Trace) (st : State) (p r : ℕ) → IsSound trace st → IfSome (register st.registers p r) (IsKnownName trace)
held_known trace st p r sound =
    go (register st.registers p r) (λ n e. (sound.shape.placed n (sound.no_dangling.registers p n (register_holds st.registers p r n e))).1)
  where
    go : (o : Option Name) → ((n : Name) → o ≡ Some n → IsKnownName trace n) → IfSome o (IsKnownName trace)
    go None gives = tt
    go (Some n) gives = gives n refl
