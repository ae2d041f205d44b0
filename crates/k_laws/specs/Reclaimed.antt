-- What is left when every process has ended.
use Rattle.std.specs.Prelude.{◌≡◌, ℕ, [], ◌∷◌, length}
use Rattle.k_types.specs.declared.names.Name.{Name}
use Rattle.k_types.specs.declared.names.Heap.TheVariants.{Kernel}
use Rattle.k_types.specs.Names.{directory}
use Rattle.k_types.specs.Trace.{Trace}
use Rattle.k_types.specs.State.{State, has}
use Rattle.k_types.specs.Limits.{limits_in, use_of, use_within}
use Rattle.k_types.specs.Reach.{reach_in}

-- the objects are those that the directory reaches, there is no exit item and no share, and nothing is charged: the use of each
-- limit is that of the limits alone
pub record IsReclaimed (trace : Trace) (st : State) : Type 0 where
  pub objects : (n : Name) → has st.objects n ≡ has (reach_in trace st Kernel (directory ∷ [])) n
  pub exits : st.exits ≡ []
  pub shares : st.shares ≡ []
  pub uses : (m : ℕ) → use_of trace st m ≡ use_within (limits_in trace st) (λ q. 0) (length (limits_in trace st)) m
