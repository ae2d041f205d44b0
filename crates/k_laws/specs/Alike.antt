-- States that a local operation cannot tell apart.
use Rattle.std.specs.Prelude.{◌≡◌, ◌<◌, IsFalse, ℕ, length}
use Rattle.k_types.specs.Names.{among}
use Rattle.k_types.specs.Owners.{user}
use Rattle.k_types.specs.Cells.{part}
use Rattle.k_types.specs.Trace.{Trace, process_count}
use Rattle.k_types.specs.State.{State}

-- what a local operation reads is the same in the two states
pub record Alike (trace : Trace) (p : ℕ) (st su : State) : Type 0 where
  pub known : p < process_count trace
  pub lives : IsFalse (among p st.ended)
  pub counted : p < length st.done
  pub counted_too : p < length su.done
  pub same : part trace st (user p) ≡ part trace su (user p)
