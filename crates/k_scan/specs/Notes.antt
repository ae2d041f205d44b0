-- Marks beside the exit items, by which it is noted what references lead to.
use Rattle.std.specs.Prelude.{◌≡◌, ◌||◌, ℕ, Bool, false, List, length, slice_index_or}
use Rattle.k_types.specs.declared.names.Heap.{Heap}
use Rattle.k_types.specs.declared.names.Name.{Name}
use Rattle.k_types.specs.State.{ExitItem}
use Rattle.k_state.specs.Links.{IsExitAt}

-- the heap's last exit item to each target that passes the test is marked from now on
pub record HasNoted (exits : List ExitItem) (h : Heap) (test : Name → Bool) (old new : List Bool) : Type 0 where
  pub size : length new ≡ length old
  pub marks : (n : Name) (at : ℕ) → IsExitAt exits h n at → slice_index_or new at false ≡ (slice_index_or old at false || test n)

-- the mark of the heap's last exit item to each target is what the test says of the target
pub record AreNoted (exits : List ExitItem) (h : Heap) (test : Name → Bool) (noted : List Bool) : Type 0 where
  pub size : length noted ≡ length exits
  pub marks : (n : Name) (at : ℕ) → IsExitAt exits h n at → slice_index_or noted at false ≡ test n
