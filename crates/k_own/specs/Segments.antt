-- A heap's segment that is given to the kernel whole.
use Rattle.std.specs.Prelude.{◌≡◌, ◌≢◌, ℕ, ◌+◌, ◌<◌, ◌^◌, [], slice_index_or, slice_set, IsTrue, is_some, None}
use Rattle.k_types.specs.declared.names.CellPhase.TheVariants.{Idle}
use Rattle.k_types.specs.Owners.{object_bytes}
use Rattle.k_types.specs.Totals.{total}
use Rattle.k_commit.specs.k_cell.Holdings.{HoldingsValue}
use Rattle.k_laws.specs.CellChanges.{either_of, with_objects}

-- the heap has that segment alone, which the kernel has not and has a number for; no collection is open, and the bytes of both fit
-- 64 bits
pub record CanGive (seg : ℕ) (heap kernel : HoldingsValue) : Type 0 where
  pub there : IsTrue (is_some (slice_index_or heap.value.made seg None))
  pub alone : (k : ℕ) → k ≢ seg → slice_index_or heap.value.made k None ≡ None
  pub new : slice_index_or kernel.value.made seg None ≡ None
  pub number : seg < kernel.bound
  pub idle : heap.value.collection ≡ Idle
  pub kernel_idle : kernel.value.collection ≡ Idle
  pub bytes : total object_bytes heap.value.objects + total object_bytes kernel.value.objects < 2 ^ 64

-- the heap has no object and no segment any more; the kernel has both beside its own, and the segment's room for serials
pub record HasGiven (seg : ℕ) (heap given kernel taken : HoldingsValue) : Type 0 where
  pub given_is : given ≡ record heap { value = record heap.value { objects = []; made = given.value.made }; serial_rooms = slice_set heap.serial_rooms seg None }
  pub none : (k : ℕ) → slice_index_or given.value.made k None ≡ None
  pub taken_is : taken ≡ record kernel {
    value = record kernel.value { objects = with_objects heap.value.objects kernel.value.objects; made = taken.value.made };
    serial_rooms = slice_set kernel.serial_rooms seg (slice_index_or heap.serial_rooms seg None);
  }
  pub made : (k : ℕ) → slice_index_or taken.value.made k None ≡ either_of (slice_index_or kernel.value.made k None) (slice_index_or heap.value.made k None)
