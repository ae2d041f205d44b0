-- The last changes where a heap becomes the kernel's: on the book, and of the process or the phase.
use Rattle.std.specs.Prelude.{◌≡◌, ℕ, [], ◌∷◌, ◌++◌, slice_set}
use Rattle.k_types.specs.declared.event.Event.{Event}
use Rattle.k_types.specs.declared.names.Heap.TheVariants.{Kernel}
use Rattle.k_types.specs.declared.names.Name.{Name}
use Rattle.k_types.specs.declared.names.Phase.TheVariants.{Absorbed}
use Rattle.k_types.specs.Agree.{BookValue}
use Rattle.k_types.specs.Counted.{counted}
use Rattle.k_types.specs.State.{State}
use Rattle.k_types.specs.Steps.{state_after}
use Rattle.k_types.specs.Trace.{Trace}
use Rattle.k_commit.specs.k_book.Books.{BookRecord}
use Rattle.k_shares.specs.Sharers.{GainsEnded}

-- the state once the book's journal has that event too
abbrev pub state_with : Trace → BookRecord → Event → State
state_with trace book event = state_after trace (book.journal.list ++ event ∷ [])

-- each object is entered and pinned as often as before; the order of the items is free
pub record KeepsCounts (old new : BookValue) : Type 0 where
  pub entries : (n : Name) → counted new.entries n ≡ counted old.entries n
  pub pins : (n : Name) → counted new.pins n ≡ counted old.pins n

-- the shared heap is absorbed and has no bytes, and the segment is the kernel's; all else is as it was
pub record MarksAbsorbed (old new : BookRecord) (s seg : ℕ) : Type 0 where
  pub counts : KeepsCounts old.value new.value
  pub rest : new ≡ record old {
    value = record old.value {
      phases = slice_set old.value.phases s Absorbed;
      shared_bytes = slice_set old.value.shared_bytes s 0;
      homes = slice_set old.value.homes seg Kernel;
      entries = new.value.entries;
      pins = new.value.pins;
    };
  }

-- the process has ended, and the segment is the kernel's; all else is as it was
pub record MarksEnded (old new : BookRecord) (p seg : ℕ) : Type 0 where
  pub counts : KeepsCounts old.value new.value
  pub ended : GainsEnded old.value.ended new.value.ended p
  pub rest : new ≡ record old {
    value = record old.value {
      ended = new.value.ended;
      homes = slice_set old.value.homes seg Kernel;
      entries = new.value.entries;
      pins = new.value.pins;
    };
  }
