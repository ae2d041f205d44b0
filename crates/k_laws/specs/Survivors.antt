-- What the end of a collection leaves.
use Rattle.std.specs.Prelude.{◌≡◌, ◌≢◌, ℕ, IsTrue, IsFalse, not, ◌&&◌, ◌||◌, ◌⊎◌, ◌↔◌, None, if◌then◌else◌}
use Rattle.k_types.specs.declared.names.Name.{Name}
use Rattle.k_types.specs.declared.names.Heap.{Heap}
use Rattle.k_types.specs.Names.{heap_eq}
use Rattle.k_types.specs.Trace.{Trace}
use Rattle.k_types.specs.State.{State, has, has_exit, has_share, in_registers, object_at, refers_in, scan_of}
use Rattle.k_types.specs.Owners.{owner_of, user, shared, phase_of}
use Rattle.k_types.specs.Reach.{reach_in}
use Rattle.k_types.specs.Replies.{is_populating}
use Rattle.k_types.specs.Effects.{open_roots}

-- an object of the heap refers to one that the heap doesn't own
pub record RefersOut (trace : Trace) (st : State) (h : Heap) (n : Name) : Type 0 where
  pub from : Name
  pub own : owner_of trace st from.seg.0 ≡ h
  pub out : IsFalse (heap_eq h (owner_of trace st n.seg.0))
  pub refers : IsTrue (refers_in st.objects from n)

-- the process still has a way into the shared heap: a register, or an exit item that is left; or it populates it
abbrev pub HasWayInto : Trace → State → State → ℕ → ℕ → Type 0
HasWayInto trace st after p s =
    ((n : Name) × IsTrue (in_registers st.registers p n) × (owner_of trace st n.seg.0 ≡ shared s))
    ⊎ ((n : Name) × IsTrue (has_exit after.exits (user p) n) × (owner_of trace st n.seg.0 ≡ shared s))
    ⊎ IsTrue (is_populating (phase_of st.phases s) p)

-- after the end of the collection of h the objects are those of other heaps and, as they were, those of h that the recorded
-- roots reach inside h; the exit items of h are the targets outside h of the fields of its objects; and a share of h's own
-- process is left where it still has a way into the shared heap. All else but the scan is as it was
pub record KeepsTheSurvivors (trace : Trace) (st : State) (h : Heap) (after : State) : Type 0 where
  pub objects : (n : Name) → has after.objects n ≡ (has st.objects n && (not (heap_eq (owner_of trace st n.seg.0) h) || has (reach_in trace st h (open_roots st h)) n))
  pub contents : (n : Name) → IsTrue (has after.objects n) → object_at after.objects n ≡ object_at st.objects n
  pub own_exits : (n : Name) → IsTrue (has_exit after.exits h n) ↔ RefersOut trace after h n
  pub other_exits : (g : Heap) (n : Name) → IsFalse (heap_eq g h) → has_exit after.exits g n ≡ has_exit st.exits g n
  pub own_shares : (p s : ℕ) → h ≡ user p → IsTrue (has_share after.shares p s) ↔ (IsTrue (has_share st.shares p s) × HasWayInto trace st after p s)
  pub other_shares : (p s : ℕ) → h ≢ user p → has_share after.shares p s ≡ has_share st.shares p s
  pub scans : (g : Heap) → scan_of after.scans g ≡ (if heap_eq g h then None else scan_of st.scans g)
  pub rest : after ≡ record st { objects = after.objects; exits = after.exits; shares = after.shares; scans = after.scans }
