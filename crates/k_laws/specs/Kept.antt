-- What events leave of a state, and what exactly they change.
use Rattle.std.specs.Prelude.{◌≡◌, ◌≢◌, ◌<◌, ◌≤◌, ◌⊎◌, ℕ, ◌+◌, ◌&&◌, not, Bool, false, IsTrue, IsFalse, length, slice_index_or, if◌then◌else◌, ◌==◌}
use Rattle.k_types.specs.declared.names.Name.{Name}
use Rattle.k_types.specs.declared.names.Heap.{Heap}
use Rattle.k_types.specs.declared.names.Heap.TheVariants.{Kernel}
use Rattle.k_types.specs.declared.names.Phase.TheVariants.{Unmade, Absorbed}
use Rattle.k_types.specs.declared.event.Event.{Event}
use Rattle.k_types.specs.declared.event.Event.TheVariants.{Done, Ended, Absorbed as AbsorbedEvent, Closing}
use Rattle.k_types.specs.Names.{among, heap_eq}
use Rattle.k_types.specs.Numbers.{numbers_below}
use Rattle.k_types.specs.Totals.{total}
use Rattle.k_types.specs.Trace.{Trace, limit_of}
use Rattle.k_types.specs.State.{State, has, has_share}
use Rattle.k_types.specs.Owners.{bytes_of, charge_of, owner_of, phase_of, shared, user}
use Rattle.k_types.specs.Limits.{limits_in, path_of, use_of}
use Rattle.k_types.specs.declared.op.Op.TheVariants.{Kill}

-- the shared heap is unmade or absorbed, or some process shares it
abbrev pub IsPaidFor : State → ℕ → Type 0
IsPaidFor st s = (phase_of st.phases s ≡ Unmade) ⊎ (phase_of st.phases s ≡ Absorbed) ⊎ ((p : ℕ) × IsTrue (has_share st.shares p s))

-- the event is the end of the heap's collection
abbrev pub HasEndOf : Heap → Event → Type 0
HasEndOf h event = (objects : ℕ) × (bytes : ℕ) × (exits : ℕ) × (shares : ℕ) × (event ≡ Ended h objects bytes exits shares)

-- the event is the end of the collection of the process's own heap
abbrev pub is_end_of : Event → ℕ → Bool
is_end_of (Done pid op said) p = false
is_end_of (Ended h objects bytes exits shares) p = heap_eq h (user p)
is_end_of (AbsorbedEvent s) p = false
is_end_of Closing p = false

-- the event is a kill of the process
abbrev pub is_kill_of : Event → ℕ → Bool
is_kill_of (Done pid (Kill target) said) p = target.0 == p
is_kill_of _ p = false

-- the segment has given so many serials: the object's was one of them, and the object is gone
pub record IsSpent (st : State) (n : Name) : Type 0 where
  pub given : n.serial.0 ≤ slice_index_or st.made n.seg.0 0
  pub gone : IsFalse (has st.objects n)

-- the segments have given no fewer serials than before, and each object that is new has one that was not given before
pub record GivesSerials (st after : State) : Type 0 where
  pub made : (seg : ℕ) → slice_index_or st.made seg 0 ≤ slice_index_or after.made seg 0
  pub fresh : (n : Name) → IsFalse (has st.objects n) → IsTrue (has after.objects n) → slice_index_or st.made n.seg.0 0 < n.serial.0

-- the segment has the owner that it had, or the kernel
abbrev pub KeepsOrGives : Trace → State → State → ℕ → Type 0
KeepsOrGives trace st after seg = (owner_of trace after seg ≡ owner_of trace st seg) ⊎ (owner_of trace after seg ≡ Kernel)

-- the frozen heap has the phase and the bytes that it had, or the event absorbs it
pub record StaysFrozen (trace : Trace) (st after : State) (s : ℕ) : Type 0 where
  pub phase : phase_of after.phases s ≡ phase_of st.phases s
  pub bytes : bytes_of trace after (shared s) ≡ bytes_of trace st (shared s)

-- the four numbers of the end of the heap's collection are what goes: objects, the heap's bytes, exit items and shares
pub record GoesBy (trace : Trace) (st after : State) (h : Heap) (objects bytes exits shares : ℕ) : Type 0 where
  pub objects_gone : length st.objects ≡ length after.objects + objects
  pub bytes_gone : bytes_of trace st h ≡ bytes_of trace after h + bytes
  pub exits_gone : length st.exits ≡ length after.exits + exits
  pub shares_gone : length st.shares ≡ length after.shares + shares

-- the bytes of the shared heaps that the process shared before and doesn't share now
abbrev pub bytes_dropped : Trace → State → State → ℕ → ℕ
bytes_dropped trace st after p =
    total (λ s. if has_share st.shares p s && not (has_share after.shares p s) then bytes_of trace st (shared s) else 0) (numbers_below trace.shared_heaps)

-- the process's charge has fallen by the credit, and nobody else's has changed; so have the uses on the path of its limit
pub record Credits (trace : Trace) (st after : State) (p credit : ℕ) : Type 0 where
  pub own : charge_of trace st p ≡ charge_of trace after p + credit
  pub others : (q : ℕ) → q ≢ p → charge_of trace after q ≡ charge_of trace st q
  pub uses : (m : ℕ) → use_of trace st m ≡ use_of trace after m + (if among m (path_of (limits_in trace st) (limit_of trace p)) then credit else 0)
