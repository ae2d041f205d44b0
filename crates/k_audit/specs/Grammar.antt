-- What a snapshot's text can say over a header: order, distinctness, kinds and ranges. Whether it is true is another matter.
use Rattle.std.specs.Prelude.{◌≡◌, ℕ, ◌<◌, ◌≤◌, ◌+◌, ◌*◌, ◌^◌, ◌⊎◌, false, IsTrue, List, [], ◌∷◌, map, length, replicate, Option, Some, None, IfSome}
use Rattle.std.specs.List.{AllByRecursion}
use Rattle.k_types.specs.declared.names.Name.{Name}
use Rattle.k_types.specs.declared.names.Phase.{Phase}
use Rattle.k_types.specs.declared.names.Phase.TheVariants.{Unmade, Populating, Frozen, Absorbed}
use Rattle.k_types.specs.Bounds.{maximum_below}
use Rattle.k_types.specs.Names.{name_lt}
use Rattle.k_types.specs.Sound.{IsOrdered, IsSized, IsTyped}
use Rattle.k_types.specs.State.{State, Object, ExitItem, Sharing, Content, Holds, Refers}
use Rattle.k_types.specs.Trace.{Trace, process_count, segment_count, segment_of, IsHeap}
use Rattle.k_audit.specs.Claims.{Claims, Snap}

-- The name lies in a segment of the trace, and its serial is a number of 32 bits from 1 on.
pub record IsSpelledName (trace : Trace) (n : Name) : Type 0 where
  pub known : n.seg.0 < segment_count trace
  pub from_one : 0 < n.serial.0
  pub small : n.serial.0 < 2 ^ 32

-- The number of a field is one of 64 bits, and a reference is null or a name.
abbrev pub IsSpelledContent : Trace → Content → Type 0
IsSpelledContent trace (Refers r) = IfSome r (IsSpelledName trace)
IsSpelledContent trace (Holds number) = number < 2 ^ 64

-- The kinds of the object's fields are those of its type, and the directory alone has no type.
pub record IsSpelledObject (trace : Trace) (o : Object) : Type 0 where
  pub name : IsSpelledName trace o.name
  pub typed : IsTyped trace o
  pub fields : AllByRecursion (IsSpelledContent trace) o.fields

-- The process or the root that the phase names is one that a line can have.
abbrev pub IsSpelledPhase : Trace → Phase → Type 0
IsSpelledPhase trace Unmade = Unit {0}
IsSpelledPhase trace (Populating p) = p.0 < process_count trace
IsSpelledPhase trace (Frozen root) = IsSpelledName trace root
IsSpelledPhase trace Absorbed = Unit {0}

-- The heap and the target of the exit item are such as a line can have.
abbrev pub IsSpelledExit : Trace → ExitItem → Type 0
IsSpelledExit trace e = IsHeap trace e.heap × IsSpelledName trace e.target

-- The process and the heap of the share are the trace's.
abbrev pub IsSpelledShare : Trace → Sharing → Type 0
IsSpelledShare trace e = (e.process < process_count trace) × (e.heap < trace.shared_heaps)

-- The numbers rise, and none is below that one.
abbrev pub AreRisingFrom : ℕ → List ℕ → Type 0
AreRisingFrom least [] = Unit {0}
AreRisingFrom least (n ∷ numbers) = (least ≤ n) × AreRisingFrom (n + 1) numbers

-- The place of a share among all that there may be, by process and shared heap.
abbrev pub share_place : Trace → Sharing → ℕ
share_place trace e = e.process * trace.shared_heaps + e.heap

-- The name comes after the last one, if there is one.
abbrev pub IsAfter : Option Name → Name → Type 0
IsAfter None n = Unit {0}
IsAfter (Some last) n = IsTrue (name_lt last n)

-- The exit item comes after the last one of the heap of that segment.
abbrev pub IsExitAfter : Trace → ℕ → Option Name → ExitItem → Type 0
IsExitAfter trace seg last e = (seg < segment_of trace e.heap) ⊎ ((seg ≡ segment_of trace e.heap) × IsAfter last e.target)

-- The exit items stand in the order of their heaps and of their targets, and come after that one.
abbrev pub AreExitsFrom : Trace → ℕ → Option Name → List ExitItem → Type 0
AreExitsFrom trace seg last [] = Unit {0}
AreExitsFrom trace seg last (e ∷ exits) = IsExitAfter trace seg last e × AreExitsFrom trace (segment_of trace e.heap) (Some e.target) exits

-- The number is one of 64 bits.
abbrev pub IsNumber : ℕ → Type 0
IsNumber n = n < 2 ^ 64

-- The state is one that a text can say: its lists are as long as the header says, in order, and within the ranges, and nothing is done,
-- scanned or closed.
pub record IsSpelledState (trace : Trace) (st : State) : Type 0 where
  pub sized : IsSized trace st
  pub ended : AreRisingFrom 0 st.ended
  pub ended_known : AllByRecursion (λ p. p < process_count trace) st.ended
  pub made : AllByRecursion (λ n. n < 2 ^ 32) st.made
  pub ordered : IsOrdered st.objects
  pub objects : AllByRecursion (IsSpelledObject trace) st.objects
  pub registers : AllByRecursion (AllByRecursion (λ r. IfSome r (IsSpelledName trace))) st.registers
  pub exits_ordered : AreExitsFrom trace 0 None st.exits
  pub exits : AllByRecursion (IsSpelledExit trace) st.exits
  pub shares_ordered : AreRisingFrom 0 (map (share_place trace) st.shares)
  pub shares : AllByRecursion (IsSpelledShare trace) st.shares
  pub maxima : AllByRecursion (λ max. max < maximum_below) st.maxima
  pub phases : AllByRecursion (IsSpelledPhase trace) st.phases
  pub done : st.done ≡ replicate (process_count trace) 0
  pub scans : st.scans ≡ []
  pub closed : st.closed ≡ false

-- There is a claim for each object, limit, process and shared heap, and each is one that a text can say.
pub record AreSpelledClaims (trace : Trace) (objects : List Object) (claims : Claims) : Type 0 where
  pub owners : length claims.owners ≡ length objects
  pub owners_known : AllByRecursion (IsHeap trace) claims.owners
  pub kernel : IsNumber claims.kernel
  pub ceiling : IsNumber claims.ceiling
  pub uses : length claims.uses ≡ length trace.limits
  pub uses_small : AllByRecursion IsNumber claims.uses
  pub charges : length claims.charges ≡ process_count trace
  pub charges_small : AllByRecursion IsNumber claims.charges
  pub shared_bytes : length claims.shared_bytes ≡ trace.shared_heaps
  pub shared_small : AllByRecursion IsNumber claims.shared_bytes

-- What a snapshot's text can say.
pub record IsSpelledSnap (trace : Trace) (snap : Snap) : Type 0 where
  pub state : IsSpelledState trace snap.state
  pub claims : AreSpelledClaims trace snap.state.objects snap.claims
