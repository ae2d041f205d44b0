-- The machine with the setup of its trace, and the shape of its lists.
use Rattle.std.specs.Prelude.{◌≡◌, ℕ, ◌<◌, ◌≤◌, ◌==◌, ◌^◌, List, filter, length, slice_index_or, IfSome}
use Rattle.k_types.specs.Totals.{total}
use Rattle.k_types.specs.Trace.{Trace, segment_count}
use Rattle.k_types.specs.Bounds.{maximum_below, most_fields}
use Rattle.std.specs.List.{AllByRecursion}
use Rattle.k_types.specs.Owners.{object_bytes}
use Rattle.k_types.specs.State.{Object, State}
use Rattle.k_types.specs.Sound.{AreNames, IsSized}
use Rattle.k_types.specs.Known.{IsKnownPhase}
use Rattle.k_laws.specs.Setups.{AreSetupRules}

-- What a trace says before its operations, and a state.
pub record Machine : Type 0 where
  pub setup : Trace
  pub state : State

-- The type of the object is one of the setup's, and so is its segment, and its fields are few. The directory has no type.
pub record IsDeclared (setup : Trace) (o : Object) : Type 0 where
  pub ty : IfSome o.ty (λ ty. ty.0 < length setup.types)
  pub fields : length o.fields ≤ most_fields
  pub seg : o.name.seg.0 < segment_count setup

-- The setup keeps the rules, the lists are as long as it says, objects and exit items are no more than numbers of 32 bits,
-- objects stand in the order of their names, which their segments have given, types, segments and phases are such as the setup declares, and each maximum is
-- small.
pub record IsPlain (machine : Machine) : Type 0 where
  pub setup : AreSetupRules machine.setup
  pub sized : IsSized machine.setup machine.state
  pub few : length machine.state.objects < 2 ^ 32
  pub few_exits : length machine.state.exits < 2 ^ 32
  pub names : AreNames machine.state.objects machine.state.made
  pub declared : AllByRecursion (IsDeclared machine.setup) machine.state.objects
  pub phases : AllByRecursion (IsKnownPhase machine.setup) machine.state.phases
  pub maxima : AllByRecursion (λ max. max < maximum_below) machine.state.maxima

-- The bytes of the objects of a segment.
unfoldable pub segment_bytes : List Object → ℕ → ℕ
segment_bytes objects seg = total object_bytes (filter (λ o. o.name.seg.0 == seg) objects)

-- The totals are the bytes of the segments, by their numbers.
abbrev pub AreTotals : List Object → List ℕ → Type 0
AreTotals objects totals = (seg : ℕ) → seg < length totals → slice_index_or totals seg 0 ≡ segment_bytes objects seg

-- The lists have that shape, and the totals that stand beside them are the bytes of each segment.
pub record IsKept (machine : Machine) (totals : List ℕ) : Type 0 where
  pub plain : IsPlain machine
  pub counted : length totals ≡ segment_count machine.setup
  pub bytes : AreTotals machine.state.objects totals
