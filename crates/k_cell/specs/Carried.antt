-- What a cell knows of its last collection.
use Rattle.std.specs.Prelude.{◌≤◌, ◌↔◌, ℕ, Bool, List, IsTrue, length, take, if◌then◌else◌}
use Rattle.k_mark.specs.k_types.declared.names.Name.{Name}
use Rattle.k_mark.specs.k_types.declared.names.CellPhase.{CellPhase}
use Rattle.k_mark.specs.k_types.declared.names.CellPhase.TheVariants.{Idle, Begun, Marked}
use Rattle.k_mark.specs.k_types.Names.{name_among}
use Rattle.k_mark.specs.k_space.declared.bound.Bound.{Bound}
use Rattle.k_mark.specs.k_space.Bounds.{nothing}
use Rattle.k_mark.specs.k_space.Areas.{AreaValue, black_at}
use Rattle.k_mark.specs.k_exit.Exits.{ExitRow, target_marked, targets}
use Rattle.k_mark.specs.Kept.{IsKept, IsLedTo, old_at}
use Rattle.k_mark.specs.Marking.{refers_at}
use Rattle.k_cell.specs.declared.carrying.Carried.{Carried}

-- that bound where it is known that what it covers is reached, else none
abbrev pub known_bound : Bool → Bound → Bound
known_bound known b = if known then b else nothing b.own.0

-- what was kept is what is left of what the bound covers, is reached from these roots, and refers to the first so many exit items, and no other
pub record IsWhole (a : AreaValue) (items : List ExitRow) (b : Bound) (first : ℕ) (roots : List Name) : Type 0 where
  pub kept : IsKept (old_at a b) (refers_at a) (λ n. name_among n roots) b
  pub most : first ≤ length items
  pub led : (n : Name) → IsTrue (name_among n (take first (targets items))) ↔ IsLedTo a (old_at a b) n

-- these objects are reached from those roots and the bound covers them, and the marked exit items are those to which they refer
pub record AreMarkedFor (a : AreaValue) (items : List ExitRow) (these : Name → Bool) (b : Bound) (roots : List Name) : Type 0 where
  pub kept : IsKept these (refers_at a) (λ n. name_among n roots) b
  pub led : (n : Name) → IsTrue (target_marked items n) ↔ IsLedTo a these n

-- once marking is done, that is so of these objects
abbrev pub AreMarkedIn : CellPhase → AreaValue → List ExitRow → (Name → Bool) → Bound → List Name → Type 0
AreMarkedIn Idle a items these b roots = Unit {0}
AreMarkedIn Begun a items these b roots = Unit {0}
AreMarkedIn Marked a items these b roots = AreMarkedFor a items these b roots

-- what the last collection kept, where that is known; what the collection that is open kept, once it has swept, and what is black, where its
-- roots are noted
pub record IsCarried (phase : CellPhase) (a : AreaValue) (items : List ExitRow) (c : Carried) : Type 0 where
  pub whole : IsTrue c.whole → IsWhole a items c.bound c.first c.roots.items
  pub swept : IsTrue c.swept → AreMarkedIn phase a items (old_at a c.bound) c.bound c.roots.items
  pub noted : IsTrue c.noted → AreMarkedIn phase a items (black_at a) c.next c.pending.items
