use Rattle.std.proofs.Common.{◌≡◌, ◌<◌, ◌≤◌, ℕ, true, length, slice_get, Some}
use Rattle.k_mark.specs.k_types.declared.names.Name.{Name}
use Rattle.k_mark.specs.k_types.Names.{name_among}
use Rattle.k_cell.proofs.rooting.are_noted.Given as goal

abbrev pub invariant-loop-target : goal.invariant-loop-target
invariant-loop-target l = (l.met ≤ length l.fn.roots) × ((k : ℕ) (r : Name) → k < l.met → slice_get l.fn.roots k ≡ Some r → name_among r l.noted ≡ true)
