use Rattle.std.proofs.Common.{◌≡◌, ◌<◌, ℕ, true, Some, slice_get}
use Rattle.k_mark.specs.k_types.declared.names.Name.{Name}
use Rattle.k_mark.specs.k_space.Areas.{gray_at}
use Rattle.k_mark.specs.Kept.{old_at}
use Rattle.k_cell.proofs.carrying.are_gray.Given as goal

abbrev pub invariant-loop-root : goal.invariant-loop-root
invariant-loop-root l = (k : ℕ) (r : Name) → k < l.root-index → slice_get l.roots k ≡ Some r → old_at l.fn.area l.fn.bound r ≡ true → gray_at l.fn.area r ≡ true
