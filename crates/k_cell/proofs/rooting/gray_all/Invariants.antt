use Rattle.std.proofs.Common.{◌≡◌, drop}
use Rattle.k_mark.specs.k_space.Areas.{HasDistinct}
use Rattle.k_cell.specs.Rooted.{grayed_all}
use Rattle.k_cell.proofs.rooting.gray_all.Given as goal

-- what is left, made gray after what was made gray, is all that was asked
abbrev pub invariant-loop-target : goal.invariant-loop-target
invariant-loop-target l = HasDistinct l.area.segments × (grayed_all l.area (drop l.target-index l.targets) ≡ grayed_all l.fn.area l.targets)
