use Rattle.std.proofs.Common.{take}
use Rattle.k_mark.specs.k_space.Areas.{HasDistinct}
use Rattle.k_cell.specs.Rooted.{AreGrayBut}
use Rattle.k_cell.proofs.rooting.gray_others.Given as goal

abbrev pub invariant-loop-target : goal.invariant-loop-target
invariant-loop-target l = HasDistinct l.area.segments × AreGrayBut l.fn.area (take l.target-index l.noted) l.fn.roots l.fn.bound l.area
