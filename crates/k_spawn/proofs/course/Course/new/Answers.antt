use Rattle.std.proofs.Common.{arith}
use Rattle.k_spawn.proofs.Marks.{kept_fresh}
use Rattle.k_spawn.proofs.course.Course.new.Goals as goal

pub invariant_of-result : goal.invariant_of-result
invariant_of-result c = rw (c.new.ensures, c.new-2.ensures.items) (kept_fresh _ (omega arith))
