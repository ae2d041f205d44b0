use Rattle.std.proofs.Common.{◌≡◌, ◌++◌, drop}
use Rattle.k_process.specs.Bodies.{bodies_of}
use Rattle.k_process.proofs.made.bodies_of.Given as goal

abbrev pub invariant-loop-op : goal.invariant-loop-op
invariant-loop-op l = l.made.items ++ bodies_of l.types (drop l.op-index l.ops) ≡ bodies_of l.types l.ops
