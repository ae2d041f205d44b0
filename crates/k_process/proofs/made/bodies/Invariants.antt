use Rattle.std.proofs.Common.{◌≡◌, map, take}
use Rattle.k_trace.specs.Meaning.{meaning_of}
use Rattle.k_process.specs.Bodies.{bodies_of}
use Rattle.k_process.proofs.made.bodies.Given as goal

abbrev pub invariant-loop-ops : goal.invariant-loop-ops
invariant-loop-ops l = map (λ made. made.items) l.all.items ≡ map (bodies_of (meaning_of l.trace).trace.types) (take l.ops-index (meaning_of l.trace).trace.operations)
