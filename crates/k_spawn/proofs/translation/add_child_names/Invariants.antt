use Rattle.std.proofs.Common.{◌≡◌, ◌++◌, drop}
use Rattle.k_spawn.proofs.Copied.{texts}
use Rattle.k_spawn.proofs.translation.add_child_names.Given as goal

abbrev pub invariant-loop-place : goal.invariant-loop-place
invariant-loop-place l = texts l.list.items ++ drop l.place l.script.child_names ≡ texts l.fn.list.items ++ l.script.child_names
