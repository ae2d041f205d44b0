use Rattle.std.proofs.Common.{◌≡◌, ◌++◌, map}
use Rattle.k_spawn.specs.Families.{children}
use Rattle.k_spawn.specs.Scripts.{family}
use Rattle.k_spawn.specs.Translation.{limit_id}
use Rattle.k_spawn.proofs.Copied.{given_from}
use Rattle.k_spawn.proofs.translation.processes.Given as goal

abbrev pub invariant-loop-place : goal.invariant-loop-place
invariant-loop-place l = l.procs.items ++ given_from (limit_id l.script) (family l.script) l.place ≡ l.script.header.trace.procs ++ map (limit_id l.script) (children (family l.script))
