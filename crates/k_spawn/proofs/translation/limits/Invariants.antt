use Rattle.std.proofs.Common.{◌≡◌, ◌++◌, map}
use Rattle.k_spawn.specs.Families.{children}
use Rattle.k_spawn.specs.Scripts.{family}
use Rattle.k_spawn.specs.Translation.{child_row}
use Rattle.k_spawn.proofs.Copied.{given_from}
use Rattle.k_spawn.proofs.translation.limits.Given as goal

abbrev pub invariant-loop-place : goal.invariant-loop-place
invariant-loop-place l = l.rows.items ++ given_from (child_row l.script) (family l.script) l.place ≡ l.script.header.trace.limits ++ map (child_row l.script) (children (family l.script))
