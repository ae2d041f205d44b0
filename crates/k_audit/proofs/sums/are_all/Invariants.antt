use Rattle.std.proofs.Common.{◌≡◌, drop}
use Rattle.std.specs.List.{list_all}
use Rattle.k_types.specs.Names.{heap_eq}
use Rattle.k_audit.proofs.sums.are_all.Given as goal

abbrev pub invariant-loop-claimed : goal.invariant-loop-claimed
invariant-loop-claimed l = list_all (λ h. heap_eq h l.owner) l.owners ≡ list_all (λ h. heap_eq h l.owner) (drop l.claimed-index l.owners)
