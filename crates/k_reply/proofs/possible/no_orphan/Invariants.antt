use Rattle.std.proofs.Common.{◌≡◌, ◌-◌, not}
use Rattle.std.specs.List.{list_all}
use Rattle.k_types.specs.Numbers.{numbers_from}
use Rattle.k_types.specs.Steps.{is_orphan, no_orphan}
use Rattle.k_reply.proofs.possible.no_orphan.Given as goal

abbrev pub invariant-loop-s : goal.invariant-loop-s
invariant-loop-s l = no_orphan l.lists.setup l.lists.state ≡ list_all (λ s. not (is_orphan l.lists.state s)) (numbers_from l.s (l.lists.setup.shared_heaps - l.s))
