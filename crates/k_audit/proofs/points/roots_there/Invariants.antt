use Rattle.std.proofs.Common.{◌≡◌, ◌-◌}
use Rattle.std.specs.List.{list_all}
use Rattle.k_types.specs.Numbers.{numbers_from}
use Rattle.k_types.specs.Owners.{phase_of}
use Rattle.k_audit.specs.Tests.{root_there, roots_there}
use Rattle.k_audit.proofs.points.roots_there.Given as goal

abbrev pub invariant-loop-s : goal.invariant-loop-s
invariant-loop-s l = roots_there l.lists.setup l.lists.state ≡ list_all (λ s. root_there l.lists.state.objects (phase_of l.lists.state.phases s)) (numbers_from l.s (l.lists.setup.shared_heaps - l.s))
