use Rattle.std.proofs.Common.{◌≡◌, ◌-◌}
use Rattle.std.specs.List.{list_all}
use Rattle.k_types.specs.Numbers.{numbers_from}
use Rattle.k_types.specs.Owners.{owner_of, phase_of}
use Rattle.k_audit.specs.Tests.{all_phases_fit, phase_fits}
use Rattle.k_audit.proofs.remains.phases_fit.Given as goal

abbrev pub invariant-loop-s : goal.invariant-loop-s
invariant-loop-s l = all_phases_fit l.lists.setup l.lists.state ≡ list_all (λ s. phase_fits (owner_of l.lists.setup l.lists.state) l.lists.state.ended l.lists.state.shares s (phase_of l.lists.state.phases s)) (numbers_from l.s (l.lists.setup.shared_heaps - l.s))
