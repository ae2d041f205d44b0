use Rattle.std.proofs.Common.{◌≡◌, ◌-◌, [], get_or}
use Rattle.std.specs.List.{list_all}
use Rattle.k_types.specs.Numbers.{numbers_from}
use Rattle.k_types.specs.Trace.{process_count}
use Rattle.k_audit.specs.Tests.{all_registers_there, registers_there}
use Rattle.k_audit.proofs.points.all_registers_there.Given as goal

abbrev pub invariant-loop-p : goal.invariant-loop-p
invariant-loop-p l = all_registers_there l.lists.setup l.lists.state ≡ list_all (λ p. registers_there l.lists.state.objects (get_or l.lists.state.registers p [])) (numbers_from l.p (process_count l.lists.setup - l.p))
