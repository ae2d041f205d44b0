use Rattle.std.proofs.Common.{◌≡◌, ◌-◌, [], get_or}
use Rattle.std.specs.List.{list_all}
use Rattle.k_types.specs.Numbers.{numbers_from}
use Rattle.k_types.specs.Trace.{process_count}
use Rattle.k_audit.specs.Tests.{all_registers_gone, registers_gone}
use Rattle.k_audit.proofs.remains.all_registers_gone.Given as goal

abbrev pub invariant-loop-p : goal.invariant-loop-p
invariant-loop-p l = all_registers_gone l.lists.setup l.lists.state ≡ list_all (λ p. registers_gone l.lists.state.ended p (get_or l.lists.state.registers p [])) (numbers_from l.p (process_count l.lists.setup - l.p))
