use Rattle.std.proofs.Common.{◌≡◌, drop}
use Rattle.std.specs.List.{list_all}
use Rattle.k_audit.specs.Tests.{is_there, registers_there}
use Rattle.k_audit.proofs.points.registers_there.Given as goal

abbrev pub invariant-loop-reference : goal.invariant-loop-reference
invariant-loop-reference l = registers_there l.lists.state.objects l.registers ≡ list_all (is_there l.lists.state.objects) (drop l.reference-index l.registers)
