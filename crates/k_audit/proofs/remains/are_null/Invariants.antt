use Rattle.std.proofs.Common.{◌≡◌, drop}
use Rattle.std.specs.List.{list_all}
use Rattle.k_audit.specs.Tests.{is_null}
use Rattle.k_audit.proofs.remains.are_null.Given as goal

abbrev pub invariant-loop-reference : goal.invariant-loop-reference
invariant-loop-reference l = list_all is_null l.registers ≡ list_all is_null (drop l.reference-index l.registers)
