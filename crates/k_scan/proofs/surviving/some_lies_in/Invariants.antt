use Rattle.std.proofs.Common.{◌≡◌, drop}
use Rattle.std.specs.List.{list_any}
use Rattle.k_types.specs.Effects.{register_lies_in}
use Rattle.k_scan.proofs.surviving.some_lies_in.Given as goal

abbrev pub invariant-loop-register : goal.invariant-loop-register
invariant-loop-register l =
    list_any (register_lies_in l.lists.setup l.lists.state l.shared.0) l.registers ≡ list_any (register_lies_in l.lists.setup l.lists.state l.shared.0) (drop l.register-index l.registers)
