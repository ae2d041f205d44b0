-- The order of names, by segment and serial.
use Rattle.std.proofs.Common.{◌≡◌, false, arith}
use Rattle.std.proofs.lemmas.Bool.Decides.{nat_tests}
use Rattle.k_types.specs.declared.names.Name.{Name}
use Rattle.k_types.specs.Names.{name_lt}

pub lt_irrefl : (n : Name) → name_lt n n ≡ false
lt_irrefl n = grind (arith, nat_tests)
