-- A maximum beside what is used, which may be given as the greatest number of 64 bits where it is more.
use Rattle.std.proofs.Common.{◌≡◌, ℕ, ◌-◌, ◌<◌, ◌^◌, nat_lt, arith}
use Rattle.std.specs.Prelude.{min}
use Rattle.std.proofs.lemmas.Bool.Decides.{nat_tests}

pub used_past : (max all : ℕ) → max < 2 ^ 40 → nat_lt max (min all (2 ^ 64 - 1)) ≡ nat_lt max all
used_past max all small = grind (arith, nat_tests)
