-- Numbers that are counted.
use Rattle.std.specs.Prelude.{ℕ, ◌==◌, if◌then◌else◌}

-- 1 where the two numbers are one
abbrev pub one_if_same : ℕ → ℕ → ℕ
one_if_same a b = if a == b then 1 else 0
