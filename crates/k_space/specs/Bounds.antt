-- Which objects were there at a time.
use Rattle.std.specs.Prelude.{◌==◌, ℕ, nat_lt, Bool, false, if◌then◌else◌}
use Rattle.k_types.specs.declared.names.Name.{Name}
use Rattle.k_space.specs.declared.bound.Bound.{Bound}

-- the name is of the one segment and its serial is lower, or it is of another one
abbrev pub is_covered : Bound → Name → Bool
is_covered b n = if n.seg.0 == b.own.0 then nat_lt n.serial.0 b.below else b.others

-- in a segment of that number, which has so many rows, these are those with lower serials
abbrev pub bound_in : Bound → ℕ → ℕ → ℕ
bound_in b number count = if number == b.own.0 then b.below else (if b.others then count else 0)

-- it covers no object
abbrev pub nothing : ℕ → Bound
nothing own = record { own = record { 0 = own }; below = 0; others = false }
