-- The hash of a name.
use Rattle.std.specs.Prelude.{ℕ, ◌+◌, ◌*◌, ◌/◌, ◌%◌, ◌^◌}
use Rattle.k_types.specs.declared.names.Name.{Name}

-- a number below 2^32 in which the bits of the segment and the serial are mixed
unfoldable pub mixed : Name → ℕ
mixed t = ((t.seg.0 * 2 ^ 32 + t.serial.0) * 11400714819323198485) % 2 ^ 64 / 2 ^ 32

-- the number of the chain of a name, of so many: as far into the chains as the mixed number is into its range
unfoldable pub bucket : ℕ → Name → ℕ
bucket chains t = mixed t * chains / 2 ^ 32
