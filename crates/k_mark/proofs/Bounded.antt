-- How much a sweep can free.
use Rattle.std.proofs.Common.{◌≡◌, ℕ, ◌-◌, ◌*◌, ◌≤◌, List, [], ◌∷◌, length, get_or, sum_by, Option, Some, None, arith}
use Rattle.std.specs.List.{AllByRecursion}
use Rattle.std.proofs.lemmas.List.Sums.{sum_by-cons}
use Rattle.k_laws.specs.k_types.State.{Object}
use Rattle.k_laws.specs.k_types.Owners.{object_bytes}
use Rattle.k_laws.specs.k_types.Totals.{total}
use Rattle.k_space.specs.Segments.{Row, SegmentValue, IsSegment, made, segment_bytes}
use Rattle.k_mark.proofs.SweepSteps.{dead_rows}
use Rattle.k_mark.specs.Sweeping.{dead_row, dead_bytes_of, dead_objects, dead_bytes}
use Rattle.k_mark.proofs.Rows.{dead_sum}

-- the first serial has no object
rows_within : (rows : List (Option Row)) → get_or rows 0 None ≡ None → sum_by dead_row rows ≤ length rows - 1
rows_within [] first = omega arith
rows_within (None ∷ rows) first = omega (arith, sum_by-cons dead_row None rows, dead_rows rows)
rows_within (Some row ∷ rows) first = absurd (cc)

-- in an area of one segment
pub one_most : (s : SegmentValue) (room : ℕ) → IsSegment s → dead_objects (record { segments = s ∷ []; room = room }) ≤ made s
one_most s room sound = omega (arith, sum_by-cons (λ (x : SegmentValue). sum_by dead_row x.rows) s [], rows_within s.rows sound.first)

pub one_bytes_most : (s : SegmentValue) (room : ℕ) → IsSegment s → dead_bytes (record { segments = s ∷ []; room = room }) ≤ 144 * made s
one_bytes_most s room sound =
    let most : sum_by dead_bytes_of s.rows ≤ segment_bytes s = dead_sum s.number 0 s.rows in
    omega (arith, sum_by-cons (λ (x : SegmentValue). sum_by dead_bytes_of x.rows) s [], most, sound.bytes)

-- of any objects
pub small_bytes : (objects : List Object) → AllByRecursion (λ o. length o.fields ≤ 16) objects → total object_bytes objects ≤ 144 * length objects
small_bytes [] all = omega arith
small_bytes (o ∷ objects) all = omega (arith, all.0, small_bytes objects all.1)
