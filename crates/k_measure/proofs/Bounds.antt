-- How much a sweep can free.
use Rattle.std.proofs.Common.{◌≡◌, ℕ, ◌<◌, ap, List, [], ◌∷◌, length, sum_by, Option, Some, arith}
use Rattle.std.proofs.lemmas.List.Sums.{sum_by-cons}
use Rattle.k_space.specs.Segments.{SegmentValue, Row, segment_bytes, made}
use Rattle.k_space.specs.Areas.{AreaValue, rows_total, segment_at}
use Rattle.k_mark.proofs.SweepSteps.{dead_rows}
use Rattle.k_mark.specs.Sweeping.{dead_row, dead_bytes_of, dead_objects, dead_bytes}
use Rattle.k_measure.specs.Inside.{IsOne}
use Rattle.k_measure.proofs.Inside.{one_found}
use Rattle.k_mark.proofs.Rows.{dead_sum}

-- a sum over the one segment of an area
one_total : (g : Option Row → ℕ) (a : AreaValue) (one : IsOne a) → rows_total g a ≡ sum_by g one.segment.rows
one_total g a one =
    let f : SegmentValue → ℕ = λ s. sum_by g s.rows in
    let cons = sum_by-cons f one.segment [] in
    let whole : rows_total g a ≡ sum_by f (one.segment ∷ []) = ap (λ (xs : List SegmentValue). sum_by f xs) one.only in
    omega (arith, whole, cons)

-- a sweep of an area of one segment frees no more than it has
pub objects_few : (a : AreaValue) (one : IsOne a) (number : ℕ) (t : SegmentValue) → segment_at a.segments number ≡ Some t → made t < 20000000 → dead_objects a < 4294967296
objects_few a one number t at few =
    let same : length t.rows ≡ length one.segment.rows = ap (λ (s : SegmentValue). length s.rows) (one_found a one number t at) in
    omega (arith, same, few, one_total dead_row a one, dead_rows one.segment.rows)

pub bytes_few : (a : AreaValue) (one : IsOne a) (number : ℕ) (t : SegmentValue) → segment_at a.segments number ≡ Some t → segment_bytes t < 18446744073709551616 → dead_bytes a < 18446744073709551616
bytes_few a one number t at few =
    let same : segment_bytes t ≡ segment_bytes one.segment = ap segment_bytes (one_found a one number t at) in
    omega (arith, same, few, one_total dead_bytes_of a one, dead_sum one.segment.number 0 one.segment.rows)
