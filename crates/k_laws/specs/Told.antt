-- What the book's part tells of limits.
use Rattle.std.specs.Prelude.{ℕ, ◌+◌, nat_lt, find, List, Option, ◌&&◌, ◌-◌, Some, None, if◌then◌else◌}
use Rattle.k_types.specs.declared.setup.LimitRow.{LimitRow}
use Rattle.k_types.specs.Trace.{Trace, row_of}
use Rattle.k_types.specs.Limits.{with_maxima, max_of, path_of}
use Rattle.k_types.specs.Cells.{BookPart, use_shown}
use Rattle.k_types.specs.declared.names.LimitId.{LimitId}

-- the limits with the maxima that the book has
abbrev pub limits_shown : Trace → BookPart → List LimitRow
limits_shown trace b = with_maxima trace.limits b.maxima

-- the first limit on the path of m where n more bytes don't fit, by the book
abbrev pub full_limit_in : Trace → BookPart → ℕ → ℕ → Option ℕ
full_limit_in trace b m n = find (λ q. nat_lt (max_of (limits_shown trace b) q) (use_shown trace b q + n)) (path_of (limits_shown trace b) m)

-- the first limit on the path of the parent where n more bytes don't fit, by the book
abbrev pub full_above_in : Trace → BookPart → Option LimitId → ℕ → Option ℕ
full_above_in trace b None n = None
full_above_in trace b (Some parent) n = full_limit_in trace b parent.0 n

-- the first limit that is full where m is to have this maximum, by the book
abbrev pub full_for_in : Trace → BookPart → ℕ → ℕ → Option ℕ
full_for_in trace b m max =
    if (row_of trace.limits m).hard && nat_lt (max_of (limits_shown trace b) m) max
    then full_above_in trace b (row_of trace.limits m).parent (max - max_of (limits_shown trace b) m)
    else None
