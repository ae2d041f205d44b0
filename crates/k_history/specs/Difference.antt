-- Where a report differs from the text that it should be.
use Rattle.std.specs.Prelude.{◌≡◌, ℕ, ◌+◌, ◌==◌, ◌&&◌, nat_lt, slice_index, Bool, false, List, length, [], ◌∷◌, ◌++◌, drop, Option, Some, None, if◌then◌else◌}
use Rattle.k_words.specs.Words.{Text}

-- The number of the first line in which the bytes differ from the text, where the first of both has this number; None where
-- they do not differ. A line that is missing, is too many or lacks its line feed differs.
abbrev pub difference_from : ℕ → Text → Text → Option ℕ
difference_from line [] [] = None
difference_from line [] (b ∷ bytes) = Some line
difference_from line (c ∷ text) [] = Some line
difference_from line (c ∷ text) (b ∷ bytes) = if c == b then difference_from (if c == 10 then line + 1 else line) text bytes else Some line

-- The same, counted from 1.
abbrev pub difference : Text → Text → Option ℕ
difference text bytes = difference_from 1 text bytes

-- What a comparing sink was made over, how many of these bytes have come, the number of the line that comes next or differs,
-- and whether all that came is the same.
pub record Compared : Type 0 where
  pub bytes : Text
  pub at : ℕ
  pub line : ℕ
  pub same : Bool

-- The first line that differs where this text comes next.
abbrev pub difference_next : Compared → Text → Option ℕ
difference_next s more = if s.same then difference_from s.line more (drop s.at s.bytes) else Some s.line

-- The sink was made over the bytes, and may have taken the text: whatever comes next, it tells the first line that differs.
abbrev pub Compares : Compared → List ℕ → List ℕ → Type 0
Compares s bytes text = (s.bytes ≡ bytes) × ((more : Text) → difference (text ++ more) bytes ≡ difference_next s more)

-- The sink after one more byte.
abbrev pub compared : Compared → ℕ → Compared
compared s b =
    if s.same && nat_lt s.at (length s.bytes) && (b == slice_index s.bytes s.at)
    then record s { at = s.at + 1; line = if b == 10 then s.line + 1 else s.line }
    else record s { same = false }
