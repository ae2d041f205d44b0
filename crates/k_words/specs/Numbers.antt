-- Numbers and registers as words.
use Rattle.std.specs.Prelude.{ℕ, ◌==◌, ◌&&◌, ◌||◌, not, nat_lt, Bool, ◌∷◌, length, drop, slice_index, Option, Some, None, if◌then◌else◌, decimal}
use Rattle.std.specs.List.{list_all}
use Rattle.std.specs.Char.{is_ascii_digit}
use Rattle.std.specs.Str.Parse.{digits_value}
use Rattle.k_words.specs.Words.{Text}

-- `0`, or a digit from 1 to 9 followed by digits
abbrev pub is_number : Text → Bool
is_number w = list_all is_ascii_digit w && nat_lt 0 (length w) && ((length w == 1) || not (slice_index w 0 == 48))

-- the number that digits are
abbrev pub value : Text → ℕ
value w = digits_value 10 w

-- the word is a number below the bound
abbrev pub is_below : ℕ → Text → Bool
is_below bound w = is_number w && nat_lt (value w) bound

-- the number below the bound that the word is
abbrev pub below_of : ℕ → Text → Option ℕ
below_of bound w = if is_below bound w then Some (value w) else None

-- the word is `r` and a number from 0 to 15
abbrev pub is_register : Text → Bool
is_register w = (slice_index w 0 == 114) && is_below 16 (drop 1 w)

-- the number of a register's word
abbrev pub register : Text → ℕ
register w = value (drop 1 w)

-- the number of the register that the word is
abbrev pub register_of : Text → Option ℕ
register_of w = if is_register w then Some (register w) else None

-- the word of a register
abbrev pub register_word : ℕ → Text
register_word r = 114 ∷ decimal r
