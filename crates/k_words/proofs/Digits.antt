-- The value of digits, read from the front.
use Rattle.std.proofs.Common.{◌≡◌, ℕ, ◌+◌, ◌*◌, ◌<◌, ◌≤◌, Bool, true, false, cond, ltb, length, take, get_or, refl, arith, Some, None, ◌&&◌}
use Rattle.std.specs.Char.{digit_value}
use Rattle.std.proofs.lemmas.Int.Digits.{digits_value_more}
use Rattle.std.proofs.lemmas.Str.Parse.{digits_value-take-le}
use Rattle.k_words.specs.Words.{Text}
use Rattle.k_words.specs.Numbers.{value, is_number, below_of}
use Rattle.std.proofs.lemmas.Bool.{le-ltb}

pub value_more : (word : Text) (i : ℕ) → i < length word → value (take (i + 1) word) ≡ value (take i word) * 10 + digit_value (get_or word i 0)
value_more word i lt = digits_value_more 10 word i lt

pub value-take-le : (word : Text) (i : ℕ) → value (take i word) ≤ value word
value-take-le word i = digits_value-take-le 10 word i (omega arith)

none_above : (b : Bool) (n limit : ℕ) → limit ≤ n → None ≡ cond (b && ltb n limit) (Some n) None
none_above true n limit le = rw (le-ltb n limit le) refl
none_above false n limit le = refl

pub too_great : (word : Text) (i limit : ℕ) → i < length word → limit ≤ value (take i word) * 10 + digit_value (get_or word i 0) → None ≡ below_of limit word
too_great word i limit lt le = none_above (is_number word) (value word) limit (omega (arith, value_more word i lt, value-take-le word (i + 1)))
