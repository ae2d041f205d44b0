-- The word that says how many objects each process makes.
use Rattle.std.specs.Prelude.{ℕ, ◌+◌, ◌&&◌, nat_lt, Option, Some, None, if◌then◌else◌}
use Rattle.k_words.specs.Words.{Text}
use Rattle.k_words.specs.Numbers.{is_below, value}
use Rattle.k_big.specs.Workload.{most_objects}

-- the number that the word is, from 1 to the most objects; none where it is another word
abbrev pub objects_of : Text → Option ℕ
objects_of word = if is_below (most_objects + 1) word && nat_lt 0 (value word) then Some (value word) else None
