-- Names as words, and lists of declared names, in which the number of a name is its place.
use Rattle.std.specs.Prelude.{ℕ, ◌==◌, ◌&&◌, ◌||◌, not, nat_le, Bool, List, [], ◌∷◌, length, slice_index, Option, Some, None, if◌then◌else◌, codes}
use Rattle.std.specs.List.{list_all, list_any, position_or_len}
use Rattle.std.specs.Str.{bytes_eq}
use Rattle.k_words.specs.Words.{Text}

-- a letter of either case
abbrev pub is_letter : ℕ → Bool
is_letter b = (nat_le 97 b && nat_le b 122) || (nat_le 65 b && nat_le b 90)

-- a letter, a digit or `_`
abbrev pub is_name_byte : ℕ → Bool
is_name_byte b = is_letter b || (nat_le 48 b && nat_le b 57) || (b == 95)

-- a header line begins with one of these
abbrev pub is_keyword : Text → Bool
is_keyword w = list_any (bytes_eq w) (codes "kaffe" ∷ codes "kernel" ∷ codes "type" ∷ codes "limit" ∷ codes "proc" ∷ codes "shared" ∷ [])

-- a section of the report begins with one of these
abbrev pub is_section : Text → Bool
is_section w = list_any (bytes_eq w) (codes "report" ∷ codes "graph" ∷ codes "roots" ∷ codes "exits" ∷ codes "shares" ∷ codes "faults" ∷ codes "charges" ∷ [])

-- the report's other words of its own
abbrev pub is_report_word : Text → Bool
is_report_word w = list_any (bytes_eq w) (codes "ended" ∷ codes "absorbed" ∷ codes "closing" ∷ codes "end" ∷ codes "null" ∷ codes "directory" ∷ [])

-- the words that are no names
unfoldable pub is_reserved : Text → Bool
is_reserved w = is_keyword w || is_section w || is_report_word w

-- from 1 to 32 letters, digits and `_`, the first of them a letter, and no reserved word
abbrev pub is_name : Text → Bool
is_name w = is_letter (slice_index w 0) && list_all is_name_byte w && nat_le (length w) 32 && not (is_reserved w)

-- the name is one of these
abbrev pub declares : List Text → Text → Bool
declares names name = list_any (bytes_eq name) names

-- the number of a declared name
abbrev pub number_of : List Text → Text → ℕ
number_of names name = position_or_len (bytes_eq name) names

-- the number of a name, where it is declared
abbrev pub numbered : List Text → Text → Option ℕ
numbered names name = if declares names name then Some (number_of names name) else None
