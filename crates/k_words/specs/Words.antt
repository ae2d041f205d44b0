-- Lines and words of a text.
use Rattle.std.specs.Prelude.{◌≡◌, ◌⊎◌, ℕ, ◌==◌, ◌&&◌, nat_lt, nat_le, Bool, IsFalse, List, [], ◌∷◌, ◌++◌, length, slice_index_or, if◌then◌else◌}
use Rattle.std.specs.List.{onto_first, slice_split, list_all, list_any, join_with_byte, flat_map}
use Rattle.std.specs.Str.{bytes_eq}

-- a text is the list of its bytes
abbrev pub Text : Type 0
Text = List ℕ

-- the lines: each ends before a line feed, or, the last one, at the end of the text
abbrev pub lines_of : Text → List Text
lines_of [] = []
lines_of (b ∷ bytes) = if b == 10 then [] ∷ lines_of bytes else onto_first b (lines_of bytes)

-- the words of a line, with one space between each two
abbrev pub words_of : Text → List Text
words_of line = slice_split (λ b. b == 32) line

-- no word is empty: the spaces are single, and the line begins and ends with a word
abbrev pub are_words : List Text → Bool
are_words words = list_all (λ w. nat_lt 0 (length w)) words

-- the word at a place, or nothing past the last
abbrev pub word_at : List Text → ℕ → Text
word_at words i = slice_index_or words i []

-- the byte is a space or a visible character of ASCII
abbrev pub is_printable : ℕ → Bool
is_printable b = nat_le 32 b && nat_lt b 127

-- a line of these words: a space between each two, and a line feed
abbrev pub line_text : List Text → Text
line_text ws = join_with_byte 32 ws ++ 10 ∷ []

-- the text of these lines
abbrev pub text_of : List (List Text) → Text
text_of lines = flat_map line_text lines

-- the bytes are the text, but for its last line feed, which may be missing
abbrev pub AreText : Text → Text → Type 0
AreText bytes text = (bytes ≡ text) ⊎ (bytes ++ 10 ∷ [] ≡ text)

-- the line, its line feed, and the rest; or the line alone, which is all
abbrev pub IsFirstLine : Text → Text → Text → Type 0
IsFirstLine bytes line rest = (bytes ≡ line ++ 10 ∷ rest) ⊎ ((bytes ≡ line) × (rest ≡ []))

-- the front is all lines before the first one that is the wanted one, and the rest begins with that one; or the rest is
-- nothing, and no line is the wanted one
pub record IsSplitAt (wanted bytes front rest : Text) : Type 0 where
  pub whole : bytes ≡ front ++ rest
  pub lines : lines_of bytes ≡ lines_of front ++ lines_of rest
  pub before : IsFalse (list_any (bytes_eq wanted) (lines_of front))
  pub found : (rest ≡ []) ⊎ ((more : List Text) × (lines_of rest ≡ wanted ∷ more))
