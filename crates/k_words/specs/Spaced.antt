-- Words behind others on a line.
use Rattle.std.specs.Prelude.{List, ◌∷◌}
use Rattle.std.specs.List.{flat_map}
use Rattle.k_words.specs.Words.{Text}

-- The words, each with a space before it.
abbrev pub spaced : List Text → Text
spaced words = flat_map (λ word. 32 ∷ word) words
