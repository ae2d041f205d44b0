-- The text that tells of a bad input.
use Rattle.std.specs.Prelude.{ℕ, ◌++◌, [], ◌∷◌, decimal, codes}
use Rattle.k_words.specs.Words.{Text}

-- What is written where the input is no trace: the first bad line, and the reason.
unfoldable pub bad_trace_text : ℕ → ℕ → Text
bad_trace_text line reason = codes "bad trace: line " ++ decimal line ++ codes " reason " ++ decimal reason ++ 10 ∷ []
