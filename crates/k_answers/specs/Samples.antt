-- The text of the samples that a watcher took.
use Rattle.std.specs.Prelude.{List, [], ◌∷◌, ◌++◌, map, decimal, codes}
use Rattle.k_words.specs.Words.{Text, text_of}
use Rattle.k_watch.specs.declared.sample.Sample.{Sample}

-- The words of the line of a sample: how many events there were, the use of the root limit, and how many processes lived.
abbrev pub sample_words : Sample → List Text
sample_words s = codes "sample" ∷ decimal s.events ∷ decimal s.root_use ∷ decimal s.living ∷ []

-- The lines of the samples, with a line before them and one behind them.
unfoldable pub samples_lines : List Sample → List (List Text)
samples_lines samples = ((codes "samples" ∷ []) ∷ [] ++ map sample_words samples) ++ (codes "end" ∷ []) ∷ []

-- Their text.
abbrev pub samples_text : List Sample → Text
samples_text samples = text_of (samples_lines samples)
