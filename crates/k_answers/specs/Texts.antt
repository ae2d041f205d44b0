-- The texts that are no reports.
use Rattle.std.specs.Prelude.{ℕ, ◌++◌, [], ◌∷◌, decimal, codes}
use Rattle.k_words.specs.Words.{Text}
use Rattle.k_audit.specs.declared.verdicts.Verdict.{Verdict}
use Rattle.k_audit.specs.declared.verdicts.Verdict.TheVariants.{Sound, Line, Point}

-- What is written where the words are no command.
unfoldable pub usage_text : Text
usage_text = codes "usage: kaffe run | replay | check | big N | watch K | work | snap | audit | tree" ++ 10 ∷ []

-- What is written where the report is good.
unfoldable pub good_text : Text
good_text = codes "good" ++ 10 ∷ []

-- What is written where a report or a snapshot is refused: its first wrong line.
unfoldable pub refused_text : ℕ → Text
refused_text line = codes "refused " ++ decimal line ++ 10 ∷ []

-- What is written where the snapshot is sound.
unfoldable pub sound_text : Text
sound_text = codes "sound" ++ 10 ∷ []

-- What is written where a point of the snapshot does not hold: the number of the lowest one.
unfoldable pub unsound_text : ℕ → Text
unsound_text point = codes "unsound " ++ decimal point ++ 10 ∷ []

-- What is written of the verdict on a snapshot: where its text is wrong, what is written of a report.
abbrev pub verdict_text : Verdict → Text
verdict_text Sound = sound_text
verdict_text (Line line) = refused_text line
verdict_text (Point point) = unsound_text point
