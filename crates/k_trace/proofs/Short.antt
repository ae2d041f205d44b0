-- Names are short.
use Rattle.std.proofs.Common.{◌≡◌, ◌≤◌, true, List, [], ◌∷◌, ◌++◌, length, arith}
use Rattle.std.proofs.lemmas.Grind.{common_steps}
use Rattle.k_words.specs.Words.{Text}
use Rattle.k_words.specs.Names.{is_name}
use Rattle.k_trace.specs.Numbered.{AllShort}

pub name_is_short : (w : Text) → is_name w ≡ true → length w ≤ 32
name_is_short w h = grind (arith, common_steps)

pub AllShort_append : (names : List Text) (w : Text) → AllShort names → is_name w ≡ true → AllShort (names ++ w ∷ [])
AllShort_append names w all good i lt = grind (arith, common_steps, all i, name_is_short w good)
