-- Lists of lines written one after the other, and those that are missing behind one that failed.
use Rattle.std.proofs.Common.{ℕ, List, [], ◌∷◌, ◌++◌, Result}
use Rattle.std.specs.Prelude.{IsErr}
use Rattle.k_io.specs.Writing.{Writes}
use Rattle.k_words.specs.Words.{Text, text_of}
use Rattle.k_report.proofs.LineLemmas.{part_missing}

-- the lines, and then those of the parts
unfoldable pub with_parts : List (List Text) → List (List (List Text)) → List (List Text)
with_parts lines [] = lines
with_parts lines (part ∷ parts) = with_parts (lines ++ part) parts

-- parts that would have come are missing too
pub parts_missing : {E : Type 0} (a b : List ℕ → List ℕ → Type 0) (x y : ℕ) (r : Result (Unit {0}) E) (lines : List (List Text)) (parts : List (List (List Text)))
    → IsErr r → Writes a b x y r (text_of lines) → Writes a b x y r (text_of (with_parts lines parts))
unfolding with_parts
parts_missing a b x y r lines [] is w = w
parts_missing a b x y r lines (part ∷ parts) is w = parts_missing a b x y r (lines ++ part) parts is (part_missing a b x y r lines part is w)
