-- Five lists of lines written one after the other, or up to the one that failed.
use Rattle.std.proofs.Common.{ℕ, List, ◌++◌, Result, Err}
use Rattle.std.specs.Prelude.{IsErr}
use Rattle.k_io.specs.Writing.{Writes}
use Rattle.k_words.specs.Words.{Text, text_of}
use Rattle.k_text.specs.Writing.{HasWritten}
use Rattle.k_report.proofs.LineLemmas.{part_failed, part_failed_first, part_missing}

abbrev Holds : Type 1
Holds = List ℕ → List ℕ → Type 0

module _ {E : Type 0} (a b : Holds) (x y : ℕ) (A B C D F : List (List Text)) where
  pub first_failed : (r : Result (Unit {0}) E) (e : E) → IsErr r → Writes {T = Unit {0}} a b x y (Err e) (text_of A) → Writes a b x y r (text_of ((((A ++ B) ++ C) ++ D) ++ F))
  first_failed r e is w =
      part_missing a b x y r (((A ++ B) ++ C) ++ D) F is (part_missing a b x y r ((A ++ B) ++ C) D is (part_missing a b x y r (A ++ B) C is (part_missing a b x y r A B is (part_failed_first a b x y r e A is w))))

  pub second_failed : (c : Holds) (z : ℕ) (r : Result (Unit {0}) E) (e : E) → IsErr r → HasWritten a b x y (text_of A) → Writes {T = Unit {0}} b c y z (Err e) (text_of B) →
      Writes a c x z r (text_of ((((A ++ B) ++ C) ++ D) ++ F))
  second_failed c z r e is h w =
      part_missing a c x z r (((A ++ B) ++ C) ++ D) F is (part_missing a c x z r ((A ++ B) ++ C) D is (part_missing a c x z r (A ++ B) C is (part_failed a b c x y z r e A B is h w)))

  pub third_failed : (c : Holds) (z : ℕ) (r : Result (Unit {0}) E) (e : E) → IsErr r → HasWritten a b x y (text_of (A ++ B)) → Writes {T = Unit {0}} b c y z (Err e) (text_of C) →
      Writes a c x z r (text_of ((((A ++ B) ++ C) ++ D) ++ F))
  third_failed c z r e is h w = part_missing a c x z r (((A ++ B) ++ C) ++ D) F is (part_missing a c x z r ((A ++ B) ++ C) D is (part_failed a b c x y z r e (A ++ B) C is h w))

  pub fourth_failed : (c : Holds) (z : ℕ) (r : Result (Unit {0}) E) (e : E) → IsErr r → HasWritten a b x y (text_of ((A ++ B) ++ C)) → Writes {T = Unit {0}} b c y z (Err e) (text_of D) →
      Writes a c x z r (text_of ((((A ++ B) ++ C) ++ D) ++ F))
  fourth_failed c z r e is h w = part_missing a c x z r (((A ++ B) ++ C) ++ D) F is (part_failed a b c x y z r e ((A ++ B) ++ C) D is h w)
