-- The text of lines that are added one by one, where the end of the last is still to come.
use Rattle.std.proofs.Common.{◌≡◌, ◌∙◌, ℕ, sym, ap, List, [], ◌∷◌, ◌++◌, append_assoc}
use Rattle.std.specs.List.{join_with_byte}
use Rattle.std.proofs.lemmas.List.{append-nil}
use Rattle.k_words.specs.Words.{Text, line_text, text_of}
use Rattle.k_report.proofs.LineLemmas.{text_of-append}
use Rattle.k_big.specs.Summary.{count_words}

-- the text is that of the lines, but for its last line feed
pub record AreLines (text : Text) (lines : List (List Text)) : Type 0 where
  pub whole : text ++ 10 ∷ [] ≡ text_of lines

-- the first line
pub line_first : (text word : Text) (number : ℕ) → text ≡ join_with_byte 32 (count_words word number) → AreLines text (count_words word number ∷ [])
line_first text word number is = record { whole = ap (λ (t : Text). t ++ 10 ∷ []) is ∙ sym (append-nil (line_text (count_words word number))) }

-- one line more
pub line_more : (old new word : Text) (lines : List (List Text)) (given number : ℕ) → given ≡ number → new ≡ old ++ 10 ∷ join_with_byte 32 (count_words word given) → AreLines old lines → AreLines new (lines ++ count_words word number ∷ [])
line_more old new word lines given number same grown are = record {
  whole = ap (λ (t : Text). t ++ 10 ∷ []) grown
      ∙ append_assoc old (10 ∷ join_with_byte 32 (count_words word given)) (10 ∷ [])
      ∙ sym (append_assoc old (10 ∷ []) (line_text (count_words word given)))
      ∙ ap (λ (t : Text). t ++ line_text (count_words word given)) are.whole
      ∙ ap (λ (n : ℕ). text_of lines ++ line_text (count_words word n)) same
      ∙ ap (λ (t : Text). text_of lines ++ t) (sym (append-nil (line_text (count_words word number))))
      ∙ sym (text_of-append lines (count_words word number ∷ []));
}
