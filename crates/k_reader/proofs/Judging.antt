-- One more line is judged.
use Rattle.std.proofs.Common.{◌≡◌, ◌∙◌, ℕ, ◌+◌, List, [], ◌∷◌, Ok, Err, refl, ap, length}
use Rattle.k_words.specs.Words.{Text, lines_of}
use Rattle.k_trace.specs.Reasons.{reason_number}
use Rattle.k_trace.specs.Judgement.{SoFar, then_lines, judged_line, judged_lines}
use Rattle.k_trace.specs.declared.reasons.Reason.{Reason}

pub one_more : (n : ℕ) (c d : SoFar) (lines rest : List Text) (line : Text) → lines ≡ line ∷ rest → judged_line c line ≡ Ok d → judged_lines n c lines ≡ judged_lines (n + 1) d rest
unfolding judged_lines
one_more n c d lines rest line e good = ap (λ (ls : List Text). judged_lines n c ls) e ∙ ap (then_lines (λ x. judged_lines (n + 1) x rest) n) good

pub bad_line : (n : ℕ) (r : Reason) (c : SoFar) (lines rest : List Text) (line : Text) → lines ≡ line ∷ rest → judged_line c line ≡ Err r → judged_lines n c lines ≡ Err (record { line = n; reason = reason_number r })
unfolding judged_lines
bad_line n r c lines rest line e bad = ap (λ (ls : List Text). judged_lines n c ls) e ∙ ap (then_lines (λ x. judged_lines (n + 1) x rest) n) bad

pub none_left : (n : ℕ) (c : SoFar) (bytes : Text) → length bytes ≡ 0 → judged_lines n c (lines_of bytes) ≡ Ok c
unfolding judged_lines
none_left n c [] e = refl
none_left n c (b ∷ bytes) e = absurd cc
