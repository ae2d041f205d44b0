-- A run is judged good.
use Rattle.std.proofs.Common.{◌≡◌, ◌∙◌, ℕ, ◌+◌, List, [], ◌∷◌, ◌++◌, Result, Ok, ap}
use Rattle.std.specs.List.{join_with_byte}
use Rattle.k_words.specs.Words.{Text}
use Rattle.k_words.proofs.Proper.{AllProper, joins, proper_words, proper_printable, proper_short, proper_are_words}
use Rattle.k_trace.specs.Demands.{demands}
use Rattle.k_trace.specs.Judgement.{SoFar, BadLine, judged_line, judged_lines, then_lines}
use Rattle.k_reader.proofs.Again.{step_again}
use Rattle.k_reader.proofs.Kept.{Holds}
use Rattle.k_reader.proofs.Keeps.{step_keeps}
use Rattle.k_reader.proofs.Steps.{Step, Run}
use Rattle.k_reader.proofs.Tidy.{tidy, orderly, step_proper}

line_again : (c d : SoFar) (ws : List Text) (wss : List (List Text)) → Holds c.place c.said wss → Step c ws d → judged_line c (join_with_byte 32 ws) ≡ Ok d
unfolding judged_line demands
line_again c d ws wss h s =
    let neat = tidy c wss h in
    let proper = step_proper c d ws neat s in
    rw (proper_short ws proper, proper_printable ws proper, proper_words ws proper, proper_are_words ws proper) (step_again c d ws (orderly c.said neat) s)

-- the lines of a run are judged good, and lead where it leads
pub run_again : (n : ℕ) (c d : SoFar) (wss before : List (List Text)) → Holds c.place c.said before → Run c wss d → judged_lines n c (joins wss) ≡ Ok d
unfolding judged_lines
run_again n c d [] before h run = ap (λ (x : SoFar). let r : Result SoFar BadLine = Ok x in r) run
run_again n c d (ws ∷ wss) before h run =
    ap (then_lines (λ x. judged_lines (n + 1) x (joins wss)) n) (line_again c run.0 ws before h run.1)
    ∙ run_again (n + 1) run.0 d wss (before ++ ws ∷ []) (step_keeps c run.0 ws before h run.1) run.2

-- the lines of a run are proper
pub run_proper : (c d : SoFar) (wss before : List (List Text)) → Holds c.place c.said before → Run c wss d → AllProper wss
run_proper c d [] before h run = tt
run_proper c d (ws ∷ wss) before h run =
    (step_proper c run.0 ws (tidy c before h) run.1, run_proper run.0 d wss (before ++ ws ∷ []) (step_keeps c run.0 ws before h run.1) run.2)
