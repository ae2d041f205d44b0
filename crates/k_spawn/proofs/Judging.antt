-- One more line is judged.
use Rattle.std.proofs.Common.{◌≡◌, ◌≤◌, ◌∙◌, ℕ, ◌+◌, List, [], ◌∷◌, Bool, true, false, cond, Result, Ok, Err, refl, sym, ap, length}
use Rattle.std.proofs.lemmas.Bool.{le-leb, leb-true}
use Rattle.k_trace.specs.Words.{Text, lines_of}
use Rattle.k_trace.specs.Judgement.{BadLine, has_process}
use Rattle.k_spawn.specs.declared.errors.ScriptError.{ScriptError}
use Rattle.k_spawn.specs.declared.errors.ScriptError.TheVariants.{NoMemory, Bad}
use Rattle.k_spawn.specs.declared.reasons.ScriptReason.{ScriptReason}
use Rattle.k_spawn.specs.Reasons.{reason_number}
use Rattle.k_spawn.specs.Scripts.{Script}
use Rattle.k_spawn.specs.Judgement.{SoFar, start, then_lines, judged_line, judged_lines, judgement, IsBad}
use Rattle.k_spawn.specs.Outcome.{Refuses, IsRefused}

pub one_more : (n : ℕ) (c d : SoFar) (lines rest : List Text) (line : Text) → lines ≡ line ∷ rest → judged_line c line ≡ Ok d → judged_lines n c lines ≡ judged_lines (n + 1) d rest
unfolding judged_lines
one_more n c d lines rest line e good = ap (λ (ls : List Text). judged_lines n c ls) e ∙ ap (then_lines (λ x. judged_lines (n + 1) x rest) n) good

pub bad_line : (n : ℕ) (r : ScriptReason) (c : SoFar) (lines rest : List Text) (line : Text) → lines ≡ line ∷ rest → judged_line c line ≡ Err r → judged_lines n c lines ≡ Err (record { line = n; reason = reason_number r })
unfolding judged_lines
bad_line n r c lines rest line e bad = ap (λ (ls : List Text). judged_lines n c ls) e ∙ ap (then_lines (λ x. judged_lines (n + 1) x rest) n) bad

pub none_left : (n : ℕ) (c : SoFar) (bytes : Text) → length bytes ≡ 0 → judged_lines n c (lines_of bytes) ≡ Ok c
unfolding judged_lines
none_left n c [] e = refl
none_left n c (b ∷ bytes) e = absurd cc

-- what the lines are refused for, the bytes are refused for
pub whole_refused : (bytes : Text) (e : ScriptError) → length bytes ≤ 16777216 → Refuses e (judged_lines 1 start (lines_of bytes)) → IsRefused bytes e
unfolding judgement
whole_refused bytes (NoMemory refused) few h = tt
whole_refused bytes (Bad line reason) few h = rw (le-leb (length bytes) 16777216 few, h) refl

-- what the lines say, the bytes are judged to be
pub whole_read : (bytes : Text) (c : SoFar) (s : Script) → length bytes ≤ 16777216 → judged_lines 1 start (lines_of bytes) ≡ Ok c → true ≡ has_process c.place → s ≡ c.said → judgement bytes ≡ Ok s
unfolding judgement
whole_read bytes c s few h some same = rw (le-leb (length bytes) 16777216 few, h, ← some, same) refl

good_test : (b : Bool) (judged : Result Script BadLine) (bad : BadLine) (s : Script) → cond b judged (Err bad) ≡ Ok s → b ≡ true
good_test true judged bad s e = refl
good_test false judged bad s e = absurd cc

-- bytes that are a script are few enough
pub script_few : (bytes : Text) (s : Script) → judgement bytes ≡ Ok s → length bytes ≤ 16777216
unfolding judgement
script_few bytes s e = leb-true (length bytes) 16777216 (good_test _ _ _ s e)

not_both : (s : Script) (bad : BadLine) → (let judged : Result Script BadLine = Ok s in judged) ≡ Err bad → ⊥
not_both s bad e = absurd cc

-- and no line of them is bad
pub script_not_bad : (bytes : Text) (s : Script) (line reason : ℕ) → judgement bytes ≡ Ok s → IsBad bytes line reason → ⊥
script_not_bad bytes s line reason good bad = not_both s (record { line = line; reason = reason }) (sym good ∙ bad)
