-- What the lines are judged, the bytes are judged.
use Rattle.std.proofs.Common.{◌≡◌, ◌≤◌, true, length, Result, Ok, refl, sym, ap}
use Rattle.std.proofs.lemmas.Bool.{le-leb}
use Rattle.k_words.specs.Words.{Text, lines_of}
use Rattle.k_trace.specs.declared.errors.TraceError.{TraceError}
use Rattle.k_trace.specs.declared.errors.TraceError.TheVariants.{NoMemory, Bad}
use Rattle.k_trace.specs.Named.{NamedTrace}
use Rattle.k_trace.specs.Rules.{Spells}
use Rattle.k_trace.specs.Judgement.{SoFar, BadLine, start, judged_lines, has_process, judgement}
use Rattle.k_trace.specs.Reading.{Refuses, IsRefused}
use Rattle.k_reader.proofs.Sound.{sound}

-- what the lines are refused for, the bytes are refused for
pub whole_refused : (bytes : Text) (e : TraceError) → length bytes ≤ 16777216 → Refuses e (judged_lines 1 start (lines_of bytes)) → IsRefused bytes e
unfolding judgement
whole_refused bytes (NoMemory refused) few h = tt
whole_refused bytes (Bad line reason) few h = rw (le-leb (length bytes) 16777216 few, h) refl

-- what the lines say, the bytes spell
pub whole_spelled : (bytes : Text) (c : SoFar) (t : NamedTrace) → length bytes ≤ 16777216 → judged_lines 1 start (lines_of bytes) ≡ Ok c → true ≡ has_process c.place → t ≡ c.said → Spells bytes t
unfolding judgement
whole_spelled bytes c t few h some same =
    sound bytes t (rw (le-leb (length bytes) 16777216 few, h, ← some) (ap (λ (x : NamedTrace). let r : Result NamedTrace BadLine = Ok x in r) (sym same)))
