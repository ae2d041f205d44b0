-- What reading many lines answers.
use Rattle.std.specs.Prelude.{◌≡◌, ℕ, Result, Ok, Err}
use Rattle.k_words.specs.Words.{Text}
use Rattle.k_trace.specs.declared.errors.TraceError.{TraceError}
use Rattle.k_trace.specs.declared.errors.TraceError.TheVariants.{NoMemory, Bad}
use Rattle.k_trace.specs.Judgement.{SoFar, BadLine, IsBad}

-- memory ran out, or that is the first bad line, and its lowest reason
abbrev pub Refuses : {A : Type 0} → TraceError → Result A BadLine → Type 0
Refuses (NoMemory refused) judged = Unit {0}
Refuses (Bad line reason) judged = judged ≡ Err (record { line = line; reason = reason })

-- the lines were read, which leads to after, and the line behind them has the number next
abbrev pub ReadsLines : Result ℕ TraceError → SoFar → Result SoFar BadLine → ℕ → Type 0
ReadsLines (Ok n) after judged next = (judged ≡ Ok after) × (n ≡ next)
ReadsLines (Err e) after judged next = Refuses e judged

-- memory ran out, or that is the first bad line of the bytes, and the lowest reason that applies to it
abbrev pub IsRefused : Text → TraceError → Type 0
IsRefused bytes (NoMemory refused) = Unit {0}
IsRefused bytes (Bad line reason) = IsBad bytes line reason
