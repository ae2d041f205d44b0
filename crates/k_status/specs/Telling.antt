-- What a call tells: a status, and a text that was written, up to a fault of the sink; and with which number the program ends.
use Rattle.std.specs.Prelude.{◌≡◌, ◌⊎◌, ℕ, [], Result, Ok, Err}
use Rattle.k_words.specs.Words.{Text}
use Rattle.k_trace.specs.Named.{NamedTrace}
use Rattle.k_trace.specs.Judgement.{IsBad}
use Rattle.k_trace.specs.Rules.{Spells}
use Rattle.k_status.specs.declared.status.Status.{Status}
use Rattle.k_status.specs.declared.status.Status.TheVariants.{Good, BadTrace, WantOfMemory, ReadFault, WriteFault}
use Rattle.k_status.specs.Ends.{Input, Output, SourceFailed, Took, TookFront, TookNothing}
use Rattle.k_status.specs.Numbers.{number_of}
use Rattle.k_status.specs.Readings.{WasRead}
use Rattle.k_status.specs.Texts.{bad_trace_text}

-- The answer is one of those that nothing is written for.
abbrev pub IsUnwritten : Status → Type 0
IsUnwritten WantOfMemory = Unit {0}
IsUnwritten ReadFault = Unit {0}
IsUnwritten _ = ⊥

-- The status after its text was handed to the sink.
abbrev pub status_after : {E : Type 0} → Status → Result (Unit {0}) E → Status
status_after status (Ok done) = status
status_after status (Err failed) = WriteFault

-- The text was taken and the status is the answer; or the sink failed at a text that is written, and the answer is WriteFault.
abbrev pub IsWritten : Output → Status → Text → Status → Type 0
IsWritten output status text answer =
    ((answer ≡ status) × Took output text) ⊎ ((answer ≡ WriteFault) × ¬ IsUnwritten status × TookFront output text)

-- Some status tells the truth, and its text was written, up to a fault of the sink.
pub record Answers (tells : Status → Text → Type 0) (output : Output) (answer : Status) : Type 0 where
  pub status : Status
  pub text : Text
  pub told : tells status text
  pub written : IsWritten output status text answer

-- What each status tells of the bytes that were read as a trace, and of the text to be written, where those are the reports of a trace.
abbrev pub TellsOfBytes : (NamedTrace → Text → Type 0) → Text → Status → Text → Type 0
TellsOfBytes reports bytes Good text = (t : NamedTrace) × Spells bytes t × reports t text
TellsOfBytes reports bytes BadTrace text = (line : ℕ) × (reason : ℕ) × IsBad bytes line reason × (text ≡ bad_trace_text line reason)
TellsOfBytes reports bytes WantOfMemory text = text ≡ []
TellsOfBytes reports bytes _ text = ⊥

-- What each status tells of a source that is read up to this limit, by what it tells of the bytes that were read.
abbrev pub TellsOfSource : ℕ → (Text → Status → Text → Type 0) → Input → Status → Text → Type 0
TellsOfSource limit tells input ReadFault text = SourceFailed input × (text ≡ [])
TellsOfSource limit tells input WantOfMemory text = text ≡ []
TellsOfSource limit tells input status text = (bytes : Text) × WasRead limit input bytes × tells bytes status text

-- The program ends with the number of a status that is an answer; or memory ran out before it had its words, and nothing was written.
abbrev pub EndsWith : (Status → Type 0) → Output → ℕ → Type 0
EndsWith answered output number =
    ((status : Status) × answered status × (number ≡ number_of status)) ⊎ ((number ≡ number_of WantOfMemory) × TookNothing output)
