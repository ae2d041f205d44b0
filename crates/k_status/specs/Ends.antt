-- The two ends of a call, its source and its sink, before it and after it.
use Rattle.std.specs.Prelude.{◌≡◌, ℕ, List, [], Option}
use Rattle.k_io.specs.Causes.{RoseOrLast}
use Rattle.k_io.specs.Taking.{Takes, TakesFront}
use Rattle.k_words.specs.Words.{Text}

-- A source before a call and after it: the bytes that it has left, where it tells them, and how often it failed.
pub record Input : Type 0 where
  pub left : Option Text
  pub rest : Option Text
  pub failed_before : ℕ
  pub failed_after : ℕ

-- A sink before a call and after it: the texts that it agrees with, and how often it failed.
pub record Output : Type 1 where
  pub agreed : List ℕ → List ℕ → Type 0
  pub agrees : List ℕ → List ℕ → Type 0
  pub failed_before : ℕ
  pub failed_after : ℕ

-- The source failed: its count of faults rose, or stands at its last value.
abbrev pub SourceFailed : Input → Type 0
SourceFailed input = RoseOrLast input.failed_before input.failed_after

-- The sink failed: its count of faults rose, or stands at its last value.
abbrev pub SinkFailed : Output → Type 0
SinkFailed output = RoseOrLast output.failed_before output.failed_after

-- The sink took the whole text, and had no fault.
pub record Took (output : Output) (text : Text) : Type 0 where
  pub whole : Takes output.agreed output.agrees text
  pub steady : output.failed_after ≡ output.failed_before

-- The sink failed, and took a front of the text.
pub record TookFront (output : Output) (text : Text) : Type 0 where
  pub front : TakesFront output.agreed output.agrees text
  pub failed : SinkFailed output

-- The sink took nothing.
abbrev pub TookNothing : Output → Type 0
TookNothing output = Took output []
