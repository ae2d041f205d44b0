-- What an answer tells, from the part that a called function tells.
use Rattle.std.proofs.Common.{◌≡◌, ℕ, ◌+◌, ◌≤◌, List, [], length, inl, refl, sym, subst, arith}
use Rattle.std.specs.Io.KnownBytes.{Consumes, IsAtEnd}
use Rattle.k_io.proofs.Takings.{takes_nothing}
use Rattle.k_words.specs.Words.{Text}
use Rattle.k_status.specs.declared.status.Status.{Status}
use Rattle.k_status.specs.Ends.{Input, Output}
use Rattle.k_status.specs.Readings.{WasRead}
use Rattle.k_status.specs.Telling.{Answers, IsWritten}

-- An answer with no text: nothing was written.
pub answered_unwritten : (tells : Status → Text → Type 0) (old : List ℕ → List ℕ → Type 0) (count : ℕ) (status answer : Status) → answer ≡ status → tells status []
    → Answers tells (record { agreed = old; agrees = old; failed_before = count; failed_after = count }) answer
answered_unwritten tells old count status answer same h =
    record { status = status; text = []; told = h; written = inl (same, record { whole = takes_nothing old; steady = refl }) }

-- An answer whose text was handed to the sink.
pub answered_written : (tells : Status → Text → Type 0) (output : Output) (status answer : Status) (text : Text)
    → tells status text → IsWritten output status text answer → Answers tells output answer
answered_written tells output status answer text h w = record { status = status; text = text; told = h; written = w }

-- What is told of less leads to what is told of more.
pub answered_more : (less more : Status → Text → Type 0) (output : Output) (answer : Status)
    → ((status : Status) (text : Text) → less status text → more status text) → Answers less output answer → Answers more output answer
answered_more less more output answer h a = record { status = a.status; text = a.text; told = h a.status a.text a.told; written = a.written }

-- Bytes that a vector of this length holds were read, as reading the source says of that vector.
pub was_read : (limit : ℕ) (input : Input) (bytes items : Text) (n : ℕ) → bytes ≡ items → length bytes ≡ n → Consumes input.left input.rest items → n ≤ limit + 1 → (n ≤ limit → IsAtEnd input.rest)
    → WasRead limit input bytes
was_read limit input bytes items n same long given few ended = record {
  given = subst (λ (t : Text). Consumes input.left input.rest t) (sym same) given;
  few = omega (arith, long, few);
  ended = λ short. ended (omega (arith, long, short));
}
