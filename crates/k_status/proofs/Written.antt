-- A text that was handed to the sink, and the answer after that.
use Rattle.std.proofs.Common.{◌≡◌, ℕ, List, ◌++◌, Result, Ok, Err, inl, inr, refl, subst, sym}
use Rattle.std.specs.Prelude.{IsErr}
use Rattle.k_io.specs.Writing.{Writes}
use Rattle.k_io.proofs.Takings.{takes_front_longer}
use Rattle.k_words.specs.Words.{Text}
use Rattle.k_status.specs.declared.status.Status.{Status}
use Rattle.k_status.specs.Telling.{IsUnwritten, IsWritten, status_after}

written : {E : Type 0} (old new : List ℕ → List ℕ → Type 0) (before now : ℕ) (r : Result (Unit {0}) E) (text : Text) (status : Status) → ¬ IsUnwritten status
    → Writes {T = Unit {0}} {E = E} old new before now r text
    → IsWritten (record { agreed = old; agrees = new; failed_before = before; failed_after = now }) status text (status_after status r)
written old new before now (Ok v) text status some w = inl (refl, record { whole = w.ok; steady = w.steady })
written old new before now (Err e) text status some w = inr (refl, some, record { front = w.err; failed = w.cause.failed })

pub written_by : {E : Type 0} (old new : List ℕ → List ℕ → Type 0) (before now : ℕ) (r : Result (Unit {0}) E) (text : Text) (status answer : Status)
    → ¬ IsUnwritten status → answer ≡ status_after status r → Writes {T = Unit {0}} {E = E} old new before now r text
    → IsWritten (record { agreed = old; agrees = new; failed_before = before; failed_after = now }) status text answer
written_by old new before now r text status answer some e w =
    subst (λ (a : Status). IsWritten (record { agreed = old; agrees = new; failed_before = before; failed_after = now }) status text a) (sym e) (written old new before now r text status some w)

-- A text was handed to the sink, so the answer is none of those that nothing is written for.
pub never_unwritten : {E : Type 0} (r : Result (Unit {0}) E) (status answer : Status) → ¬ IsUnwritten status → answer ≡ status_after status r → ¬ IsUnwritten answer
never_unwritten (Ok v) status answer some e = subst (λ (s : Status). ¬ IsUnwritten s) (sym e) some
never_unwritten (Err e) status answer some f = subst (λ (s : Status). ¬ IsUnwritten s) (sym f) (λ none. none)

-- A write that failed took a front of its text, so of that text with more behind it.
pub writes_missing : {E : Type 0} (old new : List ℕ → List ℕ → Type 0) (before now : ℕ) (r : Result (Unit {0}) E) (e : E) (text more : Text) → IsErr r
    → Writes {T = Unit {0}} old new before now (Err e) text → Writes old new before now r (text ++ more)
writes_missing old new before now (Ok v) e text more is w = absurd cc
writes_missing old new before now (Err d) e text more is w =
    record { ok = tt; err = takes_front_longer old new text more w.err; steady = tt; cause = record { later = w.cause.later; failed = w.cause.failed } }
