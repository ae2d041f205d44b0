-- The answer of a call whose sink gathers, after what was left was handed on to the sink behind it.
use Rattle.std.proofs.Common.{◌≡◌, ◌∙◌, ℕ, ◌≤◌, List, [], take, drop, Result, Ok, Err, inl, inr, refl, sym, subst, arith}
use Rattle.std.specs.Prelude.{IsOk}
use Rattle.std.proofs.lemmas.List.{take-append-drop}
use Rattle.k_gather.specs.Gathering.{Gathers}
use Rattle.k_gather.proofs.Gatherings.{took_whole, took_front}
use Rattle.k_io.specs.Causes.{RoseOrLast}
use Rattle.k_io.specs.Taking.{Takes, TakesFront}
use Rattle.k_io.specs.Writing.{Writes}
use Rattle.k_io.proofs.Takings.{takes_nothing, takes_front_longer}
use Rattle.k_words.specs.Words.{Text}
use Rattle.k_status.specs.declared.status.Status.{Status}
use Rattle.k_status.specs.declared.status.Status.TheVariants.{WriteFault}
use Rattle.k_status.specs.Ends.{Output, Took, TookFront}
use Rattle.k_status.specs.Telling.{Answers, IsUnwritten, IsWritten, status_after}

-- What the sink that gathers had, and has.
abbrev gathered : (List ℕ → List ℕ → Type 0) → (List ℕ → List ℕ → Type 0) → List ℕ → ℕ → ℕ → Output
gathered a b held x y = record { agreed = Gathers a []; agrees = Gathers b held; failed_before = x; failed_after = y }

-- What the sink behind it had, and has.
abbrev behind : (List ℕ → List ℕ → Type 0) → (List ℕ → List ℕ → Type 0) → ℕ → ℕ → Output
behind a c x z = record { agreed = a; agrees = c; failed_before = x; failed_after = z }

-- ---- one text

-- A text was gathered, and what was left of it was handed on.
took_on : (a b c : List ℕ → List ℕ → Type 0) (held text : Text) (x y z : ℕ) → Took (gathered a b held x y) text → Takes b c held → z ≡ y → Took (behind a c x z) text
took_on a b c held text x y z t k same = record { whole = took_whole a b c held text t.whole k; steady = same ∙ t.steady }

-- A text was gathered, and a write failed when what was left of it was handed on.
failed_on : (a b c : List ℕ → List ℕ → Type 0) (held text : Text) (x y z : ℕ) → Took (gathered a b held x y) text → TakesFront b c held → RoseOrLast y z → TookFront (behind a c x z) text
failed_on a b c held text x y z t k rose = record { front = took_front a b c held text t.whole k; failed = subst (λ (n : ℕ). RoseOrLast n z) t.steady rose }

-- A front of a text was gathered, and a front of what was left of it handed on.
front_on : (a b c : List ℕ → List ℕ → Type 0) (held text : Text) (x y z : ℕ) → TookFront (gathered a b held x y) text → TakesFront b c held → y ≤ z → TookFront (behind a c x z) text
front_on a b c held text x y z t k later = record {
  front = subst (λ (u : Text). TakesFront a c u) (take-append-drop t.front.0 text)
      (takes_front_longer a c (take t.front.0 text) (drop t.front.0 text) (took_front a b c held (take t.front.0 text) t.front.1 k));
  failed = omega (arith, t.failed, later);
}

-- A front of a text was gathered, and what was left of it was handed on.
front_whole : (a b c : List ℕ → List ℕ → Type 0) (held text : Text) (x y z : ℕ) → TookFront (gathered a b held x y) text → Takes b c held → z ≡ y → TookFront (behind a c x z) text
front_whole a b c held text x y z t k same =
    record { front = (t.front.0, took_whole a b c held (take t.front.0 text) t.front.1 k); failed = subst (λ (n : ℕ). RoseOrLast x n) (sym same) t.failed }

-- ---- the answer

-- A text whose status is not told as it is was written, and a write failed when what was left of it was handed on.
failed_at : (a b c : List ℕ → List ℕ → Type 0) (held text : Text) (x y z : ℕ) (status answer : Status) → IsWritten (gathered a b held x y) status text answer → ¬ IsUnwritten answer
    → TakesFront b c held → y ≤ z → RoseOrLast y z → IsWritten (behind a c x z) status text WriteFault
failed_at a b c held text x y z status answer (inl w) some k later rose = inr (refl, subst (λ (s : Status). ¬ IsUnwritten s) w.0 some, failed_on a b c held text x y z w.1 k rose)
failed_at a b c held text x y z status answer (inr w) some k later rose = inr (refl, w.1, front_on a b c held text x y z w.2 k later)

-- What was left was handed on, or a write failed.
written_on : {E : Type 0} (a b c : List ℕ → List ℕ → Type 0) (held text : Text) (x y z : ℕ) (status answer : Status) (r : Result (Unit {0}) E)
    → IsWritten (gathered a b held x y) status text answer → (IsUnwritten answer → IsOk r) → Writes {T = Unit {0}} {E = E} b c y z r held
    → IsWritten (behind a c x z) status text (status_after answer r)
written_on a b c held text x y z status answer (Ok u) (inl w) idle k = inl (w.0, took_on a b c held text x y z w.1 k.ok k.steady)
written_on a b c held text x y z status answer (Ok u) (inr w) idle k = inr (w.0, w.1, front_whole a b c held text x y z w.2 k.ok k.steady)
written_on a b c held text x y z status answer (Err e) w idle k =
    failed_at a b c held text x y z status answer w (λ none. let clash = idle none in absurd cc) k.err k.cause.later k.cause.failed

-- A write failed, and what was left is kept back.
written_back : (a b : List ℕ → List ℕ → Type 0) (held text : Text) (x y : ℕ) (status : Status) → ¬ (status ≡ WriteFault) → IsWritten (gathered a b held x y) status text WriteFault
    → IsWritten (behind a b x y) status text WriteFault
written_back a b held text x y status other (inl w) = absurd (other (sym w.0))
written_back a b held text x y status other (inr w) =
    let none : TakesFront b b held = (0, takes_nothing b) in
    inr (refl, w.1, front_on a b b held text x y y w.2 none (omega arith))

-- ---- the sinks as the call has them

-- The sink behind is the one that was given, and nothing was gathered before it.
begun_as : {T : Type 0} (holds : T → List ℕ → List ℕ → Type 0) (faults : T → ℕ) (tells : Status → Text → Type 0) (given began after : T) (start held : Text) (status : Status) → began ≡ given → start ≡ []
    → Answers tells (record { agreed = Gathers (holds began) start; agrees = Gathers (holds after) held; failed_before = faults began; failed_after = faults after }) status
    → Answers tells (gathered (holds given) (holds after) held (faults given) (faults after)) status
begun_as {T = T} holds faults tells given began after start held status same none i =
    subst (λ (t : T). Answers tells (gathered (holds t) (holds after) held (faults t) (faults after)) status) same
    (subst (λ (s : Text). Answers tells (record { agreed = Gathers (holds began) s; agrees = Gathers (holds after) held; failed_before = faults began; failed_after = faults after }) status) none i)

-- What was left was handed on, or a write failed.
pub handed_on : {T E : Type 0} (holds : T → List ℕ → List ℕ → Type 0) (faults : T → ℕ) (tells : Status → Text → Type 0) (given began after handed_to ended : T) (start held : Text) (status answer : Status) (r : Result (Unit {0}) E)
    → began ≡ given → start ≡ [] → ended ≡ handed_to → answer ≡ status_after status r
    → Answers tells (record { agreed = Gathers (holds began) start; agrees = Gathers (holds after) held; failed_before = faults began; failed_after = faults after }) status
    → (IsUnwritten status → IsOk r) → Writes {T = Unit {0}} {E = E} (holds after) (holds handed_to) (faults after) (faults handed_to) r held
    → Answers tells (behind (holds given) (holds ended) (faults given) (faults ended)) answer
handed_on {T = T} holds faults tells given began after handed_to ended start held status answer r same none back e i idle w =
    subst (λ (t : T). Answers tells (behind (holds given) (holds t) (faults given) (faults t)) answer) (sym back)
    (subst (λ (s : Status). Answers tells (behind (holds given) (holds handed_to) (faults given) (faults handed_to)) s) (sym e)
    (let h = begun_as holds faults tells given began after start held status same none i in
    record {
      status = h.status;
      text = h.text;
      told = h.told;
      written = written_on (holds given) (holds after) (holds handed_to) held h.text (faults given) (faults after) (faults handed_to) h.status status r h.written idle w;
    }))

-- A write had failed before, and nothing more is handed on.
pub not_handed_on : {T : Type 0} (holds : T → List ℕ → List ℕ → Type 0) (faults : T → ℕ) (tells : Status → Text → Type 0) (given began after ended : T) (start held : Text) (status : Status)
    → ((text : Text) → ¬ tells WriteFault text) → began ≡ given → start ≡ [] → ended ≡ after → status ≡ WriteFault
    → Answers tells (record { agreed = Gathers (holds began) start; agrees = Gathers (holds after) held; failed_before = faults began; failed_after = faults after }) status
    → Answers tells (behind (holds given) (holds ended) (faults given) (faults ended)) WriteFault
not_handed_on {T = T} holds faults tells given began after ended start held status never same none back e i =
    subst (λ (t : T). Answers tells (behind (holds given) (holds t) (faults given) (faults t)) WriteFault) (sym back)
    (let h = subst (λ (s : Status). Answers tells (gathered (holds given) (holds after) held (faults given) (faults after)) s) e
    (begun_as holds faults tells given began after start held status same none i) in
    record {
      status = h.status;
      text = h.text;
      told = h.told;
      written = written_back (holds given) (holds after) held h.text (faults given) (faults after) h.status
          (λ (f : h.status ≡ WriteFault). never h.text (subst (λ (s : Status). tells s h.text) f h.told)) h.written;
    })
