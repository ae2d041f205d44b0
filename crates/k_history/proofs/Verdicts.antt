-- A report is good, or refused at a line.
use Rattle.std.proofs.Common.{◌≡◌, ◌≢◌, ◌∙◌, ◌⊎◌, ℕ, ◌+◌, Bool, true, false, List, [], ◌∷◌, ◌++◌, length, map, Option, Some, None, refl, sym, ap, subst, codes, inl, inr, append_assoc}
use Rattle.std.specs.List.{AllByRecursion, join_with_byte}
use Rattle.std.specs.Str.{bytes_eq}
use Rattle.std.proofs.lemmas.Slice.Eq.{bytes_eq-Decides}
use Rattle.std.proofs.lemmas.List.{map-append}
use Rattle.std.proofs.lemmas.List.Splits.{join_with_byte-slice_split}
use Rattle.k_types.specs.declared.event.Event.{Event}
use Rattle.k_types.specs.Complete.{IsComplete}
use Rattle.k_words.specs.Words.{Text, lines_of, words_of, word_at}
use Rattle.k_words.proofs.Spelled.{same}
use Rattle.k_trace.specs.Named.{NamedTrace}
use Rattle.k_text.specs.Report.{report_text}
use Rattle.k_reports.specs.Spelled.{AreProper, IsSpelledEvent}
use Rattle.k_reports.specs.Reading.{event_of}
use Rattle.k_history.specs.Difference.{difference}
use Rattle.k_history.specs.Good.{IsGoodReport, IsReadUpTo, IsNoNextEvent, IsRefusedAt}
use Rattle.k_reports.specs.Begun.{event_line, IsBegun}
use Rattle.k_history.specs.Good.IsRefusedAt.{OfFirst, OfEvent, OfEnd, OfGraph, OfReport}
use Rattle.k_reports.proofs.Options.{some_is}
use Rattle.k_history.proofs.Differences.{same_text}
use Rattle.k_reports.proofs.SpelledEvents.{read_event_words}
use Rattle.k_reports.proofs.ReportLines.{line_read}
use Rattle.k_history.proofs.Possible.{decide_begun}
use Rattle.k_history.proofs.Completed.{decide_complete}

-- What is found of a report.
abbrev pub Verdict : NamedTrace → Text → Type 0
Verdict t report = IsGoodReport t report ⊎ ((n : ℕ) × IsRefusedAt t report n)

pub other_text : (a b : Text) → bytes_eq a b ≡ false → a ≢ b
other_text a b e is = absurd (let f : true ≡ false = sym ((bytes_eq-Decides a b).1 is) ∙ e in cc)

-- At the line `graph`.
pub compared : (t : NamedTrace) (report : Text) (history : List Event) (behind : List Text) (d : Option ℕ) → IsReadUpTo t report history (codes "graph" ∷ behind) → IsComplete t.trace history
    → difference (report_text t.names t.trace history) report ≡ d → Verdict t report
compared t report history behind None read complete e =
    inl (record { history = history; legal = read.begun.legal; complete = complete; text = sym (same_text 1 (report_text t.names t.trace history) report e) })
compared t report history behind (Some n) read complete e = inr (n, OfReport (record { history = history; behind = behind; read = read; complete = complete; differs = e }))

at_graph : (t : NamedTrace) (report : Text) (history : List Event) (behind : List Text) → IsReadUpTo t report history (codes "graph" ∷ behind) → Verdict t report
at_graph t report history behind read = elim (decide_complete t.trace history read.begun) [
  | inl complete ↦ compared t report history behind (difference (report_text t.names t.trace history) report) read complete refl
  | inr not ↦ inr (length history + 2, OfGraph (record { history = history; behind = behind; read = read; not_complete = not; number = refl }))
]

-- At another line.
pub wrong_event : (t : NamedTrace) (report : Text) (history : List Event) (line : Text) (behind : List Text) → IsReadUpTo t report history (line ∷ behind) → bytes_eq line (codes "graph") ≡ false → IsNoNextEvent t history line → Verdict t report
wrong_event t report history line behind read other none =
    inr (length history + 2, OfEvent (record { history = history; line = line; behind = behind; read = read; not_graph = other_text line (codes "graph") other; none = none; number = refl }))

pub no_event : (t : NamedTrace) (history : List Event) (line : Text) → AreProper t.names → event_of t.names (words_of line) ≡ None → IsNoNextEvent t history line
no_event t history line proper none e spelled is begun =
    absurd (let f : Some e ≡ None = sym (line_read t.names e proper spelled) ∙ ap (λ (l : Text). event_of t.names (words_of l)) is ∙ none in cc)

pub not_begun : (t : NamedTrace) (history : List Event) (line : Text) (e : Event) → AreProper t.names → event_of t.names (words_of line) ≡ Some e → ¬ IsBegun t.trace (history ++ e ∷ []) → IsNoNextEvent t history line
not_begun t history line e proper read not f spelled is begun =
    not (subst (λ (g : Event). IsBegun t.trace (history ++ g ∷ [])) (some_is f e (sym (line_read t.names f proper spelled) ∙ ap (λ (l : Text). event_of t.names (words_of l)) is ∙ read)) begun)

pub line_of_event : (t : NamedTrace) (line : Text) (e : Event) → event_of t.names (words_of line) ≡ Some e → event_line t.names e ≡ line
line_of_event t line e read = ap (join_with_byte 32) (read_event_words t.names (words_of line) e read).1 ∙ join_with_byte-slice_split 32 line

all_more : (P : Event → Type 0) (xs : List Event) (x : Event) → AllByRecursion P xs → P x → AllByRecursion P (xs ++ x ∷ [])
all_more P [] x h p = (p, tt)
all_more P (y ∷ xs) x h p = (h.0, all_more P xs x h.1 p)

pub read_more : (t : NamedTrace) (report : Text) (history : List Event) (line : Text) (behind : List Text) (e : Event) → IsReadUpTo t report history (line ∷ behind) → event_of t.names (words_of line) ≡ Some e
    → IsBegun t.trace (history ++ e ∷ []) → IsReadUpTo t report (history ++ e ∷ []) behind
read_more t report history line behind e read is begun = record {
  lines = read.lines
      ∙ ap (λ (l : Text). codes "report 1" ∷ (map (event_line t.names) history ++ l ∷ behind)) (sym (line_of_event t line e is))
      ∙ ap (λ (ls : List Text). codes "report 1" ∷ ls) (sym (append_assoc (map (event_line t.names) history) (event_line t.names e ∷ []) behind) ∙ ap (λ (ls : List Text). ls ++ behind) (sym (map-append (event_line t.names) history (e ∷ []))));
  spelled = all_more (IsSpelledEvent t.names) history e read.spelled (read_event_words t.names (words_of line) e is).0;
  begun = begun;
}

-- One line after the other.
abbrev Next : NamedTrace → Text → List Text → Type 0
Next t report behind = (history : List Event) → IsReadUpTo t report history behind → Verdict t report

read_event : (t : NamedTrace) (report : Text) (history : List Event) (line : Text) (behind : List Text) (r : Option Event) → AreProper t.names → bytes_eq line (codes "graph") ≡ false → event_of t.names (words_of line) ≡ r
    → Next t report behind → IsReadUpTo t report history (line ∷ behind) → Verdict t report
read_event t report history line behind None proper other is next read = wrong_event t report history line behind read other (no_event t history line proper is)
read_event t report history line behind (Some e) proper other is next read = elim (decide_begun t.trace history e read.begun) [
  | inl begun ↦ next (history ++ e ∷ []) (read_more t report history line behind e read is begun)
  | inr not ↦ wrong_event t report history line behind read other (not_begun t history line e proper is not)
]

read_line : (t : NamedTrace) (report : Text) (history : List Event) (line : Text) (behind : List Text) (b : Bool) → AreProper t.names → bytes_eq line (codes "graph") ≡ b → Next t report behind → IsReadUpTo t report history (line ∷ behind) → Verdict t report
read_line t report history line behind true proper e next read = at_graph t report history behind (subst (λ (l : Text). IsReadUpTo t report history (l ∷ behind)) (same line (codes "graph") e) read)
read_line t report history line behind false proper e next read = read_event t report history line behind (event_of t.names (words_of line)) proper e refl next read

read_lines : (t : NamedTrace) (report : Text) (left : List Text) (history : List Event) → AreProper t.names → IsReadUpTo t report history left → Verdict t report
read_lines t report [] history proper read = inr (length (lines_of report) + 1, OfEnd (record { history = history; read = read; number = refl }))
read_lines t report (line ∷ behind) history proper read = read_line t report history line behind (bytes_eq line (codes "graph")) proper refl (λ more. read_lines t report behind more proper) read

first_line : (t : NamedTrace) (report : Text) (line : Text) (left : List Text) (b : Bool) → AreProper t.names → lines_of report ≡ line ∷ left → bytes_eq line (codes "report 1") ≡ b → Verdict t report
first_line t report line left true proper e is =
    read_lines t report left [] proper (record { lines = e ∙ ap (λ (l : Text). l ∷ left) (same line (codes "report 1") is); spelled = tt; begun = record { legal = tt; in_order = λ p below. (_, refl) } })
first_line t report line left false proper e is =
    inr (1, OfFirst (record { line = λ f. other_text line (codes "report 1") is (sym (ap (λ (ls : List Text). word_at ls 0) e) ∙ f); number = refl }))

of_lines : (t : NamedTrace) (report : Text) (lines : List Text) → AreProper t.names → lines_of report ≡ lines → Verdict t report
of_lines t report [] proper e = inr (1, OfFirst (record { line = λ f. absurd (let g : word_at (let none : List Text = [] in none) 0 ≡ codes "report 1" = sym (ap (λ (ls : List Text). word_at ls 0) e) ∙ f in cc); number = refl }))
of_lines t report (line ∷ left) proper e = first_line t report line left (bytes_eq line (codes "report 1")) proper e refl

-- A report is good, or refused at a line.
pub verdict : (t : NamedTrace) (report : Text) → AreProper t.names → IsGoodReport t report ⊎ ((n : ℕ) × IsRefusedAt t report n)
verdict t report proper = of_lines t report (lines_of report) proper refl
