-- A report is good, or refused at one line, and not both.
use Rattle.std.proofs.Common.{◌≡◌, ◌≢◌, ◌∙◌, ℕ, ◌+◌, List, [], ◌∷◌, length, Some, None, refl, sym, ap, subst, codes}
use Rattle.std.specs.List.{AllByRecursion}
use Rattle.k_types.specs.declared.event.Event.{Event}
use Rattle.k_types.specs.Steps.{state_after}
use Rattle.k_types.specs.Complete.{IsComplete}
use Rattle.k_words.specs.Words.{Text, lines_of, word_at}
use Rattle.k_trace.specs.Named.{NamedTrace}
use Rattle.k_trace.specs.Rules.{IsTrace}
use Rattle.k_text.specs.Report.{report_text}
use Rattle.k_reports.specs.Spelled.{AreProper, IsSpelledEvent}
use Rattle.k_reports.proofs.Proper.{proper}
use Rattle.k_history.specs.Difference.{difference}
use Rattle.k_history.specs.Good.{IsGoodReport, IsReadUpTo, IsWrongFirst, IsRefusedAt}
use Rattle.k_reports.specs.Begun.{IsBegun, AreAllSpelled}
use Rattle.k_history.specs.Good.IsRefusedAt.{OfFirst, OfEvent, OfEnd, OfGraph, OfReport}
use Rattle.k_reports.proofs.Options.{some_is}
use Rattle.k_history.proofs.Differences.{no_difference}
use Rattle.k_reports.proofs.ReportLines.{report_lines_of, behind_graph}
use Rattle.k_history.proofs.Begun.{first_line, IsStop, stop_at_end, stop_at_graph, stop_at_other, same_reading}

-- Why the number is answered where the events are read so far and those lines are left.
data Answer (t : NamedTrace) (report : Text) (history : List Event) (left : List Text) (n : ℕ) : Type 0 where
  AtEvent : (line : Text) (behind : List Text) → left ≡ line ∷ behind → line ≢ codes "graph" → n ≡ length history + 2 → Answer t report history left n
  AtEnd : left ≡ [] → n ≡ length (lines_of report) + 1 → Answer t report history left n
  AtGraph : (behind : List Text) → left ≡ codes "graph" ∷ behind → ¬ IsComplete t.trace history → n ≡ length history + 2 → Answer t report history left n
  AtReport : (behind : List Text) → left ≡ codes "graph" ∷ behind → IsComplete t.trace history → difference (report_text t.names t.trace history) report ≡ Some n → Answer t report history left n

-- The report is read up to there, and the number is answered.
record Refusal (t : NamedTrace) (report : Text) (n : ℕ) : Type 0 where
  history : List Event
  left : List Text
  read : IsReadUpTo t report history left
  stop : IsStop t history left
  answer : Answer t report history left n

not_graph_there : (line : Text) (left xs ys : List Text) → left ≡ line ∷ xs → line ≢ codes "graph" → left ≡ codes "graph" ∷ ys → ⊥
not_graph_there line left xs ys e other f = other (first_line line (codes "graph") xs ys (sym e ∙ f))

one_answer : (t : NamedTrace) (report : Text) (history : List Event) (left : List Text) (n m : ℕ) → Answer t report history left n → Answer t report history left m → n ≡ m
one_answer t report history left n m (AtEvent line behind e other is) (AtEvent line' behind' e' other' is') = is ∙ sym is'
one_answer t report history left n m (AtEvent line behind e other is) (AtEnd e' is') = absurd (let f : line ∷ behind ≡ [] = sym e ∙ e' in cc)
one_answer t report history left n m (AtEvent line behind e other is) (AtGraph behind' e' not is') = is ∙ sym is'
one_answer t report history left n m (AtEvent line behind e other is) (AtReport behind' e' complete is') = absurd (not_graph_there line left behind behind' e other e')
one_answer t report history left n m (AtEnd e is) (AtEvent line behind e' other is') = absurd (let f : line ∷ behind ≡ [] = sym e' ∙ e in cc)
one_answer t report history left n m (AtEnd e is) (AtEnd e' is') = is ∙ sym is'
one_answer t report history left n m (AtEnd e is) (AtGraph behind' e' not is') = absurd (let f : codes "graph" ∷ behind' ≡ [] = sym e' ∙ e in cc)
one_answer t report history left n m (AtEnd e is) (AtReport behind' e' complete is') = absurd (let f : codes "graph" ∷ behind' ≡ [] = sym e' ∙ e in cc)
one_answer t report history left n m (AtGraph behind e not is) (AtEvent line behind' e' other is') = is ∙ sym is'
one_answer t report history left n m (AtGraph behind e not is) (AtEnd e' is') = absurd (let f : codes "graph" ∷ behind ≡ [] = sym e ∙ e' in cc)
one_answer t report history left n m (AtGraph behind e not is) (AtGraph behind' e' not' is') = is ∙ sym is'
one_answer t report history left n m (AtGraph behind e not is) (AtReport behind' e' complete is') = absurd (not complete)
one_answer t report history left n m (AtReport behind e complete is) (AtEvent line behind' e' other is') = absurd (not_graph_there line left behind' behind e' other e)
one_answer t report history left n m (AtReport behind e complete is) (AtEnd e' is') = absurd (let f : codes "graph" ∷ behind ≡ [] = sym e ∙ e' in cc)
one_answer t report history left n m (AtReport behind e complete is) (AtGraph behind' e' not is') = absurd (not complete)
one_answer t report history left n m (AtReport behind e complete is) (AtReport behind' e' complete' is') = some_is n m (sym is ∙ is')

one_refusal : (t : NamedTrace) (report : Text) (n m : ℕ) → AreProper t.names → Refusal t report n → Refusal t report m → n ≡ m
one_refusal t report n m names a b =
    let same = same_reading t report a.history b.history a.left b.left names a.read b.read a.stop b.stop in
    one_answer t report a.history a.left n m a.answer (subst (λ (ls : List Text). Answer t report a.history ls m) (sym same.1) (subst (λ (xs : List Event). Answer t report xs b.left m) (sym same.0) b.answer))

-- The rule that applies: the first line, or one of the others.
data Rule (t : NamedTrace) (report : Text) (n : ℕ) : Type 0 where
  First : IsWrongFirst report n → Rule t report n
  Later : Refusal t report n → Rule t report n

rule_of : (t : NamedTrace) (report : Text) (n : ℕ) → AreProper t.names → IsRefusedAt t report n → Rule t report n
rule_of t report n names (OfFirst w) = First w
rule_of t report n names (OfEvent w) = Later (record {
  history = w.history;
  left = w.line ∷ w.behind;
  read = w.read;
  stop = stop_at_other t w.history w.line w.behind w.none;
  answer = AtEvent w.line w.behind refl w.not_graph w.number;
})
rule_of t report n names (OfEnd w) = Later (record { history = w.history; left = []; read = w.read; stop = stop_at_end t w.history; answer = AtEnd refl w.number })
rule_of t report n names (OfGraph w) = Later (record {
  history = w.history;
  left = codes "graph" ∷ w.behind;
  read = w.read;
  stop = stop_at_graph t w.history w.behind names;
  answer = AtGraph w.behind refl w.not_complete w.number;
})
rule_of t report n names (OfReport w) = Later (record {
  history = w.history;
  left = codes "graph" ∷ w.behind;
  read = w.read;
  stop = stop_at_graph t w.history w.behind names;
  answer = AtReport w.behind refl w.complete w.differs;
})

not_both : (t : NamedTrace) (report : Text) (n m : ℕ) → IsWrongFirst report n → Refusal t report m → ⊥
not_both t report n m w r = w.line (ap (λ (ls : List Text). word_at ls 0) r.read.lines)

one_rule : (t : NamedTrace) (report : Text) (n m : ℕ) → AreProper t.names → Rule t report n → Rule t report m → n ≡ m
one_rule t report n m names (First v) (First w) = v.number ∙ sym w.number
one_rule t report n m names (First v) (Later r) = absurd (not_both t report n m v r)
one_rule t report n m names (Later q) (First w) = absurd (not_both t report m n w q)
one_rule t report n m names (Later q) (Later r) = one_refusal t report n m names q r

-- A report is refused at one line.
pub one_line : (t : NamedTrace) (report : Text) (n m : ℕ) → IsTrace t → IsRefusedAt t report n → IsRefusedAt t report m → n ≡ m
one_line t report n m is a b = one_rule t report n m (proper t is) (rule_of t report n (proper t is) a) (rule_of t report m (proper t is) b)

-- ---- good reports

pub good_begun : (t : NamedTrace) (report : Text) (g : IsGoodReport t report) → IsBegun t.trace g.history
good_begun t report g = record { legal = g.legal; in_order = g.complete.in_order }

good_read : (t : NamedTrace) (report : Text) (g : IsGoodReport t report) → AreProper t.names → AllByRecursion (IsSpelledEvent t.names) g.history
    → IsReadUpTo t report g.history (codes "graph" ∷ lines_of (behind_graph t.names t.trace g.history (state_after t.trace g.history)))
good_read t report g names spelled = record {
  lines = ap lines_of g.text ∙ report_lines_of t.names t.trace g.history (state_after t.trace g.history) names spelled;
  spelled = spelled;
  begun = good_begun t report g;
}

good_answer : (t : NamedTrace) (report : Text) (n : ℕ) (g : IsGoodReport t report) (behind : List Text) → Answer t report g.history (codes "graph" ∷ behind) n → ⊥
good_answer t report n g behind (AtEvent line others e other is) = not_graph_there line (codes "graph" ∷ behind) others behind e other refl
good_answer t report n g behind (AtEnd e is) = absurd cc
good_answer t report n g behind (AtGraph others e not is) = not g.complete
good_answer t report n g behind (AtReport others e complete is) =
    absurd (let f : None ≡ Some n = sym (no_difference 1 report) ∙ ap (λ (text : Text). difference text report) g.text ∙ is in cc)

good_rule : (t : NamedTrace) (report : Text) (n : ℕ) (g : IsGoodReport t report) → AreProper t.names → AllByRecursion (IsSpelledEvent t.names) g.history → Rule t report n → ⊥
good_rule t report n g names spelled (First w) = w.line (ap (λ (ls : List Text). word_at ls 0) (good_read t report g names spelled).lines)
good_rule t report n g names spelled (Later r) =
    let behind : List Text = lines_of (behind_graph t.names t.trace g.history (state_after t.trace g.history)) in
    let same = same_reading t report g.history r.history (codes "graph" ∷ behind) r.left names (good_read t report g names spelled) r.read (stop_at_graph t g.history behind names) r.stop in
    good_answer t report n g behind (subst (λ (ls : List Text). Answer t report g.history ls n) (sym same.1) (subst (λ (xs : List Event). Answer t report xs r.left n) (sym same.0) r.answer))

-- A good report is not refused.
pub good_is_not_refused : (t : NamedTrace) (report : Text) (n : ℕ) → IsTrace t → AreAllSpelled t → IsGoodReport t report → ¬ IsRefusedAt t report n
good_is_not_refused t report n is spelled g w = good_rule t report n g (proper t is) (spelled g.history (good_begun t report g)) (rule_of t report n (proper t is) w)
