-- The history of a report's text is that history.
use Rattle.std.proofs.Common.{◌≡◌, ◌∙◌, ℕ, ◌+◌, false, List, [], ◌∷◌, ◌++◌, map, Some, None, Ok, refl, sym, ap, codes, append_assoc, inr}
use Rattle.std.specs.List.{AllByRecursion}
use Rattle.std.specs.Str.{bytes_eq}
use Rattle.std.proofs.lemmas.Bool.{false_from_ne_true}
use Rattle.std.proofs.lemmas.Grind.{flat_map-append}
use Rattle.k_types.specs.declared.event.Event.{Event}
use Rattle.k_types.specs.Trace.{Trace}
use Rattle.k_types.specs.State.{State}
use Rattle.k_words.specs.Words.{Text, lines_of, words_of, line_text, text_of}
use Rattle.k_words.proofs.Spelled.{same}
use Rattle.k_words.proofs.Proper.{line_then}
use Rattle.k_trace.specs.Named.{DeclaredNames}
use Rattle.k_text.specs.EventLines.{event_words, event_lines}
use Rattle.k_text.specs.Report.{graph_lines, roots_lines, exits_lines, shares_lines, faults_lines, charges_lines, object_line, report_lines, text_over}
use Rattle.k_types.specs.Owners.{owner_of}
use Rattle.k_reports.specs.Spelled.{AreProper, IsSpelledEvent}
use Rattle.k_reports.specs.Reading.{event_of}
use Rattle.k_reports.specs.Histories.{events_of_lines, events_behind, history_of}
use Rattle.k_reports.proofs.Visible.{event_no_feed, event_words_of}
use Rattle.k_reports.proofs.DoneLines.{one_sided}
use Rattle.k_reports.proofs.SpelledEvents.{event_words_read}
use Rattle.k_reports.specs.Begun.{event_line}

-- The events of lines that are events' is these events.
graph_is_none : (names : DeclaredNames) → None ≡ event_of names (codes "graph" ∷ [])
unfolding event_of
graph_is_none names = one_sided names (codes "graph" ∷ []) (inr refl)

-- An event's line is not the line `graph`.
pub not_graph : (names : DeclaredNames) (e : Event) → AreProper names → IsSpelledEvent names e → bytes_eq (event_line names e) (codes "graph") ≡ false
not_graph names e proper h = false_from_ne_true _ (λ is.
    let ws : event_words names e ≡ codes "graph" ∷ [] = sym (event_words_of names e proper h) ∙ ap words_of (same (event_line names e) (codes "graph") is) in
    absurd (let f : None ≡ Some e = graph_is_none names ∙ ap (event_of names) (sym ws) ∙ event_words_read names e proper h in cc))

-- An event's line is read as the event.
pub line_read : (names : DeclaredNames) (e : Event) → AreProper names → IsSpelledEvent names e → event_of names (words_of (event_line names e)) ≡ Some e
line_read names e proper h = ap (event_of names) (event_words_of names e proper h) ∙ event_words_read names e proper h

pub lines_read : (names : DeclaredNames) (history : List Event) (n : ℕ) (rest : List Text) → AreProper names → AllByRecursion (IsSpelledEvent names) history
    → events_of_lines names n (map (event_line names) history ++ codes "graph" ∷ rest) ≡ Ok history
unfolding events_of_lines
lines_read names [] n rest proper h = refl
lines_read names (e ∷ history) n rest proper h = rw (not_graph names e proper h.0, line_read names e proper h.0, lines_read names history (n + 1) rest proper h.1) refl

-- The lines of a text that begins with events.
pub text_lines : (names : DeclaredNames) (history : List Event) (rest : Text) → AreProper names → AllByRecursion (IsSpelledEvent names) history
    → lines_of (text_of (map (event_words names) history) ++ rest) ≡ map (event_line names) history ++ lines_of rest
text_lines names [] rest proper h = refl
text_lines names (e ∷ history) rest proper h =
    ap lines_of (append_assoc (line_text (event_words names e)) (text_of (map (event_words names) history)) rest ∙ append_assoc (event_line names e) (10 ∷ []) (text_of (map (event_words names) history) ++ rest))
    ∙ line_then (event_line names e) (text_of (map (event_words names) history) ++ rest) (event_no_feed names e proper h.0)
    ∙ ap (λ (ls : List Text). event_line names e ∷ ls) (text_lines names history rest proper h.1)

-- The lines behind the line `graph`.
abbrev pub lines_behind : DeclaredNames → Trace → List Event → State → List (List Text)
lines_behind names trace history st =
    map (object_line names (owner_of trace st)) st.objects
    ++ roots_lines names trace st
    ++ exits_lines names trace st
    ++ shares_lines names trace st
    ++ faults_lines names trace history
    ++ charges_lines names trace st
    ++ (codes "end" ∷ []) ∷ []

-- Their text.
abbrev pub behind_graph : DeclaredNames → Trace → List Event → State → Text
behind_graph names trace history st = text_of (lines_behind names trace history st)

later_parts : (a b c d e f g h : List (List Text)) → a ++ b ++ c ++ d ++ e ++ f ++ g ++ h ≡ a ++ (b ++ c ++ d ++ e ++ f ++ g ++ h)
later_parts a b c d e f g h = simp append_assoc refl

text_parts : (names : DeclaredNames) (trace : Trace) (history : List Event) (st : State)
    → text_over names trace history st ≡ line_text (codes "report" ∷ codes "1" ∷ []) ++ (text_of (map (event_words names) history) ++ text_of ((codes "graph" ∷ []) ∷ lines_behind names trace history st))
unfolding report_lines event_lines graph_lines
text_parts names trace history st =
    ap (λ (ls : List (List Text)). line_text (codes "report" ∷ codes "1" ∷ []) ++ text_of ls)
    (later_parts (map (event_words names) history) ((codes "graph" ∷ []) ∷ map (object_line names (owner_of trace st)) st.objects) (roots_lines names trace st) (exits_lines names trace st) (shares_lines names trace st)
    (faults_lines names trace history) (charges_lines names trace st) ((codes "end" ∷ []) ∷ []))
    ∙ ap (λ (t : Text). line_text (codes "report" ∷ codes "1" ∷ []) ++ t) (flat_map-append line_text (map (event_words names) history) ((codes "graph" ∷ []) ∷ lines_behind names trace history st))

-- The lines of a report's text: its first line, the events' and the line `graph` with those behind it.
pub report_lines_of : (names : DeclaredNames) (trace : Trace) (history : List Event) (st : State) → AreProper names → AllByRecursion (IsSpelledEvent names) history
    → lines_of (text_over names trace history st) ≡ codes "report 1" ∷ map (event_line names) history ++ codes "graph" ∷ lines_of (behind_graph names trace history st)
report_lines_of names trace history st proper h =
    ap lines_of (text_parts names trace history st)
    ∙ ap (λ (ls : List Text). codes "report 1" ∷ ls) (text_lines names history (codes "graph" ++ 10 ∷ behind_graph names trace history st) proper h)

-- The history of a report's text.
pub history_of_text : (names : DeclaredNames) (trace : Trace) (history : List Event) (st : State) → AreProper names → AllByRecursion (IsSpelledEvent names) history
    → history_of names (text_over names trace history st) ≡ Ok history
unfolding history_of
history_of_text names trace history st proper h =
    ap (events_behind names) (report_lines_of names trace history st proper h) ∙ lines_read names history 2 (lines_of (behind_graph names trace history st)) proper h
