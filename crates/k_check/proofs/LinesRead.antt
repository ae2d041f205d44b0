-- How far a report was read, line by line.
use Rattle.std.proofs.Common.{◌≡◌, ◌∙◌, ℕ, ◌+◌, ◌≤◌, true, false, List, [], ◌∷◌, ◌++◌, length, map, Some, None, refl, sym, ap, subst, codes, arith, length-append}
use Rattle.std.specs.Str.{bytes_eq}
use Rattle.std.proofs.lemmas.List.{length-map}
use Rattle.k_types.specs.declared.event.Event.{Event}
use Rattle.k_words.specs.Words.{Text, lines_of, words_of, word_at}
use Rattle.k_words.proofs.Spelled.{same}
use Rattle.k_trace.specs.Named.{NamedTrace}
use Rattle.k_trace.specs.Rules.{IsTrace}
use Rattle.k_reports.specs.Reading.{event_of}
use Rattle.k_history.specs.Good.{IsReadUpTo, IsRefusedAt}
use Rattle.k_reports.specs.Begun.{event_line, IsBegun}
use Rattle.k_history.specs.Good.IsRefusedAt.{OfFirst, OfEvent, OfEnd}
use Rattle.k_reports.proofs.Proper.{proper}
use Rattle.k_history.proofs.Verdicts.{other_text, no_event, not_begun, read_more}
use Rattle.k_check.specs.Stops.{IsAtGraph}
use Rattle.k_check.specs.Walks.{Walked}

-- The walk has come to the lines that are left, the next of which has this number.
pub record IsReading (t : NamedTrace) (report : Text) (w : Walked) (rest : Text) (number : ℕ) : Type 0 where
  pub trace : w.trace ≡ t
  pub read : IsReadUpTo t report w.history (lines_of rest)
  pub number_is : number ≡ length w.history + 2
  pub few : number + length rest ≤ length report + 1

-- The first line is no other.
pub wrong_first : (t : NamedTrace) (report line : Text) (left : List Text) → lines_of report ≡ line ∷ left → bytes_eq line (codes "report 1") ≡ false → IsRefusedAt t report 1
wrong_first t report line left is other =
    OfFirst (record { line = λ f. other_text line (codes "report 1") other (sym (ap (λ (ls : List Text). word_at ls 0) is) ∙ f); number = refl })

pub no_first : (t : NamedTrace) (report : Text) → lines_of report ≡ [] → IsRefusedAt t report 1
no_first t report is =
    OfFirst (record { line = λ f. absurd (let g : word_at (let none : List Text = [] in none) 0 ≡ codes "report 1" = sym (ap (λ (ls : List Text). word_at ls 0) is) ∙ f in cc); number = refl })

pub begins : (t : NamedTrace) (report line rest : Text) (w : Walked) → w.trace ≡ t → w.history ≡ [] → lines_of report ≡ line ∷ lines_of rest → bytes_eq line (codes "report 1") ≡ true
    → 2 + length rest ≤ length report + 1 → IsReading t report w rest 2
begins t report line rest w trace none is e few = record {
  trace = trace;
  read = subst (λ (history : List Event). IsReadUpTo t report history (lines_of rest)) (sym none)
      (record { lines = is ∙ ap (λ (l : Text). l ∷ lines_of rest) (same line (codes "report 1") e); spelled = tt; begun = record { legal = tt; in_order = λ p below. (_, refl) } });
  number_is = rw none refl;
  few = few;
}

pub graph_line : (t : NamedTrace) (report : Text) (w : Walked) (line rest after : Text) (n : ℕ) → IsReading t report w rest n → lines_of rest ≡ line ∷ lines_of after → bytes_eq line (codes "graph") ≡ true
    → IsAtGraph t report w.history n
graph_line t report w line rest after n r is e = record {
  behind = lines_of after;
  read = subst (λ (ls : List Text). IsReadUpTo t report w.history ls) (is ∙ ap (λ (l : Text). l ∷ lines_of after) (same line (codes "graph") e)) r.read;
  number = r.number_is;
}

here : (t : NamedTrace) (report : Text) (w : Walked) (line rest after : Text) (n : ℕ) → IsReading t report w rest n → lines_of rest ≡ line ∷ lines_of after → IsReadUpTo t report w.history (line ∷ lines_of after)
here t report w line rest after n r is = subst (λ (ls : List Text). IsReadUpTo t report w.history ls) is r.read

pub no_event_line : (t : NamedTrace) (report : Text) (w : Walked) (line rest after : Text) (n : ℕ) → IsTrace t → IsReading t report w rest n → lines_of rest ≡ line ∷ lines_of after
    → bytes_eq line (codes "graph") ≡ false → event_of t.names (words_of line) ≡ None → IsRefusedAt t report n
no_event_line t report w line rest after n is_trace r is other none = OfEvent (record {
  history = w.history;
  line = line;
  behind = lines_of after;
  read = here t report w line rest after n r is;
  not_graph = other_text line (codes "graph") other;
  none = no_event t w.history line (proper t is_trace) none;
  number = r.number_is;
})

pub wrong_event_line : (t : NamedTrace) (report : Text) (w : Walked) (line rest after : Text) (n : ℕ) (e : Event) → IsTrace t → IsReading t report w rest n → lines_of rest ≡ line ∷ lines_of after
    → bytes_eq line (codes "graph") ≡ false → event_of t.names (words_of line) ≡ Some e → ¬ IsBegun t.trace (w.history ++ e ∷ []) → IsRefusedAt t report n
wrong_event_line t report w line rest after n e is_trace r is other read not = OfEvent (record {
  history = w.history;
  line = line;
  behind = lines_of after;
  read = here t report w line rest after n r is;
  not_graph = other_text line (codes "graph") other;
  none = not_begun t w.history line e (proper t is_trace) read not;
  number = r.number_is;
})

pub one_more : (t : NamedTrace) (report : Text) (w v : Walked) (line rest after : Text) (n : ℕ) (e : Event) → IsReading t report w rest n → lines_of rest ≡ line ∷ lines_of after
    → event_of t.names (words_of line) ≡ Some e → IsBegun t.trace (w.history ++ e ∷ []) → v.trace ≡ w.trace → v.history ≡ w.history ++ e ∷ [] → n + 1 + length after ≤ length report + 1 → IsReading t report v after (n + 1)
one_more t report w v line rest after n e r is read begun trace history few = record {
  trace = trace ∙ r.trace;
  read = subst (λ (h : List Event). IsReadUpTo t report h (lines_of after)) (sym history) (read_more t report w.history line (lines_of after) e (here t report w line rest after n r is) read begun);
  number_is = let more : length v.history ≡ length w.history + 1 = ap length history ∙ length-append w.history (e ∷ []) in omega (arith, more, r.number_is);
  few = few;
}

pub without_graph : (t : NamedTrace) (report : Text) (w : Walked) (rest : Text) (n : ℕ) → IsReading t report w rest n → lines_of rest ≡ [] → IsRefusedAt t report n
without_graph t report w rest n r none =
    let read = subst (λ (ls : List Text). IsReadUpTo t report w.history ls) none r.read in
    let long : length (lines_of report) ≡ length w.history + 1 =
    ap length read.lines ∙ (let all = length-append (map (event_line t.names) w.history) (let nothing : List Text = [] in nothing) in let same = length-map w.history (event_line t.names) in omega (arith, all, same)) in
    OfEnd (record { history = w.history; read = read; number = omega (arith, r.number_is, long) })
