-- The events of lines, one line after the other.
use Rattle.std.proofs.Common.{◌≡◌, ℕ, ◌+◌, true, false, List, [], ◌∷◌, ◌++◌, length, Some, None, Result, Ok, Err, refl, sym, ap, codes, append_assoc}
use Rattle.std.proofs.lemmas.List.{append-nil}
use Rattle.std.specs.Str.{bytes_eq}
use Rattle.k_types.specs.declared.event.Event.{Event}
use Rattle.k_words.specs.Words.{Text, lines_of, words_of}
use Rattle.k_trace.specs.Named.{DeclaredNames}
use Rattle.k_reports.specs.Reading.{event_of}
use Rattle.k_reports.specs.Histories.{onto, events_of_lines}

-- The events before those that follow them.
abbrev pub onto_all : List Event → Result (List Event) ℕ → Result (List Event) ℕ
onto_all before (Ok events) = Ok (before ++ events)
onto_all before (Err line) = Err line

onto_one : (before : List Event) (event : Event) (r : Result (List Event) ℕ) → onto_all before (onto event r) ≡ onto_all (before ++ event ∷ []) r
onto_one before event (Ok events) = ap Ok (sym (append_assoc before (event ∷ []) events))
onto_one before event (Err line) = refl

-- A line that is an event's.
pub one_more : (names : DeclaredNames) (line : ℕ) (lines rest : List Text) (l : Text) (before : List Event) (event : Event)
    → lines ≡ l ∷ rest → bytes_eq l (codes "graph") ≡ false → Some event ≡ event_of names (words_of l)
    → onto_all before (events_of_lines names line lines) ≡ onto_all (before ++ event ∷ []) (events_of_lines names (line + 1) rest)
unfolding events_of_lines
one_more names line lines rest l before event e fails is = rw (e, fails, ← is) (onto_one before event (events_of_lines names (line + 1) rest))

-- A line that is none.
pub bad_line : (names : DeclaredNames) (line : ℕ) (lines rest : List Text) (l : Text) (before : List Event)
    → lines ≡ l ∷ rest → bytes_eq l (codes "graph") ≡ false → None ≡ event_of names (words_of l)
    → onto_all before (events_of_lines names line lines) ≡ Err line
unfolding events_of_lines
bad_line names line lines rest l before e fails is = rw (e, fails, ← is) refl

-- The line `graph`.
pub graph_line : (names : DeclaredNames) (line : ℕ) (lines rest : List Text) (l : Text) (before : List Event)
    → lines ≡ l ∷ rest → bytes_eq l (codes "graph") ≡ true → onto_all before (events_of_lines names line lines) ≡ Ok before
unfolding events_of_lines
graph_line names line lines rest l before e passes = rw (e, passes) (ap Ok (append-nil before))

-- No line is left.
pub no_line : (names : DeclaredNames) (line : ℕ) (bytes : Text) (before : List Event) → length bytes ≡ 0 → onto_all before (events_of_lines names line (lines_of bytes)) ≡ Err line
unfolding events_of_lines
no_line names line [] before e = refl
no_line names line (b ∷ bytes) before e = absurd cc
