-- Histories that are begun, and where their reading ends.
use Rattle.std.proofs.Common.{◌≡◌, ◌∙◌, true, false, List, [], ◌∷◌, ◌++◌, map, refl, sym, ap, subst, codes, append_assoc}
use Rattle.std.specs.List.{AllByRecursion}
use Rattle.std.proofs.lemmas.Slice.Eq.{bytes_eq-Decides}
use Rattle.std.proofs.lemmas.List.{append-nil}
use Rattle.k_types.specs.declared.event.Event.{Event}
use Rattle.k_words.specs.Words.{Text, words_of}
use Rattle.k_trace.specs.Named.{DeclaredNames, NamedTrace}
use Rattle.k_reports.specs.Spelled.{AreProper, IsSpelledEvent}
use Rattle.k_reports.specs.Reading.{event_of}
use Rattle.k_history.specs.Good.{IsReadUpTo, IsNoNextEvent}
use Rattle.k_reports.specs.Begun.{event_line, IsBegun}
use Rattle.k_reports.proofs.Begun.{begun_front}
use Rattle.k_reports.proofs.Options.{some_is}
use Rattle.k_reports.proofs.ReportLines.{not_graph, line_read}

-- What is left of the lines begins with no event that can come next.
abbrev pub IsStop : NamedTrace → List Event → List Text → Type 0
IsStop t history left = (e : Event) (rest : List Text) → left ≡ event_line t.names e ∷ rest → IsSpelledEvent t.names e → ¬ IsBegun t.trace (history ++ e ∷ [])

pub first_line : (a b : Text) (xs ys : List Text) → a ∷ xs ≡ b ∷ ys → a ≡ b
first_line a b xs ys e = cc

other_lines : (a b : Text) (xs ys : List Text) → a ∷ xs ≡ b ∷ ys → xs ≡ ys
other_lines a b xs ys e = cc

pub stop_at_end : (t : NamedTrace) (history : List Event) → IsStop t history []
stop_at_end t history e rest is spelled begun = absurd cc

pub stop_at_graph : (t : NamedTrace) (history : List Event) (behind : List Text) → AreProper t.names → IsStop t history (codes "graph" ∷ behind)
stop_at_graph t history behind proper e rest is spelled begun =
    let same : event_line t.names e ≡ codes "graph" = sym (first_line (codes "graph") (event_line t.names e) behind rest is) in
    absurd (let f : true ≡ false = sym ((bytes_eq-Decides (event_line t.names e) (codes "graph")).1 same) ∙ not_graph t.names e proper spelled in cc)

pub stop_at_other : (t : NamedTrace) (history : List Event) (line : Text) (behind : List Text) → IsNoNextEvent t history line → IsStop t history (line ∷ behind)
stop_at_other t history line behind none e rest is spelled begun = none e spelled (sym (first_line line (event_line t.names e) behind rest is)) begun

-- Events with one line are one.
one_event : (names : DeclaredNames) (e f : Event) → AreProper names → IsSpelledEvent names e → IsSpelledEvent names f → event_line names e ≡ event_line names f → e ≡ f
one_event names e f proper h k same = some_is e f (sym (line_read names e proper h) ∙ ap (λ (line : Text). event_of names (words_of line)) same ∙ line_read names f proper k)

-- The lines tell the events and what is left.
abbrev pub SameReading : List Event → List Event → List Text → List Text → Type 0
SameReading xs ys ls ms = (xs ≡ ys) × (ls ≡ ms)

stops_here : (t : NamedTrace) (done : List Event) (y : Event) (ys : List Event) (ls ms : List Text) → ls ≡ map (event_line t.names) (y ∷ ys) ++ ms → IsSpelledEvent t.names y → IsBegun t.trace (done ++ y ∷ ys)
    → IsStop t (done ++ []) ls → ⊥
stops_here t done y ys ls ms is spelled begun stop =
    let front : IsBegun t.trace (done ++ y ∷ []) = begun_front t.trace (done ++ y ∷ []) ys (subst (IsBegun t.trace) (sym (append_assoc done (y ∷ []) ys)) begun) in
    stop y (map (event_line t.names) ys ++ ms) is spelled (subst (λ (zs : List Event). IsBegun t.trace (zs ++ y ∷ [])) (sym (append-nil done)) front)

same_from : (t : NamedTrace) (done xs ys : List Event) (ls ms : List Text) → AreProper t.names → map (event_line t.names) xs ++ ls ≡ map (event_line t.names) ys ++ ms
    → AllByRecursion (IsSpelledEvent t.names) xs → AllByRecursion (IsSpelledEvent t.names) ys → IsBegun t.trace (done ++ xs) → IsBegun t.trace (done ++ ys)
    → IsStop t (done ++ xs) ls → IsStop t (done ++ ys) ms → SameReading xs ys ls ms
same_from t done [] [] ls ms proper e hx hy bx by sx sy = (refl, e)
same_from t done [] (y ∷ ys) ls ms proper e hx hy bx by sx sy = absurd (stops_here t done y ys ls ms e hy.0 by sx)
same_from t done (x ∷ xs) [] ls ms proper e hx hy bx by sx sy = absurd (stops_here t done x xs ms ls (sym e) hx.0 bx sy)
same_from t done (x ∷ xs) (y ∷ ys) ls ms proper e hx hy bx by sx sy =
    let one : x ≡ y = one_event t.names x y proper hx.0 hy.0 (first_line _ _ _ _ e) in
    let first : done ++ x ∷ xs ≡ (done ++ x ∷ []) ++ xs = sym (append_assoc done (x ∷ []) xs) in
    let second : done ++ y ∷ ys ≡ (done ++ x ∷ []) ++ ys = ap (λ (z : Event). done ++ z ∷ ys) (sym one) ∙ sym (append_assoc done (x ∷ []) ys) in
    let r = same_from t (done ++ x ∷ []) xs ys ls ms proper (other_lines _ _ _ _ e) hx.1 hy.1 (subst (IsBegun t.trace) first bx) (subst (IsBegun t.trace) second by)
    (subst (λ (zs : List Event). IsStop t zs ls) first sx) (subst (λ (zs : List Event). IsStop t zs ms) second sy) in
    (rw (one, r.0) refl, r.1)

-- A report is read in one way.
pub same_reading : (t : NamedTrace) (report : Text) (xs ys : List Event) (ls ms : List Text) → AreProper t.names → IsReadUpTo t report xs ls → IsReadUpTo t report ys ms → IsStop t xs ls → IsStop t ys ms → SameReading xs ys ls ms
same_reading t report xs ys ls ms proper rx ry sx sy =
    same_from t [] xs ys ls ms proper (other_lines _ _ _ _ (sym rx.lines ∙ ry.lines)) rx.spelled ry.spelled rx.begun ry.begun sx sy
