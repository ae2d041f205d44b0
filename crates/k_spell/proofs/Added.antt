-- Lines that are added to a text, one after the other.
use Rattle.std.proofs.Common.{◌≡◌, ◌∙◌, ℕ, ◌+◌, ◌<◌, List, [], ◌∷◌, ◌++◌, length, drop, map, get_or, refl, sym, ap, arith, append_assoc, add-one, codes, decimal, Result, Ok, Err, Some, slice_get}
use Rattle.std.specs.Prelude.{IfSome, OnOk}
use Rattle.std.specs.List.{join_with_byte}
use Rattle.std.proofs.Math.Seq.{drop-cons}
use Rattle.std.proofs.lemmas.List.{append-nil, get_or_default}
use Rattle.std.proofs.lemmas.Option.{slice_get_within, get_or_from_slice_get}
use Rattle.k_types.specs.declared.names.LimitId.{LimitId}
use Rattle.k_types.specs.declared.setup.LimitRow.{LimitRow}
use Rattle.k_types.specs.Trace.{no_row, operations_of}
use Rattle.k_types.specs.TraceRules.{IsTree}
use Rattle.k_types.proofs.Lists.{if_some}
use Rattle.k_words.specs.Words.{Text, line_text, text_of}
use Rattle.k_words.specs.Spaced.{spaced}
use Rattle.k_report.proofs.LineLemmas.{joined, text_of-append}
use Rattle.k_trace.specs.Named.{NamedTrace}
use Rattle.k_trace.specs.Spelling.{declarations, limit_words, operation_lines, proc_words, shared_words, text, type_words}

-- The line was added, and the others are left.
pub line_added : (old line new all : Text) (ws : List Text) (left rest : List (List Text)) → left ≡ ws ∷ rest → line ≡ join_with_byte 32 ws → new ≡ old ++ line ++ 10 ∷ [] → old ++ text_of left ≡ all → new ++ text_of rest ≡ all
line_added old line new all ws left rest e l n h =
    let whole : new ≡ old ++ line_text ws = n ∙ append_assoc old line (10 ∷ []) ∙ ap (λ (t : Text). old ++ (t ++ 10 ∷ [])) l in
    ap (λ (t : Text). t ++ text_of rest) whole
    ∙ append_assoc old (line_text ws) (text_of rest)
    ∙ ap (λ (ls : List (List Text)). old ++ text_of ls) (sym e)
    ∙ h

-- No line is left.
pub none_left : (text all : Text) (left : List (List Text)) → left ≡ [] → text ++ text_of left ≡ all → text ≡ all
none_left text all left e h = sym (append-nil text) ∙ ap (λ (ls : List (List Text)). text ++ text_of ls) (sym e) ∙ h

pub mapped_next : {A B : Type 0} (f : A → B) (xs : List A) (i : ℕ) (d : A) → i < length xs → map f (drop i xs) ≡ f (get_or xs i d) ∷ map f (drop (i + 1) xs)
mapped_next f xs i d lt = rw (drop-cons xs i d lt, add-one) refl

-- A word was added to a line, and the others are left.
pub word_added : (old new all word : Text) (left rest : List Text) → left ≡ word ∷ rest → new ≡ old ++ 32 ∷ word → old ++ spaced left ≡ all → new ++ spaced rest ≡ all
word_added old new all word left rest e n h =
    ap (λ (t : Text). t ++ spaced rest) n
    ∙ append_assoc old (32 ∷ word) (spaced rest)
    ∙ ap (λ (ws : List Text). old ++ spaced ws) (sym e)
    ∙ h

-- One part of a text was added behind others.
pub part_added : (old new : Text) (first second : List (List Text)) → old ≡ text_of first → new ≡ old ++ text_of second → new ≡ text_of (first ++ second)
part_added old new first second e n = n ∙ ap (λ (t : Text). t ++ text_of second) e ∙ sym (text_of-append first second)

-- A line of one word and others.
pub line_behind : (first x v : Text) (rest : List Text) → x ≡ first → v ≡ x ++ spaced rest → v ≡ join_with_byte 32 (first ∷ rest)
line_behind first x v rest ex ev = ev ∙ ap (λ (t : Text). t ++ spaced rest) ex ∙ sym (joined first rest)

-- A line of two words and others.
pub line_behind_two : (first second x y v : Text) (rest : List Text) → x ≡ first → y ≡ x ++ 32 ∷ second → v ≡ y ++ spaced rest → v ≡ join_with_byte 32 (first ∷ second ∷ rest)
line_behind_two first second x y v rest ex ey ev =
    ev ∙ ap (λ (t : Text). t ++ spaced rest) (ey ∙ ap (λ (t : Text). t ++ 32 ∷ second) ex)
    ∙ append_assoc first (32 ∷ second) (spaced rest)
    ∙ sym (joined first (second ∷ rest))

-- An element that is found, mapped before the others.
pub mapped_at : {A B : Type 0} (f : A → B) (xs : List A) (i : ℕ) (x : A) → slice_get xs i ≡ Some x → map f (drop i xs) ≡ f x ∷ map f (drop (i + 1) xs)
mapped_at f xs i x e = mapped_next f xs i x (slice_get_within xs i x e) ∙ ap (λ y. f y ∷ map f (drop (i + 1) xs)) (get_or_from_slice_get xs i x x e)

-- The first two lines.
pub heading_added : {E : Type 0} (r : Result (Unit {0}) E) (old first second one two v a b : Text) → one ≡ codes "kaffe" ++ 32 ∷ v → first ≡ old ++ one ++ 10 ∷ [] → two ≡ (codes "kernel" ++ 32 ∷ a) ++ 32 ∷ b
    → OnOk r (second ≡ first ++ two ++ 10 ∷ []) → OnOk r (second ≡ old ++ text_of ((codes "kaffe" ∷ v ∷ []) ∷ (codes "kernel" ∷ a ∷ b ∷ []) ∷ []))
heading_added (Err e) old first second one two v a b ones firsts twos seconds = tt
heading_added (Ok u) old first second one two v a b ones firsts twos seconds =
    let all : Text = old ++ text_of ((codes "kaffe" ∷ v ∷ []) ∷ (codes "kernel" ∷ a ∷ b ∷ []) ∷ []) in
    none_left second all [] refl
    (line_added first two second all (codes "kernel" ∷ a ∷ b ∷ []) ((codes "kernel" ∷ a ∷ b ∷ []) ∷ []) [] refl twos seconds
    (line_added old one first all (codes "kaffe" ∷ v ∷ []) ((codes "kaffe" ∷ v ∷ []) ∷ (codes "kernel" ∷ a ∷ b ∷ []) ∷ []) ((codes "kernel" ∷ a ∷ b ∷ []) ∷ []) refl ones firsts refl))

-- The parts of a trace's text, one behind the other.
pub whole_text : (t : NamedTrace) (x0 x1 x2 x3 x4 x5 x6 : Text) → x0 ≡ []
    → x1 ≡ x0 ++ text_of ((codes "kaffe" ∷ decimal t.trace.version ∷ []) ∷ (codes "kernel" ∷ decimal t.trace.ceiling ∷ decimal t.trace.dir_fields ∷ []) ∷ [])
    → x2 ≡ x1 ++ text_of (declarations type_words t.names.types t.trace.types)
    → x3 ≡ x2 ++ text_of (declarations (limit_words t.names) t.names.limits t.trace.limits)
    → x4 ≡ x3 ++ text_of (declarations (proc_words t.names) t.names.procs t.trace.procs)
    → x5 ≡ x4 ++ text_of (map shared_words t.names.shared)
    → x6 ≡ x5 ++ text_of (operation_lines t.names (operations_of t.trace) t.trace.order)
    → x6 ≡ text t
whole_text t x0 x1 x2 x3 x4 x5 x6 e0 e1 e2 e3 e4 e5 e6 =
    let heading : List (List Text) = (codes "kaffe" ∷ decimal t.trace.version ∷ []) ∷ (codes "kernel" ∷ decimal t.trace.ceiling ∷ decimal t.trace.dir_fields ∷ []) ∷ [] in
    let types : List (List Text) = declarations type_words t.names.types t.trace.types in
    let limits : List (List Text) = declarations (limit_words t.names) t.names.limits t.trace.limits in
    let procs : List (List Text) = declarations (proc_words t.names) t.names.procs t.trace.procs in
    let shared : List (List Text) = map shared_words t.names.shared in
    let lines : List (List Text) = operation_lines t.names (operations_of t.trace) t.trace.order in
    part_added x5 x6 ((((heading ++ types) ++ limits) ++ procs) ++ shared) lines
    (part_added x4 x5 (((heading ++ types) ++ limits) ++ procs) shared
    (part_added x3 x4 ((heading ++ types) ++ limits) procs
    (part_added x2 x3 (heading ++ types) limits
    (part_added x1 x2 heading types
    (part_added x0 x1 [] heading e0 e1) e2) e3) e4) e5) e6

-- The parent of a limit has a name.
pub parent_named : (rows : List LimitRow) (i named : ℕ) (d : LimitRow) → IsTree rows → i < length rows → named ≡ length rows → IfSome (get_or rows i d).parent (λ q. q.0 < named)
parent_named rows i named d tree inside same =
    if_some (λ (q : LimitId). q.0 < named) (get_or rows i d).parent
    (λ q e. let low = tree i q inside (ap (λ (r : LimitRow). r.parent) (get_or_default rows i no_row d inside) ∙ e) in omega arith)
