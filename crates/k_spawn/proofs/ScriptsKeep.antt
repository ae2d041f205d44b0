-- The translation of a script is a trace, and each line speaks of processes of the script.
use Rattle.std.proofs.Common.{◌≡◌, ◌∙◌, ℕ, ◌+◌, Bool, true, false, cond, leb, List, [], ◌∷◌, length, Result, Ok, Err, refl, sym, subst, arith, ◌++◌, append_assoc, append-nil}
use Rattle.std.proofs.lemmas.List.{length-append}
use Rattle.std.specs.List.{AllByRecursion}
use Rattle.k_trace.specs.Words.{Text, lines_of}
use Rattle.k_trace.specs.Rules.{IsTrace}
use Rattle.k_trace.specs.declared.place.Place.{Place}
use Rattle.k_trace.specs.declared.place.Place.TheVariants.{Version, Kernel, Types, Limits, Procs, Shared, Operations}
use Rattle.k_trace.specs.Judgement.{BadLine, has_process}
use Rattle.k_spawn.specs.declared.script.ScriptLine.{ScriptLine}
use Rattle.k_spawn.specs.Families.{Family}
use Rattle.k_spawn.specs.Judgement.{SoFar, Judged, at_end, judged_line, judged_lines, judgement, start, then_lines}
use Rattle.k_spawn.specs.Scripts.{Script, family, limit_names}
use Rattle.k_spawn.specs.Translated.{IsLineOf}
use Rattle.k_spawn.specs.Translation.{translation}
use Rattle.k_spawn.proofs.ChildKept.{names_counted}
use Rattle.k_spawn.proofs.ChildLimits.{limits_are, limits_keep}
use Rattle.k_spawn.proofs.Gathered.{processes_are}
use Rattle.k_spawn.proofs.KeptSoFar.{AllInTime, IsGoodLine, IsInTime, IsWhole, Keeps}
use Rattle.k_spawn.proofs.LineOperations.{operations_keep}
use Rattle.k_spawn.proofs.LinesKept.{line_kept, procs_whole, shared_whole}

-- ---- what was judged is whole

-- what is kept after more good lines
abbrev Leads : List Text → SoFar → ℕ → Type 0
Leads lines d n = (c : SoFar) → Keeps c.place c.said → judged_lines n c lines ≡ Ok d → Keeps d.place d.said

after_line : (n : ℕ) (c d : SoFar) (l : Text) (ls : List Text) (r : Judged) → Keeps c.place c.said → judged_line c l ≡ r → Leads ls d (n + 1)
    → then_lines (λ x. judged_lines (n + 1) x ls) n r ≡ Ok d → Keeps d.place d.said
after_line n c d l ls (Err reason) kept good ih e = absurd cc
after_line n c d l ls (Ok x) kept good ih e = ih x (line_kept c x l kept good) e

lines_kept : (n : ℕ) (d : SoFar) (lines : List Text) → Leads lines d n
unfolding judged_lines
lines_kept n d [] c kept e = let same : c ≡ d = cc in subst (λ (x : SoFar). Keeps x.place x.said) same kept
lines_kept n d (l ∷ ls) c kept e = after_line n c d l ls (judged_line c l) kept refl (lines_kept (n + 1) d ls) e

-- once there is a process, what is kept is whole
whole_at : (place : Place) (s : Script) → has_process place ≡ true → Keeps place s → IsWhole s
whole_at Version s late kept = absurd cc
whole_at Kernel s late kept = absurd cc
whole_at Types s late kept = absurd cc
whole_at Limits s late kept = absurd cc
whole_at Procs s late kept = procs_whole s kept
whole_at Shared s late kept = shared_whole s kept
whole_at Operations s late kept = kept

ended_whole : (s : Script) (lines : List Text) (r : Result SoFar BadLine) (n : ℕ) → judged_lines 1 start lines ≡ r → at_end n r ≡ Ok s → IsWhole s
ended_whole s lines (Err bad) n is e = absurd cc
ended_whole s lines (Ok c) n is e = by_place (has_process c.place) refl e
  where
    by_place : (b : Bool) → has_process c.place ≡ b → cond {A = Result Script BadLine} b (Ok c.said) (Err (record { line = n; reason = 12 })) ≡ Ok s → IsWhole s
    by_place false late e = absurd cc
    by_place true late e = let same : c.said ≡ s = cc in subst IsWhole same (whole_at c.place c.said late (lines_kept 1 c lines start refl is))

-- what bytes are judged to be is whole
pub judged_whole : (bytes : Text) (s : Script) → judgement bytes ≡ Ok s → IsWhole s
unfolding judgement
judged_whole bytes s e = by_size (leb (length bytes) 16777216) e
  where
    by_size : (b : Bool) → cond {A = Result Script BadLine} b (at_end (length (lines_of bytes) + 1) (judged_lines 1 start (lines_of bytes))) (Err (record { line = 0; reason = 1 })) ≡ Ok s → IsWhole s
    by_size false e = absurd cc
    by_size true e = ended_whole s (lines_of bytes) (judged_lines 1 start (lines_of bytes)) (length (lines_of bytes) + 1) refl e

-- ---- what is whole is translated into a trace

trace_of : (s : Script) → IsWhole s → IsTrace (translation s)
trace_of s kept =
    let b = kept.header.0.begun in
    let children = kept.children in
    record {
      rules = record {
        version = (omega arith, omega arith);
        ceiling = b.kernel.small;
        directory = b.kernel.few;
        directory_fits = b.kernel.room;
        types = b.types.few;
        fields = b.types.few_fields;
        limit_count = let h = children.few_limits in omega (arith, limits_are s, h);
        processes = let h = children.in_order.few in omega (arith, processes_are s, h);
        some_process = let h = kept.header.2 in omega (arith, processes_are s, h);
        shared = b.heaps.few_shared;
        limits = limits_keep s b.limits kept.header.1 b.heaps.limited children.in_order;
        operations = operations_keep s b.heaps.limited kept.lines;
      };
      type_names = b.types.are_names;
      limit_names = children.limit_names;
      heap_names = children.heap_names;
      types_named = b.types.named;
      limits_named = limits_named s (b.limits.named) children.named;
      procs_named = names_counted s kept.spelled kept.header.0 children ∙ sym (processes_are s);
      shared_named = b.heaps.shared_named;
      has_root = let h = kept.header.1 in omega (arith, limits_are s, h);
    }
  where
    limits_named : (s : Script) → length s.header.names.limits ≡ length s.header.trace.limits → length s.child_names ≡ length s.parents → length (limit_names s) ≡ length (translation s).trace.limits
    limits_named s header named = length-append s.header.names.limits s.child_names ∙ omega (arith, limits_are s, header, named)

-- the translation of a script is a trace
pub judged_keeps : (bytes : Text) (s : Script) → judgement bytes ≡ Ok s → IsTrace (translation s)
judged_keeps bytes s e = trace_of s (judged_whole bytes s e)

are_lines : (s : Script) (lines : List ScriptLine) → AllByRecursion (IsGoodLine s.header.trace (family s)) lines → AllByRecursion (IsLineOf s) lines
are_lines s [] all = tt
are_lines s (l ∷ ls) all = (record { process = all.0.process; deed = all.0.deed }, are_lines s ls all.1)

-- each of its lines speaks of its processes
pub judged_lines_known : (bytes : Text) (s : Script) → judgement bytes ≡ Ok s → AllByRecursion (IsLineOf s) s.lines
judged_lines_known bytes s e = let kept = judged_whole bytes s e in are_lines s s.lines kept.lines.good

time_at : (f : Family) (before lines first rest : List ScriptLine) (l : ScriptLine) → AllInTime f before lines → lines ≡ first ++ l ∷ rest → IsInTime f (before ++ first) l
time_at f before [] [] rest l all e = absurd cc
time_at f before [] (x ∷ first) rest l all e = absurd cc
time_at f before (y ∷ lines) [] rest l all e =
    let same : y ≡ l = cc in
    subst (λ (xs : List ScriptLine). IsInTime f xs l) (sym (append-nil before)) (subst (IsInTime f before) same all.0)
time_at f before (y ∷ lines) (x ∷ first) rest l all e =
    let same : y ≡ x = cc in
    let others : lines ≡ first ++ l ∷ rest = cc in
    subst (λ (xs : List ScriptLine). IsInTime f xs l) (append_assoc before (x ∷ []) first)
    (subst (λ (z : ScriptLine). IsInTime f ((before ++ z ∷ []) ++ first) l) same (time_at f (before ++ y ∷ []) lines first rest l all.1 others))

-- each line is in time behind those before it
pub judged_in_time : (bytes : Text) (s : Script) → judgement bytes ≡ Ok s → (first rest : List ScriptLine) (l : ScriptLine) → s.lines ≡ first ++ l ∷ rest → IsInTime (family s) first l
judged_in_time bytes s e first rest l split = let kept = judged_whole bytes s e in time_at (family s) [] s.lines first rest l kept.lines.in_time split
