-- What is kept by each good line of a script.
use Rattle.std.proofs.Common.{◌≡◌, ◌∙◌, ℕ, ◌+◌, ◌^◌, ◌<◌, ◌≤◌, ◌&&◌, ◌||◌, Bool, true, false, cond, codes, List, [], ◌∷◌, ◌++◌, length, drop, Result, Ok, Err, refl, sym, ap, subst, arith, append_assoc, append-nil}
use Rattle.std.proofs.lemmas.Bool.{leb-true}
use Rattle.std.specs.Str.{bytes_eq}
use Rattle.k_types.specs.declared.op.Op.{Op}
use Rattle.k_types.specs.Trace.{Trace, process_count}
use Rattle.k_types.proofs.Sums.{total_push}
use Rattle.k_words.proofs.Spelled.{both, number_word}
use Rattle.k_trace.specs.Words.{Text, word_at, words_of}
use Rattle.k_trace.specs.Names.{declares, is_keyword, number_of}
use Rattle.k_trace.specs.Numbers.{value}
use Rattle.k_trace.specs.Forms.{has_operation, has_verb, op_in, op_of}
use Rattle.k_trace.specs.declared.place.Place.{Place}
use Rattle.k_trace.specs.declared.place.Place.TheVariants.{Version, Kernel, Types, Limits, Procs, Shared, Operations}
use Rattle.k_trace.specs.declared.reasons.Reason.{Reason}
use Rattle.k_trace.specs.declared.reasons.Reason.TheVariants.{NoForm}
use Rattle.k_trace.proofs.Pushed.{number_below}
use Rattle.k_reader.proofs.Found.{not_true}
use Rattle.k_reader.proofs.OpAgain.{has_own_operation}
use Rattle.k_reader.proofs.OpForms.{AreNamed, op_found}
use Rattle.k_reader.proofs.Readers.{demands_ok as asks_ok, ok_is}
use Rattle.k_reader.proofs.Sound.{named_in}
use Rattle.k_reader.proofs.Steps.{version_words}
use Rattle.k_spawn.specs.declared.reasons.ScriptReason.TheVariants.{OfTrace}
use Rattle.k_spawn.specs.declared.script.Deed.{Deed}
use Rattle.k_spawn.specs.declared.script.Deed.TheVariants.{Does, Spawns, Reaps}
use Rattle.k_spawn.specs.declared.script.ScriptLine.{ScriptLine}
use Rattle.k_spawn.specs.Courses.{IsDeedOf}
use Rattle.k_spawn.specs.Families.{Family}
use Rattle.k_spawn.specs.Judgement.{SoFar, bare, deed_line, deed_line_of, deed_of, has_no_child, header_line, is_child_word, judged_line, later_line, line_in, line_of_procs, operation_line, plain, process_named, reap_form, spawn_form, version_line, with_line}
use Rattle.k_spawn.specs.Scripts.{Script, family, process_names}
use Rattle.k_spawn.specs.Timely.{is_due, is_running, operations_so_far, weight}
use Rattle.k_spawn.proofs.ChildKept.{child_kept, names_counted}
use Rattle.k_spawn.proofs.HeaderKept.{begins_with, demands_ok, early_kept, proc_kept, shared_kept_procs, shared_kept_shared}
use Rattle.k_spawn.proofs.KeptSoFar.{AllInTime, AreLines, IsGoodDeed, IsGoodLine, IsHeader, IsInTime, IsPeopled, IsWhole, Keeps}
use Rattle.k_types.proofs.Lists.{all_push}

-- ---- deeds

-- whom the deed speaks of is of the script, and the deed is good
record IsRead (s : Script) (deed : Deed) : Type 0 where
  pub known : IsDeedOf (family s) deed
  pub good : IsGoodDeed s.header.trace deed

abbrev IsCounted : Script → Type 0
IsCounted s = length (process_names s) ≡ process_count s.header.trace + length s.parents

process_known : (s : Script) (w : Text) → IsCounted s → declares (process_names s) w ≡ true → number_of (process_names s) w < process_count s.header.trace + length s.parents
process_known s w counted e = let h = number_below (process_names s) w e in omega (arith, h, counted)

spawn_read : (s : Script) (ws : List Text) (deed : Deed) → IsCounted s → spawn_form s ws ≡ Ok deed → IsRead s deed
unfolding spawn_form
spawn_read s ws deed counted e =
    let a = asks_ok _ _ _ deed e in
    let b = asks_ok _ _ _ deed a.1 in
    let g = asks_ok _ _ _ deed b.1 in
    let small = number_word (2 ^ 40) (word_at ws 2) (omega arith) b.0 in
    let read : IsRead s (Spawns (process_named s (word_at ws 1)) (value (word_at ws 2))) = record { known = process_known s (word_at ws 1) counted g.0; good = small.1 } in
    subst (IsRead s) (ok_is _ deed g.1) read

reap_read : (s : Script) (ws : List Text) (deed : Deed) → IsCounted s → reap_form s ws ≡ Ok deed → IsRead s deed
unfolding reap_form
reap_read s ws deed counted e =
    let a = asks_ok _ _ _ deed e in
    let b = asks_ok _ _ _ deed a.1 in
    let read : IsRead s (Reaps (process_named s (word_at ws 1))) = record { known = process_known s (word_at ws 1) counted b.0; good = tt } in
    subst (IsRead s) (ok_is _ deed b.1) read

op_read : (s : Script) (ws : List Text) (op : Op) → AreNamed s.header → op_in 1 s.header.names ws ≡ Ok op → IsRead s (Does op)
unfolding op_in
op_read s ws op named e =
    let has = asks_ok NoForm (has_operation 1 ws) (op_of s.header.names ws) op e in
    let found = op_found s.header ws named op has.1 in
    record { known = tt; good = (found.in_range, found.spelled, sym (has_own_operation 1 s.header.names op) ∙ ap (has_operation 1) found.words ∙ has.0) }

plain_read : (s : Script) (ws : List Text) (deed : Deed) (r : Result Op Reason) → AreNamed s.header → op_in 1 s.header.names ws ≡ r → plain r ≡ Ok deed → IsRead s deed
plain_read s ws deed (Err reason) named is e = absurd cc
plain_read s ws deed (Ok op) named is e = subst (IsRead s) (ok_is (Does op) deed e) (op_read s ws op named is)

-- one of two was judged good
either : {A E : Type 0} (P : Type 0) (test : Bool) (a b : Result A E) (d : A) → (test ≡ true → a ≡ Ok d → P) → (b ≡ Ok d → P) → cond test a b ≡ Ok d → P
either P true a b d f g e = f refl e
either P false a b d f g e = g e

nothing : {A E : Type 0} (P : Type 0) (reason : E) (d : A) → (let r : Result A E = Err reason in r) ≡ Ok d → P
nothing P reason d e = absurd cc

-- a deed that was read
deed_read : (s : Script) (ws : List Text) (deed : Deed) → AreNamed s.header → IsCounted s → deed_of s ws ≡ Ok deed → IsRead s deed
unfolding deed_of
deed_read s ws deed named counted e =
    either (IsRead s deed) (has_verb ws (codes "spawn")) _ _ deed (λ verb. spawn_read s ws deed counted)
    (either (IsRead s deed) (has_verb ws (codes "reap")) _ _ deed (λ verb. reap_read s ws deed counted) (plain_read s ws deed (op_in 1 s.header.names ws) named refl)) e

-- ---- one line more

time_push : (f : Family) (before ls : List ScriptLine) (l : ScriptLine) → AllInTime f before ls → IsInTime f (before ++ ls) l → AllInTime f before (ls ++ l ∷ [])
time_push f before [] l all last = (subst (λ (xs : List ScriptLine). IsInTime f xs l) (append-nil before) last, tt)
time_push f before (x ∷ ls) l all last =
    (all.0, time_push f (before ++ x ∷ []) ls l all.1 (subst (λ (xs : List ScriptLine). IsInTime f xs l) (sym (append_assoc before (x ∷ []) ls)) last))

line_more : (t : Trace) (f : Family) (lines : List ScriptLine) (l : ScriptLine) → AreLines t f lines → IsGoodLine t f l → IsInTime f lines l
    → operations_so_far f lines + weight f l.deed ≤ 200000 → AreLines t f (lines ++ l ∷ [])
line_more t f lines l old good now room = record {
  good = all_push (IsGoodLine t f) lines l old.good good;
  in_time = time_push f [] lines l old.in_time now;
  room = subst (λ (n : ℕ). n ≤ 200000) (sym (total_push (λ (x : ScriptLine). weight f x.deed) lines l)) room;
}

no_lines : (t : Trace) (f : Family) → AreLines t f []
no_lines t f = record { good = tt; in_time = tt; room = omega arith }

-- before the first line of a process
pub procs_whole : (s : Script) → IsPeopled Procs s → IsWhole s
procs_whole s kept =
    let h = kept.header in record {
      spelled = kept.spelled;
      header = (h.0, h.1, h.2, h.4);
      children = kept.children;
      lines = subst (AreLines s.header.trace (family s)) (sym kept.lines) (no_lines s.header.trace (family s));
    }

pub shared_whole : (s : Script) → IsPeopled Shared s → IsWhole s
shared_whole s kept = record {
  spelled = kept.spelled;
  header = kept.header;
  children = kept.children;
  lines = subst (AreLines s.header.trace (family s)) (sym kept.lines) (no_lines s.header.trace (family s));
}

-- ---- the lines of processes

deed_kept : (s : Script) (name : Text) (deed : Deed) (d : SoFar) → IsWhole s → IsCounted s → IsRead s deed → deed_line s name deed ≡ Ok d → Keeps d.place d.said
unfolding deed_line
deed_kept s name deed d kept counted read e =
    let a = demands_ok _ _ _ d e in
    let b = demands_ok _ _ _ d a.1 in
    let g = demands_ok _ _ _ d b.1 in
    let h = demands_ok _ _ _ d g.1 in
    let i = demands_ok _ _ _ d h.1 in
    let p = number_of (process_names s) name in
    let l : ScriptLine = record { pid = record { 0 = p }; deed = deed } in
    let time = both (is_running (family s) s.lines p) (is_due (family s) s.lines deed) i.0 in
    let good : IsGoodLine s.header.trace (family s) l = record { process = process_known s name counted a.0; deed = read.known; good = read.good } in
    let now : IsInTime (family s) s.lines l = record { goes_on = not_true _ g.0; of_parent = h.0; running = time.0; due = time.1 } in
    let lines = line_more s.header.trace (family s) s.lines l kept.lines good now (leb-true _ _ b.0) in
    let more : IsWhole (with_line s p deed) = record { spelled = kept.spelled; header = kept.header; children = kept.children; lines = lines } in
    subst (λ (x : SoFar). Keeps x.place x.said) (ok_is _ d i.1) more

deed_kept_of : (s : Script) (ws : List Text) (d : SoFar) (r : Result Deed Reason) → IsWhole s → deed_of s (drop 1 ws) ≡ r → deed_line_of s (word_at ws 0) r ≡ Ok d → Keeps d.place d.said
deed_kept_of s ws d (Err reason) kept is e = absurd cc
deed_kept_of s ws d (Ok deed) kept is e =
    let counted = names_counted s kept.spelled kept.header.0 kept.children in
    deed_kept s (word_at ws 0) deed d kept counted (deed_read s (drop 1 ws) deed (named_in Shared s.header kept.spelled kept.header) counted is) e

operation_kept : (s : Script) (ws : List Text) (d : SoFar) → IsWhole s → operation_line s ws ≡ Ok d → Keeps d.place d.said
unfolding operation_line
operation_kept s ws d kept e = deed_kept_of s ws d (deed_of s (drop 1 ws)) kept refl e

later_kept : (place : Place) (s : Script) (ws : List Text) (d : SoFar) → IsWhole s → (begins_with ws (codes "shared") → header_line place s ws ≡ Ok d → Keeps d.place d.said)
    → later_line place s ws ≡ Ok d → Keeps d.place d.said
unfolding later_line
later_kept place s ws d kept heap e =
    either (Keeps d.place d.said) (bytes_eq (word_at ws 0) (codes "shared")) _ _ d heap
    (either (Keeps d.place d.said) (is_keyword (word_at ws 0) || is_child_word (word_at ws 0)) _ _ d (λ reserved. nothing (Keeps d.place d.said) (OfTrace NoForm) d) (operation_kept s ws d kept)) e

procs_kept : (s : Script) (ws : List Text) (d : SoFar) → IsPeopled Procs s → line_of_procs s ws ≡ Ok d → Keeps d.place d.said
unfolding line_of_procs
procs_kept s ws d kept e =
    either (Keeps d.place d.said) (bytes_eq (word_at ws 0) (codes "proc") && has_no_child s) _ _ d
    (λ test. let parts = both (bytes_eq (word_at ws 0) (codes "proc")) (has_no_child s) test in proc_kept s ws d kept parts.1 parts.0)
    (either (Keeps d.place d.said) (is_child_word (word_at ws 0)) _ _ d (λ first. child_kept s ws d kept) (later_kept Procs s ws d (procs_whole s kept) (shared_kept_procs s ws d kept))) e

-- ---- all lines

-- behind the first line
bare_header : IsHeader Kernel bare
bare_header = record { spelled = version_words 1 ∷ []; header = (refl, (omega arith, omega arith), refl); names = refl; parents = refl; lines = refl }

version_kept : (s : Script) (ws : List Text) (d : SoFar) → s ≡ bare → version_line s ws ≡ Ok d → Keeps d.place d.said
unfolding version_line
version_kept s ws d kept e =
    let a = demands_ok _ _ _ d e in
    subst (λ (x : SoFar). Keeps x.place x.said) (ok_is _ d a.1) (subst (IsHeader Kernel) (sym kept) bare_header)

kept_in : (place : Place) (s : Script) (ws : List Text) (d : SoFar) → Keeps place s → line_in place s ws ≡ Ok d → Keeps d.place d.said
unfolding line_in
kept_in Version s ws d kept e = version_kept s ws d kept e
kept_in Kernel s ws d kept e = early_kept Kernel s ws d refl kept e
kept_in Types s ws d kept e = early_kept Types s ws d refl kept e
kept_in Limits s ws d kept e = early_kept Limits s ws d refl kept e
kept_in Procs s ws d kept e = procs_kept s ws d kept e
kept_in Shared s ws d kept e = later_kept Shared s ws d (shared_whole s kept) (shared_kept_shared s ws d kept) e
kept_in Operations s ws d kept e = operation_kept s ws d kept e

-- a good line keeps what holds
pub line_kept : (c d : SoFar) (line : Text) → Keeps c.place c.said → judged_line c line ≡ Ok d → Keeps d.place d.said
unfolding judged_line
line_kept c d line kept e =
    let a = demands_ok _ _ _ d e in
    let b = demands_ok _ _ _ d a.1 in
    let g = demands_ok _ _ _ d b.1 in
    kept_in c.place c.said (words_of line) d kept g.1
