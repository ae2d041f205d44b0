-- The limits, processes and shared heaps of a trace are a run.
use Rattle.std.proofs.Common.{◌≡◌, ◌∙◌, ◌⊎◌, ℕ, ◌+◌, ◌^◌, ◌<◌, ◌≤◌, true, not, ◌||◌, List, [], ◌∷◌, ◌++◌, length, map, Option, Some, None, refl, sym, ap, subst, arith, inl, inr, append_assoc}
use Rattle.std.proofs.lemmas.List.{length-append, append-nil}
use Rattle.k_limits.specs.k_types.declared.names.LimitId.{LimitId}
use Rattle.k_limits.specs.k_types.declared.setup.LimitRow.{LimitRow}
use Rattle.k_limits.specs.k_types.declared.op.Op.{Op}
use Rattle.k_limits.specs.k_types.Trace.{row_of}
use Rattle.k_limits.specs.k_types.TraceRules.{IsTree}
use Rattle.k_words.specs.Words.{Text}
use Rattle.k_words.specs.Names.{declares}
use Rattle.k_trace.specs.declared.place.Place.{Place}
use Rattle.k_trace.specs.declared.place.Place.TheVariants.{Limits, Procs, Shared}
use Rattle.k_trace.specs.Named.{DeclaredNames, NamedTrace}
use Rattle.k_trace.specs.Rules.{AreNames}
use Rattle.k_trace.specs.Spelling.{declarations, limit_words, proc_words, shared_words}
use Rattle.k_trace.specs.Grown.{fits, with_limit, with_proc, with_shared}
use Rattle.k_trace.specs.Judgement.{SoFar}
use Rattle.k_trace.proofs.Pushed.{fresh_at}
use Rattle.k_reader.proofs.OpRules.{none_each}
use Rattle.k_limits.proofs.Lists.{length_push}
use Rattle.k_reader.proofs.Again.{nor}
use Rattle.k_reader.proofs.Reserved.{AllFit, fit_room}
use Rattle.k_reader.proofs.Steps.{at_place, Step, OfProc, OfShared, Run}
use Rattle.k_reader.proofs.Runs.{run_to, good_at, moved, with_limits, limits_more, row_is, AreLater, limit_step, seam, front_tree, fit_front}
use Rattle.k_words.proofs.Numbered.{declares_append}

-- the next row fits
room_at : (xs : List LimitRow) (row : LimitRow) (ys : List LimitRow) (p : LimitId) → row.parent ≡ Some p → AreLater (xs ++ row ∷ ys) → p.0 < length xs → (not row.hard || fits xs p.0 row.max) ≡ true
room_at xs row ys p e all known =
    let a = append_assoc xs (row ∷ []) ys in
    let tree : IsTree ((xs ++ row ∷ []) ++ ys) = subst IsTree (sym a) all.tree in
    let rooted = subst (λ (rows : List LimitRow). (m : ℕ) → m < length rows → (row_of rows m).parent ≡ None → m ≡ 0) (sym a) all.rooted in
    let front : AllFit (xs ++ row ∷ []) = fit_front ys (xs ++ row ∷ []) tree rooted (subst AllFit (sym a) all.fits) in
    let f = row_is row p e in
    fit_room xs p.0 row.hard row.max (subst (λ (r : LimitRow). IsTree (xs ++ r ∷ [])) f (front_tree (xs ++ row ∷ []) ys tree)) known (subst (λ (r : LimitRow). AllFit (xs ++ r ∷ [])) f front)

later_moved : (xs : List LimitRow) (row : LimitRow) (ys : List LimitRow) → AreLater (xs ++ row ∷ ys) → AreLater ((xs ++ row ∷ []) ++ ys)
later_moved xs row ys all = subst AreLater (sym (append_assoc xs (row ∷ []) ys)) all

names_moved : (full : List Text) (xs : List Text) (n : Text) (ns : List Text) → full ≡ xs ++ n ∷ ns → full ≡ (xs ++ n ∷ []) ++ ns
names_moved full xs n ns e = e ∙ sym (append_assoc xs (n ∷ []) ns)

-- the parent of a later row
parent_of : (xs : List LimitRow) (row : LimitRow) (ys : List LimitRow) → 0 < length xs → AreLater (xs ++ row ∷ ys) → (p : LimitId) × (row.parent ≡ Some p) × (p.0 < length xs)
parent_of xs row ys some all = go row.parent refl
  where
    go : (o : Option LimitId) → row.parent ≡ o → (p : LimitId) × (row.parent ≡ Some p) × (p.0 < length xs)
    go None e = absurd (let h = all.rooted (length xs) (omega (arith, length-append xs (row ∷ ys))) (ap (λ (r : LimitRow). r.parent) (seam xs row ys) ∙ e) in omega (arith, h, some))
    go (Some p) e = (p, e, all.tree (length xs) p (omega (arith, length-append xs (row ∷ ys))) (ap (λ (r : LimitRow). r.parent) (seam xs row ys) ∙ e))

small_at : (xs : List LimitRow) (row : LimitRow) (ys : List LimitRow) → AreLater (xs ++ row ∷ ys) → row.max < 2 ^ 40
small_at xs row ys all = subst (λ (r : LimitRow). r.max < 2 ^ 40) (seam xs row ys) (all.small (length xs) (omega (arith, length-append xs (row ∷ ys))))

limits_end : (t : NamedTrace) → t ≡ with_limits t [] []
limits_end t = rw (append-nil t.names.limits, append-nil t.trace.limits) refl

pub limits_run : (ns : List Text) (rows : List LimitRow) (t : NamedTrace) (full : DeclaredNames) → length ns ≡ length rows → full.limits ≡ t.names.limits ++ ns → AreNames (t.names.limits ++ ns)
    → length t.names.limits ≡ length t.trace.limits → 0 < length t.trace.limits → length t.names.limits + length ns ≤ 128 → AreLater (t.trace.limits ++ rows)
    → Run (at_place Limits t) (declarations (limit_words full) ns rows) (at_place Limits (with_limits t ns rows))
limits_run [] [] t full e names all same some few later = ap (at_place Limits) (limits_end t)
limits_run [] (row ∷ rows) t full e names all same some few later = absurd cc
limits_run (n ∷ ns) [] t full e names all same some few later = absurd cc
limits_run (n ∷ ns) (row ∷ rows) t full e names all same some few later =
    let f : length ns ≡ length rows = cc in
    let p = parent_of t.trace.limits row rows some later in
    let step = limit_step t full n ns row p.0 p.1 names all same p.2 (omega (arith, few)) (small_at t.trace.limits row rows later) (room_at t.trace.limits row rows p.0 p.1 later p.2) in (
      at_place Limits (with_limit t n row),
      step,
      run_to (at_place Limits (with_limit t n row)) (at_place Limits (with_limits (with_limit t n row) ns rows)) (at_place Limits (with_limits t (n ∷ ns) (row ∷ rows))) (declarations (limit_words full) ns rows)
          (limits_run ns rows (with_limit t n row) full f (names_moved full.limits t.names.limits n ns names) (moved t.names.limits n ns all)
          (omega (arith, same, length_push t.names.limits n, length_push t.trace.limits row)) (omega (arith, length_push t.trace.limits row)) (omega (arith, few, length_push t.names.limits n))
          (later_moved t.trace.limits row rows later))
          (ap (at_place Limits) (limits_more t n ns row rows)),
    )

-- ---- processes

abbrev pub with_procs : NamedTrace → List Text → List LimitId → NamedTrace
with_procs t ns ls = record {
  names = record t.names { procs = t.names.procs ++ ns };
  trace = record t.trace { procs = t.trace.procs ++ ls; operations = t.trace.operations ++ none_each ls };
}

procs_end : (t : NamedTrace) → t ≡ with_procs t [] []
procs_end t = rw (append-nil t.names.procs, append-nil t.trace.procs, append-nil t.trace.operations) refl

procs_more : (t : NamedTrace) (n : Text) (ns : List Text) (l : LimitId) (ls : List LimitId) → with_procs (with_proc t n l) ns ls ≡ with_procs t (n ∷ ns) (l ∷ ls)
procs_more t n ns l ls =
    let none : List Op = [] in
    rw (append_assoc t.names.procs (n ∷ []) ns, append_assoc t.trace.procs (l ∷ []) ls, append_assoc t.trace.operations (none ∷ []) (none_each ls)) refl

abbrev pub AllBelow : ℕ → List LimitId → Type 0
AllBelow n [] = Unit {0}
AllBelow n (l ∷ ls) = (l.0 < n) × AllBelow n ls

-- a process is declared after the limits or another
pub proc_step : (p : Place) (t : NamedTrace) (n : Text) (ns : List Text) (l : LimitId) → (p ≡ Limits) ⊎ (p ≡ Procs) → AreNames (t.names.procs ++ n ∷ ns) → length t.names.procs < 64
    → l.0 < length t.names.limits → Step (at_place p t) (proc_words t.names n l) (at_place Procs (with_proc t n l))
proc_step p t n ns l at all few known = OfProc (record {
  name = n;
  limit = l.0;
  at = at;
  named = good_at t.names.procs n ns all;
  fresh = fresh_at t.names.procs n ns all;
  declared = known;
  few = few;
  words = refl;
  after = refl;
})

pub procs_run : (ns : List Text) (ls : List LimitId) (t : NamedTrace) → length ns ≡ length ls → AreNames (t.names.procs ++ ns) → length t.names.procs + length ns ≤ 64
    → AllBelow (length t.names.limits) ls → Run (at_place Procs t) (declarations (proc_words t.names) ns ls) (at_place Procs (with_procs t ns ls))
procs_run [] [] t e all few known = ap (at_place Procs) (procs_end t)
procs_run [] (l ∷ ls) t e all few known = absurd cc
procs_run (n ∷ ns) [] t e all few known = absurd cc
procs_run (n ∷ ns) (l ∷ ls) t e all few known =
    let f : length ns ≡ length ls = cc in (
      at_place Procs (with_proc t n l),
      proc_step Procs t n ns l (inr refl) all (omega (arith, few)) known.0,
      run_to (at_place Procs (with_proc t n l)) (at_place Procs (with_procs (with_proc t n l) ns ls)) (at_place Procs (with_procs t (n ∷ ns) (l ∷ ls))) (declarations (proc_words t.names) ns ls)
          (procs_run ns ls (with_proc t n l) f (moved t.names.procs n ns all) (omega (arith, few, length_push t.names.procs n)) known.1)
          (ap (at_place Procs) (procs_more t n ns l ls)),
    )

-- all processes, after the limits
pub all_procs_run : (ns : List Text) (ls : List LimitId) (t : NamedTrace) → 0 < length ls → length ns ≡ length ls → AreNames (t.names.procs ++ ns) → length t.names.procs + length ns ≤ 64
    → AllBelow (length t.names.limits) ls → Run (at_place Limits t) (declarations (proc_words t.names) ns ls) (at_place Procs (with_procs t ns ls))
all_procs_run ns [] t some e all few known = absurd (omega arith)
all_procs_run [] (l ∷ ls) t some e all few known = absurd cc
all_procs_run (n ∷ ns) (l ∷ ls) t some e all few known =
    let f : length ns ≡ length ls = cc in (
      at_place Procs (with_proc t n l),
      proc_step Limits t n ns l (inl refl) all (omega (arith, few)) known.0,
      run_to (at_place Procs (with_proc t n l)) (at_place Procs (with_procs (with_proc t n l) ns ls)) (at_place Procs (with_procs t (n ∷ ns) (l ∷ ls))) (declarations (proc_words t.names) ns ls)
          (procs_run ns ls (with_proc t n l) f (moved t.names.procs n ns all) (omega (arith, few, length_push t.names.procs n)) known.1)
          (ap (at_place Procs) (procs_more t n ns l ls)),
    )

-- ---- shared heaps

abbrev pub with_shareds : NamedTrace → List Text → NamedTrace
with_shareds t ns = record { names = record t.names { shared = t.names.shared ++ ns }; trace = record t.trace { shared_heaps = t.trace.shared_heaps + length ns } }

shareds_end : (t : NamedTrace) → t ≡ with_shareds t []
shareds_end t = let e : t.trace.shared_heaps + 0 ≡ t.trace.shared_heaps = omega arith in rw (append-nil t.names.shared, e) refl

shareds_more : (t : NamedTrace) (n : Text) (ns : List Text) → with_shareds (with_shared t n) ns ≡ with_shareds t (n ∷ ns)
shareds_more t n ns = let e : t.trace.shared_heaps + 1 + length ns ≡ t.trace.shared_heaps + length (n ∷ ns) = omega arith in rw (append_assoc t.names.shared (n ∷ []) ns, e) refl

heaps_moved : (ps xs : List Text) (n : Text) (ns : List Text) → AreNames (ps ++ (xs ++ n ∷ ns)) → AreNames (ps ++ ((xs ++ n ∷ []) ++ ns))
heaps_moved ps xs n ns all = subst (λ (us : List Text). AreNames (ps ++ us)) (sym (append_assoc xs (n ∷ []) ns)) all

abbrev pub IsEarly : Place → Type 0
IsEarly p = (p ≡ Procs) ⊎ (p ≡ Shared)

shared_step : (p : Place) (t : NamedTrace) (n : Text) (ns : List Text) → IsEarly p → AreNames (t.names.procs ++ (t.names.shared ++ n ∷ ns)) → length t.names.shared < 64
    → Step (at_place p t) (shared_words n) (at_place Shared (with_shared t n))
shared_step p t n ns at all few =
    let flat : AreNames ((t.names.procs ++ t.names.shared) ++ n ∷ ns) = subst AreNames (sym (append_assoc t.names.procs t.names.shared (n ∷ ns))) all in
    let fresh = nor (declares t.names.procs n) (declares t.names.shared n) (sym (declares_append t.names.procs t.names.shared n) ∙ fresh_at (t.names.procs ++ t.names.shared) n ns flat) in
    OfShared (record {
      name = n;
      at = at;
      named = good_at (t.names.procs ++ t.names.shared) n ns flat;
      fresh = fresh.0;
      fresh_shared = fresh.1;
      few = few;
      words = refl;
      after = refl;
    })

-- where a run of shared heaps ends
pub record SharedRun (c : SoFar) (wss : List (List Text)) (t : NamedTrace) : Type 0 where
  pub place : Place
  pub early : IsEarly place
  pub run : Run c wss (at_place place t)

pub shared_run : (ns : List Text) (p : Place) (t : NamedTrace) → IsEarly p → AreNames (t.names.procs ++ (t.names.shared ++ ns)) → length t.names.shared + length ns ≤ 64
    → SharedRun (at_place p t) (map shared_words ns) (with_shareds t ns)
shared_run [] p t at all few = record { place = p; early = at; run = ap (at_place p) (shareds_end t) }
shared_run (n ∷ ns) p t at all few =
    let rest = shared_run ns Shared (with_shared t n) (inr refl) (heaps_moved t.names.procs t.names.shared n ns all) (omega (arith, few, length_push t.names.shared n)) in
    record {
      place = rest.place;
      early = rest.early;
      run = (
        at_place Shared (with_shared t n),
        shared_step p t n ns at all (omega (arith, few)),
        run_to (at_place Shared (with_shared t n)) (at_place rest.place (with_shareds (with_shared t n) ns)) (at_place rest.place (with_shareds t (n ∷ ns))) (map shared_words ns)
            rest.run (ap (at_place rest.place) (shareds_more t n ns)),
      );
    }
