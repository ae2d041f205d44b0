-- A trace is a run from the start, so that bytes that spell it are judged good.
use Rattle.std.proofs.Common.{◌≡◌, ◌∙◌, ℕ, suc, ◌+◌, ◌<◌, ◌≤◌, Bool, true, List, [], ◌∷◌, ◌++◌, length, map, Option, Some, None, Result, Ok, refl, sym, ap, subst, arith, inl, inr}
use Rattle.std.proofs.lemmas.Bool.{le-leb}
use Rattle.std.proofs.lemmas.List.{length-map, ext_get_or}
use Rattle.k_limits.specs.k_types.declared.names.Field.{Field}
use Rattle.k_limits.specs.k_types.declared.names.LimitId.{LimitId}
use Rattle.k_limits.specs.k_types.declared.setup.LimitRow.{LimitRow}
use Rattle.k_limits.specs.k_types.declared.op.Op.{Op}
use Rattle.k_limits.specs.k_types.Types.{HaveFewFields}
use Rattle.k_limits.specs.k_types.Trace.{Trace, operations_of, row_of}
use Rattle.k_words.specs.Words.{Text, lines_of}
use Rattle.k_words.proofs.Proper.{lines_of_bytes}
use Rattle.k_trace.specs.declared.place.Place.{Place}
use Rattle.k_trace.specs.declared.place.Place.TheVariants.{Kernel, Types, Limits, Procs}
use Rattle.k_trace.specs.Named.{DeclaredNames, NamedTrace}
use Rattle.k_trace.specs.Rules.{AreNames, IsTrace, Spells}
use Rattle.k_trace.specs.Spelling.{declarations, type_words, limit_words, proc_words, shared_words, operation_lines, header_words, words}
use Rattle.k_trace.specs.Grown.{blank, with_version, with_kernel, with_limit}
use Rattle.k_trace.specs.Judgement.{SoFar, BadLine, start, judged_lines, has_process, at_end, judgement}
use Rattle.k_reader.proofs.OpRules.{none_at}
use Rattle.k_reader.proofs.Kept.{limit_at}
use Rattle.k_trace.proofs.Pushed.{AreNames_front}
use Rattle.k_reader.proofs.Steps.{at_place, version_words, kernel_words, root_row, Step, OfVersion, OfKernel, OfRoot, Run}
use Rattle.k_reader.proofs.Runs.{run_to, run_then, good_at, AllSmall, types_run, with_types, with_limits, limits_more, AreLater}
use Rattle.k_reader.proofs.LaterRuns.{limits_run, AllBelow, with_procs, all_procs_run, with_shareds, shared_run, IsEarly}
use Rattle.k_reader.proofs.OpRuns.{IsLeft, AreRuled, OpRun, ops_run}
use Rattle.k_reader.proofs.Judged.{run_again, run_proper}

small_fields : (types : List (List Field)) → HaveFewFields types → AllSmall types
small_fields [] few = tt
small_fields (r ∷ rs) few = (few (record { 0 = 0 }), small_fields rs (λ ty. few (record { 0 = suc ty.0 })))

below_each : (procs : List LimitId) (n : ℕ) → ((p : ℕ) → p < length procs → limit_at procs p < n) → AllBelow n procs
below_each [] n all = tt
below_each (l ∷ ls) n all = (all 0 (omega arith), below_each ls n (λ p lt. all (suc p) (omega arith)))

root_is : (row : LimitRow) → row.parent ≡ None → row.hard ≡ true → row ≡ root_row row.max
root_is row e h = ap (λ (o : Option LimitId). let r : LimitRow = record { parent = o; hard = row.hard; max = row.max } in r) e
    ∙ ap (λ (b : Bool). let r : LimitRow = record { parent = None; hard = b; max = row.max } in r) h

no_parent : (row : LimitRow) (rows : List LimitRow) → AreLater (row ∷ rows) → row.parent ≡ None
no_parent row rows all = go row.parent refl
  where
    go : (o : Option LimitId) → row.parent ≡ o → o ≡ None
    go None e = refl
    go (Some p) e = absurd (let h = all.tree 0 p (omega arith) e in omega (arith, h))

limits_all : (ns : List Text) (rows : List LimitRow) (t : NamedTrace) (full : DeclaredNames) → t.names.limits ≡ [] → t.trace.limits ≡ [] → full.limits ≡ ns → 0 < length rows → length ns ≡ length rows
    → AreNames ns → length ns ≤ 128 → AreLater rows → (row_of rows 0).hard ≡ true
    → Run (at_place Types t) (declarations (limit_words full) ns rows) (at_place Limits (with_limits t ns rows))
limits_all ns [] t full no_names no_rows names some e all few later hard = absurd (omega arith)
limits_all [] (row ∷ rows) t full no_names no_rows names some e all few later hard = absurd cc
limits_all (n ∷ ns) (row ∷ rows) t full no_names no_rows names some e all few later hard =
    let f : length ns ≡ length rows = cc in
    let r = root_is row (no_parent row rows later) hard in
    let step : Step (at_place Types t) (limit_words full n row) (at_place Limits (with_limit t n row)) = OfRoot (record {
      name = n;
      max = row.max;
      at = refl;
      named = good_at [] n ns all;
      fresh = rw no_names refl;
      small = later.small 0 (omega arith);
      few = rw no_names (omega arith);
      words = ap (limit_words full n) r;
      after = ap (λ (x : LimitRow). at_place Limits (with_limit t n x)) r;
    }) in (
      at_place Limits (with_limit t n row),
      step,
      run_to (at_place Limits (with_limit t n row)) (at_place Limits (with_limits (with_limit t n row) ns rows)) (at_place Limits (with_limits t (n ∷ ns) (row ∷ rows))) (declarations (limit_words full) ns rows)
          (limits_run ns rows (with_limit t n row) full f (rw no_names names) (rw no_names all) (rw (no_names, no_rows) refl) (rw no_rows (omega arith)) (rw no_names (omega (arith, few))) (rw no_rows later))
          (ap (at_place Limits) (limits_more t n ns row rows)),
    )

-- what was said after each part of the header
abbrev after_kernel : NamedTrace → NamedTrace
after_kernel t = with_kernel (with_version blank t.trace.version) t.trace.ceiling t.trace.dir_fields

abbrev after_types : NamedTrace → NamedTrace
after_types t = with_types (after_kernel t) t.names.types t.trace.types

abbrev after_limits : NamedTrace → NamedTrace
after_limits t = with_limits (after_types t) t.names.limits t.trace.limits

abbrev after_procs : NamedTrace → NamedTrace
after_procs t = with_procs (after_limits t) t.names.procs t.trace.procs

abbrev after_shared : NamedTrace → NamedTrace
after_shared t = with_shareds (after_procs t) t.names.shared

kernel_part : (t : NamedTrace) → IsTrace t → Run start (version_words t.trace.version ∷ kernel_words t.trace.ceiling t.trace.dir_fields ∷ []) (at_place Types (after_kernel t))
kernel_part t good = (
  at_place Kernel (with_version blank t.trace.version),
  OfVersion (record { version = t.trace.version; at = refl; built = good.rules.version; words = refl; after = refl }),
  (
    at_place Types (after_kernel t),
    OfKernel (record {
      ceiling = t.trace.ceiling;
      dir_fields = t.trace.dir_fields;
      at = refl;
      small = good.rules.ceiling;
      few = omega (arith, good.rules.directory);
      room = good.rules.directory_fits;
      words = refl;
      after = refl;
    }),
    refl,
  ),
)

types_part : (t : NamedTrace) → IsTrace t → Run (at_place Types (after_kernel t)) (declarations type_words t.names.types t.trace.types) (at_place Types (after_types t))
types_part t good = types_run t.names.types t.trace.types (after_kernel t) good.types_named good.type_names (omega (arith, good.types_named, good.rules.types)) (small_fields t.trace.types good.rules.fields)

limits_part : (t : NamedTrace) → IsTrace t → Run (at_place Types (after_types t)) (declarations (limit_words t.names) t.names.limits t.trace.limits) (at_place Limits (after_limits t))
limits_part t good =
    let rows = good.rules.limits in
    limits_all t.names.limits t.trace.limits (after_types t) t.names refl refl refl good.has_root good.limits_named good.limit_names (omega (arith, good.limits_named, good.rules.limit_count))
    (record { tree = rows.tree; rooted = rows.rooted; fits = rows.fits; small = rows.small }) rows.root

procs_part : (t : NamedTrace) → IsTrace t → Run (at_place Limits (after_limits t)) (declarations (proc_words t.names) t.names.procs t.trace.procs) (at_place Procs (after_procs t))
procs_part t good =
    all_procs_run t.names.procs t.trace.procs (after_limits t) good.rules.some_process good.procs_named (AreNames_front t.names.procs t.names.shared good.heap_names)
    (omega (arith, good.procs_named, good.rules.processes)) (subst (λ (n : ℕ). AllBelow n t.trace.procs) (sym good.limits_named) (below_each t.trace.procs (length t.trace.limits) good.rules.limits.limited))

abbrev first_two : NamedTrace → List (List Text)
first_two t = version_words t.trace.version ∷ kernel_words t.trace.ceiling t.trace.dir_fields ∷ []

abbrev type_lines : NamedTrace → List (List Text)
type_lines t = declarations type_words t.names.types t.trace.types

abbrev limit_lines : NamedTrace → List (List Text)
limit_lines t = declarations (limit_words t.names) t.names.limits t.trace.limits

abbrev proc_lines : NamedTrace → List (List Text)
proc_lines t = declarations (proc_words t.names) t.names.procs t.trace.procs

-- the header is a run
header_run : (t : NamedTrace) → IsTrace t → Run start (first_two t ++ type_lines t ++ limit_lines t ++ proc_lines t) (at_place Procs (after_procs t))
header_run t good =
    let types = run_then start (at_place Types (after_kernel t)) (at_place Types (after_types t)) (first_two t) (type_lines t) (kernel_part t good) (types_part t good) in
    let limits = run_then start (at_place Types (after_types t)) (at_place Limits (after_limits t)) (first_two t ++ type_lines t) (limit_lines t) types (limits_part t good) in
    run_then start (at_place Limits (after_limits t)) (at_place Procs (after_procs t)) (first_two t ++ type_lines t ++ limit_lines t) (proc_lines t) limits (procs_part t good)

-- a process's place is late
early_late : (p : Place) → IsEarly p → has_process p ≡ true
early_late p (inl e) = rw e refl
early_late p (inr e) = rw e refl

ruled : (t : NamedTrace) → IsTrace t → AreRuled (length t.trace.procs) t.trace
ruled t good = record {
  ranged = good.rules.operations.in_range;
  spelled = good.rules.operations.spelled;
  of_version = good.rules.operations.of_version;
  ends = good.rules.operations.ends;
}

all_left : (t : NamedTrace) → IsTrace t → IsLeft (length t.trace.procs) t.trace (after_shared t).trace (operations_of t.trace) t.trace.order
all_left t good = record {
  each = λ q below. ap (λ (xs : List Op). xs ++ operations_of t.trace q) (none_at t.trace.procs q);
  counted = good.rules.operations.counted;
  below = good.rules.operations.ordered;
  listed = length-map t.trace.procs (λ p. []);
  room = omega (arith, good.rules.operations.room);
  alike = record { types = refl; shared = omega (arith, good.shared_named); procs = refl; limits = refl; version = refl };
}

-- a run from the start over all lines, that says the trace
record IsWhole (t : NamedTrace) : Type 0 where
  pub end : SoFar
  pub run : Run start (words t) end
  pub late : has_process end.place ≡ true
  pub said : end.said ≡ t

said_is : (e t : NamedTrace) → e.names ≡ t.names → e.trace ≡ t.trace → e ≡ t
said_is e t p q = ap (λ (n : DeclaredNames). let r : NamedTrace = record { names = n; trace = e.trace } in r) p ∙ ap (λ (x : Trace). let r : NamedTrace = record { names = t.names; trace = x } in r) q

with_parts : NamedTrace → ℕ → ℕ → List (List Op) → List ℕ → Trace
with_parts t version shared_heaps operations order = record t.trace { version = version; shared_heaps = shared_heaps; operations = operations; order = order }

trace_is : (t : NamedTrace) (version shared_heaps : ℕ) (operations : List (List Op)) (order : List ℕ) → version ≡ t.trace.version → shared_heaps ≡ t.trace.shared_heaps → operations ≡ t.trace.operations
    → order ≡ t.trace.order → with_parts t version shared_heaps operations order ≡ t.trace
unfolding with_parts
trace_is t version shared_heaps operations order a b c d = rw (a, b, c, d) refl

end_said : (t : NamedTrace) → IsTrace t → (c : SoFar) (wss : List (List Text)) → c.said ≡ after_shared t → (r : OpRun (length t.trace.procs) t.trace c wss t.trace.order) → r.end.said ≡ t
unfolding with_parts
end_said t good c wss e r =
    let whole : r.end.said.trace ≡ record (after_shared t).trace { operations = r.end.said.trace.operations; order = r.end.said.trace.order }
    = r.same ∙ ap (λ (x : NamedTrace). let y : Trace = record x.trace { operations = r.end.said.trace.operations; order = r.end.said.trace.order } in y) e in
    let ops : r.end.said.trace.operations ≡ t.trace.operations = ext_get_or [] r.end.said.trace.operations t.trace.operations (r.listed ∙ sym good.rules.operations.each)
    (λ q lt. r.each q (omega (arith, lt, r.listed))) in
    let order : r.end.said.trace.order ≡ t.trace.order = r.order ∙ ap (λ (x : NamedTrace). x.trace.order ++ t.trace.order) e in
    said_is r.end.said t (r.names ∙ ap (λ (x : NamedTrace). x.names) e)
    (whole ∙ trace_is t t.trace.version (0 + length t.names.shared) r.end.said.trace.operations r.end.said.trace.order refl (omega (arith, good.shared_named)) ops order)

-- a trace is a run
whole : (t : NamedTrace) → IsTrace t → IsWhole t
whole t good =
    let heaps = shared_run t.names.shared Procs (after_procs t) (inl refl) good.heap_names (omega (arith, good.shared_named, good.rules.shared)) in
    let late = early_late heaps.place heaps.early in
    let ops = ops_run t.trace.order heaps.place (length t.trace.procs) t.trace (after_shared t) (operations_of t.trace) late good.procs_named (all_left t good) (ruled t good) in
    record {
      end = ops.end;
      run = run_then start (at_place heaps.place (after_shared t)) ops.end (header_words t) (operation_lines t.names (operations_of t.trace) t.trace.order)
          (run_then start (at_place Procs (after_procs t)) (at_place heaps.place (after_shared t)) (first_two t ++ type_lines t ++ limit_lines t ++ proc_lines t) (map shared_words t.names.shared) (header_run t good) heaps.run) ops.run;
      late = ops.late;
      said = end_said t good (at_place heaps.place (after_shared t)) (operation_lines t.names (operations_of t.trace) t.trace.order) refl ops;
    }

ending : (n : ℕ) (c : SoFar) → has_process c.place ≡ true → at_end n (Ok c) ≡ Ok c.said
ending n c late = rw late refl

-- bytes that spell a trace are judged to be it
pub complete : (bytes : Text) (t : NamedTrace) → Spells bytes t → judgement bytes ≡ Ok t
unfolding judgement
complete bytes t h =
    let w = whole t h.is_trace in
    let proper = run_proper start w.end (words t) [] (refl, refl) w.run in
    let lines = lines_of_bytes bytes (words t) (omega arith) proper h.is_text in
    let judged = run_again 1 start w.end (words t) [] (refl, refl) w.run in
    rw (le-leb (length bytes) 16777216 h.few)
    (ap (at_end (length (lines_of bytes) + 1)) (ap (judged_lines 1 start) lines ∙ judged) ∙ ending (length (lines_of bytes) + 1) w.end w.late ∙ ap (λ (x : NamedTrace). let r : Result NamedTrace BadLine = Ok x in r) w.said)
