-- The trace keeps the rules of traces.
use Rattle.std.proofs.Common.{◌≡◌, ◌∙◌, ℕ, zero, suc, ◌+◌, ◌<◌, ◌≤◌, ◌^◌, refl, sym, ap, subst, List, [], ◌∷◌, length, map, replicate, Option, Some, None, arith}
use Rattle.std.specs.List.{flat_map}
use Rattle.std.proofs.lemmas.List.{get_or-replicate, length-replicate}
use Rattle.k_types.specs.declared.names.LimitId.{LimitId}
use Rattle.k_types.specs.declared.setup.LimitRow.{LimitRow}
use Rattle.k_types.specs.Limits.{use_within, max_of}
use Rattle.k_types.specs.Numbers.{numbers_below}
use Rattle.k_types.specs.Trace.{no_row, row_of, operations_of}
use Rattle.k_types.specs.TraceRules.{AreLimits, AreOperations, IsTree, EndsWithExit}
use Rattle.k_trace.specs.Rules.{IsTrace}
use Rattle.k_big.specs.Workload.{big_trace, operations_for, processes, root, share, turns}
use Rattle.k_big.proofs.Bounds.{few_operations, operations_end, operations_ranged, operations_spelled, operations_versioned, short_pieces, turns_counted, turns_known}
use Rattle.k_big.proofs.Declared.{bare_is_trace}
use Rattle.k_types.proofs.Lists.{at_number}

-- the rows of the limits
abbrev rows : ℕ → List LimitRow
rows objects = root objects ∷ replicate processes (share objects)

share_at : (objects k : ℕ) → k < 8 → row_of (rows objects) (suc k) ≡ share objects
share_at objects k inside = get_or-replicate 8 k (share objects) no_row inside

tree : (objects : ℕ) → IsTree (rows objects)
tree objects zero parent inside e = absurd cc
tree objects (suc k) parent inside e =
    let own : Some (record { 0 = 0 }) ≡ Some parent = sym (ap (λ (row : LimitRow). row.parent) (share_at objects k (omega (arith, inside)))) ∙ e in
    let same : ◌≡◌ {A = LimitId} (record { 0 = 0 }) parent = cc in
    let zeroth : 0 ≡ parent.0 = ap (λ (m : LimitId). m.0) same in
    omega (arith, zeroth)

rooted : (objects m : ℕ) → m < 9 → (row_of (rows objects) m).parent ≡ None → m ≡ 0
rooted objects zero inside e = refl
rooted objects (suc k) inside e =
    let own : ◌≡◌ {A = Option LimitId} (Some (record { 0 = 0 })) None = sym (ap (λ (row : LimitRow). row.parent) (share_at objects k (omega (arith, inside)))) ∙ e in
    absurd cc

fits : (objects m : ℕ) → m < 9 → use_within (rows objects) (λ q. 0) 9 m ≤ max_of (rows objects) m
unfolding use_within
fits objects zero inside = omega arith
fits objects (suc zero) inside = omega arith
fits objects (suc (suc zero)) inside = omega arith
fits objects (suc (suc (suc zero))) inside = omega arith
fits objects (suc (suc (suc (suc zero)))) inside = omega arith
fits objects (suc (suc (suc (suc (suc zero))))) inside = omega arith
fits objects (suc (suc (suc (suc (suc (suc zero)))))) inside = omega arith
fits objects (suc (suc (suc (suc (suc (suc (suc zero))))))) inside = omega arith
fits objects (suc (suc (suc (suc (suc (suc (suc (suc zero)))))))) inside = omega arith
fits objects (suc (suc (suc (suc (suc (suc (suc (suc (suc m))))))))) inside = absurd (omega (arith, inside))

small : (objects m : ℕ) → objects ≤ 5000 → m < 9 → max_of (rows objects) m < 2 ^ 40
small objects zero few inside = omega (arith, few)
small objects (suc k) few inside =
    let own = ap (λ (row : LimitRow). row.max) (share_at objects k (omega (arith, inside))) in
    omega (arith, few, own)

limits_kept : (objects : ℕ) → objects ≤ 5000 → AreLimits (big_trace objects).trace
limits_kept objects few = record {
  tree = tree objects;
  root = refl;
  rooted = rooted objects;
  limited = bare_is_trace.rules.limits.limited;
  fits = fits objects;
  small = λ m inside. small objects m few inside;
}

-- a process's operations in the trace
own_operations : (objects p : ℕ) → p < 8 → operations_of (big_trace objects).trace p ≡ operations_for objects p
own_operations objects p inside = let same : 0 + p ≡ p = omega arith in at_number (operations_for objects) 0 8 p [] inside ∙ ap (operations_for objects) same

operations_kept : (objects : ℕ) → objects ≤ 5000 → AreOperations (big_trace objects).trace
operations_kept objects few = record {
  each = refl;
  in_range = λ p inside. rw (own_operations objects p inside) (operations_ranged objects (map (operations_for objects) (numbers_below processes)) (flat_map (turns objects) (numbers_below processes)) p);
  spelled = λ p inside. rw (own_operations objects p inside) (operations_spelled objects p few inside);
  of_version = λ p inside. rw (own_operations objects p inside) (operations_versioned objects p);
  ends = λ p inside. subst EndsWithExit (sym (own_operations objects p inside)) (operations_end objects p);
  ordered = turns_known objects;
  counted = λ p inside. turns_counted objects p inside ∙ ap length (sym (own_operations objects p inside));
  room = let short = short_pieces (turns objects) 22502 0 8 (λ j. let many = few_operations objects j few in let times = length-replicate (length (operations_for objects j)) j in omega (arith, many, times)) in omega (arith, short);
}

-- the trace keeps the rules, whatever the number of objects
pub big_is_trace : (objects : ℕ) → objects ≤ 5000 → IsTrace (big_trace objects)
big_is_trace objects few = record {
  rules = record {
    version = bare_is_trace.rules.version;
    ceiling = bare_is_trace.rules.ceiling;
    directory = bare_is_trace.rules.directory;
    directory_fits = bare_is_trace.rules.directory_fits;
    types = bare_is_trace.rules.types;
    fields = bare_is_trace.rules.fields;
    limit_count = bare_is_trace.rules.limit_count;
    processes = bare_is_trace.rules.processes;
    some_process = bare_is_trace.rules.some_process;
    shared = bare_is_trace.rules.shared;
    limits = limits_kept objects few;
    operations = operations_kept objects few;
  };
  type_names = bare_is_trace.type_names;
  limit_names = bare_is_trace.limit_names;
  heap_names = bare_is_trace.heap_names;
  types_named = bare_is_trace.types_named;
  limits_named = bare_is_trace.limits_named;
  procs_named = bare_is_trace.procs_named;
  shared_named = bare_is_trace.shared_named;
  has_root = bare_is_trace.has_root;
}
