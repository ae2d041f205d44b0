-- The rules of a trace and completeness, judged by tests that are computed.
use Rattle.std.proofs.Common.{◌≡◌, ℕ, zero, suc, ◌+◌, ◌^◌, ◌<◌, ◌≤◌, ◌==◌, ◌&&◌, ◌||◌, not, Bool, true, false, cond, refl, sym, ap, ◌∙◌, List, [], ◌∷◌, ◌++◌, append-nil, length, count_by, nat_lt, nat_le, slice_index_or, ltb-true, lit<, Option, Some, None, IsTrue, arith, map, ap₂, subst, IsFalse, eqb-true}
use Rattle.std.specs.List.{list_all}
use Rattle.std.proofs.lemmas.Bool.{false≢true, and_parts, leb-true}
use Rattle.std.proofs.lemmas.Bool.Decides.{nat_tests}
use Rattle.k_types.specs.declared.names.LimitId.{LimitId}
use Rattle.k_types.specs.declared.names.TypeId.{TypeId}
use Rattle.k_types.specs.declared.setup.LimitRow.{LimitRow}
use Rattle.k_types.specs.declared.op.Op.{Op}
use Rattle.k_types.specs.declared.event.Event.{Event}
use Rattle.k_types.specs.declared.event.Event.TheVariants.{Done, Ended, Absorbed, Closing}
use Rattle.k_types.specs.Limits.{use_within, max_of}
use Rattle.k_types.specs.declared.names.Field.{Field}
use Rattle.k_types.specs.declared.names.Field.TheVariants.{Ref, Int}
use Rattle.k_types.specs.Types.{type_row}
use Rattle.k_types.specs.State.{State}
use Rattle.k_types.specs.Numbers.{numbers_below, numbers_from}
use Rattle.k_types.specs.Steps.{in_range, done_by, state_after, no_orphan}
use Rattle.k_types.specs.Trace.{operations_of, row_of, Trace}
use Rattle.k_types.specs.TraceRules.{KeepsRules, AreLimits, AreOperations, EndsWithExit, is_exit, is_spelled, is_of_version}
use Rattle.k_types.specs.Complete.{IsComplete, EndsWithClosing, all_ended, IsPrefixOf}
use Rattle.k_types.proofs.Numbered.{all_at_below, occurrences, occurrences_count}
use Rattle.k_rows.specs.Words.{Header, trace_doing, doers, Undone, undone_by, trace_asking}
use Rattle.k_types.specs.Names.{among}
use Rattle.std.proofs.lemmas.List.{length-append}
use Rattle.k_types.proofs.Lists.{mapped_length}

-- the parent stands before its child
abbrev parent_before : Option LimitId → ℕ → Bool
parent_before None m = m == 0
parent_before (Some parent) m = nat_lt parent.0 m

-- the row of that number is as the rules ask
abbrev row_test : List LimitRow → ℕ → Bool
row_test rows m =
    parent_before (row_of rows m).parent m
    && (nat_le (use_within rows (λ q. 0) (length rows) m) (max_of rows m) && nat_lt (max_of rows m) (2 ^ 40))

-- the limits are as the rules ask
abbrev pub limits_test : Header → Bool
limits_test header =
    list_all (row_test header.limits) (numbers_below (length header.limits))
    && ((row_of header.limits 0).hard && list_all (λ (m : LimitId). nat_lt m.0 (length header.limits)) header.procs)

-- there is nothing in the list
abbrev is_nil : List Op → Bool
is_nil [] = true
is_nil (op ∷ ops) = false

-- nothing follows an exit
abbrev exit_is_last : List Op → Bool
exit_is_last [] = true
exit_is_last (op ∷ ops) = (not (is_exit op) || is_nil ops) && exit_is_last ops

-- the operations of a process, those that the history does and those that are left undone
abbrev asked : List Event → List Undone → ℕ → List Op
asked history undone p = done_by p history ++ undone_by p undone

-- the operations of a process are as the rules ask
abbrev pub operations_test : Header → List Event → List Undone → ℕ → Bool
operations_test header history undone p =
    list_all (in_range (trace_asking header history undone)) (asked history undone p)
    && (list_all is_spelled (asked history undone p) && (list_all (is_of_version header.version) (asked history undone p) && exit_is_last (asked history undone p)))

row_tree : (parent : Option LimitId) (m : ℕ) (other : LimitId) → parent_before parent m ≡ true → parent ≡ Some other → other.0 < m
row_tree None m other test e = grind arith
row_tree (Some parent) m other test e = grind (arith, nat_tests)

row_rooted : (parent : Option LimitId) (m : ℕ) → parent_before parent m ≡ true → parent ≡ None → m ≡ 0
row_rooted None m test e = grind (arith, nat_tests)
row_rooted (Some parent) m test e = grind arith

row_fits : (rows : List LimitRow) (m : ℕ) → row_test rows m ≡ true → (use_within rows (λ q. 0) (length rows) m ≤ max_of rows m) × (max_of rows m < 2 ^ 40)
row_fits rows m test =
    let parts = and_parts _ _ (and_parts (parent_before (row_of rows m).parent m) _ test).1 in
    (leb-true _ _ parts.0, ltb-true _ _ parts.1)

nothing_after : (op : Op) (ops : List Op) → exit_is_last (op ∷ ops) ≡ true → is_exit op ≡ true → ops ≡ []
nothing_after op [] test e = refl
nothing_after op (o ∷ ops) test e = absurd (false≢true (sym (ap (λ b. (not b || false) && exit_is_last (o ∷ ops)) e) ∙ test))

ends_well : (ops : List Op) → exit_is_last ops ≡ true → EndsWithExit ops
ends_well [] test [] op rest e exits = absurd cc
ends_well [] test (x ∷ first) op rest e exits = absurd cc
ends_well (o ∷ ops) test [] op rest e exits =
    let here : o ≡ op = cc in
    let after : ops ≡ rest = cc in
    sym after ∙ nothing_after o ops test (ap is_exit here ∙ exits)
ends_well (o ∷ ops) test (x ∷ first) op rest e exits =
    let after : ops ≡ first ++ op ∷ rest = cc in
    ends_well ops (and_parts (not (is_exit o) || is_nil ops) (exit_is_last ops) test).1 first op rest after exits

-- how often a process stands among those that do something is how much it does
done_as_often : (p : ℕ) (history : List Event) → occurrences p (doers history) ≡ length (done_by p history)
done_as_often p [] = refl
done_as_often p (Done pid op said ∷ events) = elim (pid.0 == p) as (λ b. cond b (1 + occurrences p (doers events)) (occurrences p (doers events)) ≡ length (cond b (op ∷ done_by p events) (done_by p events))) [
  | true ↦ let rest = done_as_often p events in omega (arith, rest)
  | false ↦ done_as_often p events
]
done_as_often p (Ended h a b c d ∷ events) = done_as_often p events
done_as_often p (Absorbed shared ∷ events) = done_as_often p events
done_as_often p (Closing ∷ events) = done_as_often p events

-- and how often it stands in the lines left undone is how much it leaves undone
undone_as_often : (p : ℕ) (undone : List Undone) → occurrences p (map (λ (line : Undone). line.process) undone) ≡ length (undone_by p undone)
undone_as_often p [] = refl
undone_as_often p (line ∷ lines) =
    elim (line.process == p) as (λ b. cond b (1 + occurrences p (map (λ (line : Undone). line.process) lines)) (occurrences p (map (λ (line : Undone). line.process) lines)) ≡ length (cond b (line.op ∷ undone_by p lines) (undone_by p lines))) [
      | true ↦ let rest = undone_as_often p lines in omega (arith, rest)
      | false ↦ undone_as_often p lines
    ]

occurrences_append : (p : ℕ) (xs ys : List ℕ) → occurrences p (xs ++ ys) ≡ occurrences p xs + occurrences p ys
occurrences_append p [] ys = omega arith
occurrences_append p (x ∷ xs) ys =
    elim (x == p) as (λ b. cond b (1 + occurrences p (xs ++ ys)) (occurrences p (xs ++ ys)) ≡ cond b (1 + occurrences p xs) (occurrences p xs) + occurrences p ys) [
      | true ↦ omega (arith, occurrences_append p xs ys)
      | false ↦ omega (arith, occurrences_append p xs ys)
    ]

-- what stands at a place of numbers in a row that are mapped
mapped_at : (f : ℕ → List Op) (first n k : ℕ) → k < n → slice_index_or (map f (numbers_from first n)) k [] ≡ f (first + k)
mapped_at f first zero k inside = absurd (omega arith)
mapped_at f first (suc n) zero inside = ap f (omega arith)
mapped_at f first (suc n) (suc k) inside = mapped_at f (suc first) n k (omega (arith, inside)) ∙ ap f (omega arith)

module _ (header : Header) (history : List Event) (undone : List Undone) where
  abbrev of_all : Trace
  of_all = trace_asking header history undone

  its_operations : (p : ℕ) → p < length header.procs → operations_of of_all p ≡ asked history undone p
  its_operations p inside = mapped_at (asked history undone) 0 (length header.procs) p inside ∙ ap (asked history undone) (omega arith)

  counted_well : (p : ℕ) → p < length header.procs → count_by (λ q. q == p) of_all.order ≡ length (operations_of of_all p)
  counted_well p inside =
      sym (occurrences_count p of_all.order)
      ∙ occurrences_append p (doers history) (map (λ (line : Undone). line.process) undone)
      ∙ ap₂ (λ a b. a + b) (done_as_often p history) (undone_as_often p undone)
      ∙ sym (length-append (done_by p history) (undone_by p undone))
      ∙ sym (ap length (its_operations p inside))

-- the sizes of a header are as the rules ask, and so is its version
abbrev pub sizes_test : Header → Bool
sizes_test header =
    (nat_le (length header.limits) 128 && nat_le header.shared_heaps 64)
    && ((nat_lt 0 header.version && nat_le header.version 2) && (nat_lt 0 (length header.procs) && nat_le (length header.procs) 64))

-- the operations of all processes are as the rules ask, and so is their order
abbrev pub asked_test : Header → List Event → List Undone → Bool
asked_test header history undone =
    list_all (operations_test header history undone) (numbers_below (length header.procs))
    && (list_all (λ p. nat_lt p (length header.procs)) (trace_asking header history undone).order && nat_le (length (trace_asking header history undone).order) 200000)

-- the same where nothing is left undone
abbrev pub history_test : Header → List Event → Bool
history_test header history = asked_test header history []

on_limit : (limits : ℕ) (procs : List LimitId) → list_all (λ (m : LimitId). nat_lt m.0 limits) procs ≡ true → (p : ℕ) → p < length procs → (slice_index_or procs p (record { 0 = 0 })).0 < limits
on_limit limits [] test p inside = absurd (omega arith)
on_limit limits (m ∷ procs) test zero inside = ltb-true _ _ (and_parts (nat_lt m.0 limits) _ test).0
on_limit limits (m ∷ procs) test (suc p) inside = on_limit limits procs (and_parts (nat_lt m.0 limits) _ test).1 p (omega (arith, inside))

limits_kept : (header : Header) (history : List Event) (undone : List Undone) → limits_test header ≡ true → AreLimits (trace_asking header history undone)
limits_kept header history undone test =
    let parts = and_parts (list_all (row_test header.limits) (numbers_below (length header.limits))) _ test in
    let rest = and_parts (row_of header.limits 0).hard _ parts.1 in
    let each = λ (m : ℕ) (inside : m < length header.limits). all_at_below (row_test header.limits) (length header.limits) m parts.0 inside in
    record {
      tree = λ m parent inside e. row_tree (row_of header.limits m).parent m parent (and_parts (parent_before (row_of header.limits m).parent m) _ (each m inside)).0 e;
      root = rest.0;
      rooted = λ m inside e. row_rooted (row_of header.limits m).parent m (and_parts (parent_before (row_of header.limits m).parent m) _ (each m inside)).0 e;
      limited = λ p inside. on_limit (length header.limits) header.procs rest.1 p inside;
      fits = λ m inside. (row_fits header.limits m (each m inside)).0;
      small = λ m inside. (row_fits header.limits m (each m inside)).1;
    }

operations_kept : (header : Header) (history : List Event) (undone : List Undone) → asked_test header history undone ≡ true → AreOperations (trace_asking header history undone)
operations_kept header history undone test =
    let parts = and_parts (list_all (operations_test header history undone) (numbers_below (length header.procs))) _ test in
    let order = and_parts (list_all (λ p. nat_lt p (length header.procs)) (trace_asking header history undone).order) _ parts.1 in
    let each = λ (p : ℕ) (inside : p < length header.procs). all_at_below (operations_test header history undone) (length header.procs) p parts.0 inside in
    let its = λ (p : ℕ) (inside : p < length header.procs). sym (its_operations header history undone p inside) in
    let ranged = λ (p : ℕ) (inside : p < length header.procs). and_parts (list_all (in_range (trace_asking header history undone)) (asked history undone p)) _ (each p inside) in
    let spelled = λ (p : ℕ) (inside : p < length header.procs). and_parts (list_all is_spelled (asked history undone p)) _ (ranged p inside).1 in
    let versioned = λ (p : ℕ) (inside : p < length header.procs). and_parts (list_all (is_of_version header.version) (asked history undone p)) _ (spelled p inside).1 in
    record {
      each = mapped_length (asked history undone) 0 (length header.procs);
      in_range = λ p inside. subst (λ ops. IsTrue (list_all (in_range (trace_asking header history undone)) ops)) (its p inside) (ranged p inside).0;
      spelled = λ p inside. subst (λ ops. IsTrue (list_all is_spelled ops)) (its p inside) (spelled p inside).0;
      of_version = λ p inside. subst (λ ops. IsTrue (list_all (is_of_version header.version) ops)) (its p inside) (versioned p inside).0;
      ends = λ p inside. subst EndsWithExit (its p inside) (ends_well (asked history undone p) (versioned p inside).1);
      ordered = order.0;
      counted = counted_well header history undone;
      room = leb-true _ _ order.1;
    }

few_fields : (types : List (List Field)) → types ≡ (Ref ∷ Ref ∷ Int ∷ []) ∷ [] → (ty : TypeId) → length (type_row types ty) ≤ 16
few_fields types e ty = rw e (one_row ty.0)
  where
    one_row : (i : ℕ) → length (slice_index_or ((Ref ∷ Ref ∷ Int ∷ []) ∷ []) i []) ≤ 16
    one_row zero = omega arith
    one_row (suc i) = omega arith

pub asked_kept : (header : Header) (history : List Event) (undone : List Undone) → limits_test header ≡ true → sizes_test header ≡ true → asked_test header history undone ≡ true → KeepsRules (trace_asking header history undone)
asked_kept header history undone limits sizes operations =
    let parts = and_parts (nat_le (length header.limits) 128 && nat_le header.shared_heaps 64) _ sizes in
    let counts = and_parts (nat_le (length header.limits) 128) (nat_le header.shared_heaps 64) parts.0 in
    let others = and_parts (nat_lt 0 header.version && nat_le header.version 2) _ parts.1 in
    let version = and_parts (nat_lt 0 header.version) (nat_le header.version 2) others.0 in
    let procs = and_parts (nat_lt 0 (length header.procs)) (nat_le (length header.procs) 64) others.1 in
    record {
      version = (ltb-true _ _ version.0, leb-true _ _ version.1);
      ceiling = lit< tt;
      directory = omega arith;
      directory_fits = omega arith;
      types = omega arith;
      fields = few_fields _ refl;
      limit_count = leb-true _ _ counts.0;
      processes = leb-true _ _ procs.1;
      some_process = ltb-true _ _ procs.0;
      shared = leb-true _ _ counts.1;
      limits = limits_kept header history undone limits;
      operations = operations_kept header history undone operations;
    }

pub rules_kept : (header : Header) (history : List Event) → limits_test header ≡ true → sizes_test header ≡ true → history_test header history ≡ true → KeepsRules (trace_doing header history)
rules_kept header history limits sizes operations = asked_kept header history [] limits sizes operations

-- what the history does of each process comes first among its operations
first_operations : (header : Header) (history : List Event) (undone : List Undone) (p : ℕ) → p < length header.procs → IsPrefixOf (done_by p history) (operations_of (trace_asking header history undone) p)
first_operations header history undone p inside = (undone_by p undone, sym (its_operations header history undone p inside))

-- and where no line of the process is left undone it is all of them
all_operations : (header : Header) (history : List Event) (undone : List Undone) (p : ℕ) → p < length header.procs → undone_by p undone ≡ [] → done_by p history ≡ operations_of (trace_asking header history undone) p
all_operations header history undone p inside none =
    sym (its_operations header history undone p inside ∙ ap (λ ops. done_by p history ++ ops) none ∙ append-nil (done_by p history))

-- the state after a worked history
abbrev after : Header → List Event → List Undone → State
after header history undone = state_after (trace_asking header history undone) history

-- lines are left undone by those alone who have ended
none_undone : (ended : List ℕ) (undone : List Undone) (p : ℕ) → list_all (λ (line : Undone). among line.process ended) undone ≡ true → IsFalse (among p ended) → undone_by p undone ≡ []
none_undone ended [] p test lives = refl
none_undone ended (line ∷ lines) p test lives =
    let parts = and_parts (among line.process ended) _ test in
    let rest = none_undone ended lines p parts.1 lives in
    elim (line.process == p) as (λ b. (line.process == p) ≡ b → cond b (line.op ∷ undone_by p lines) (undone_by p lines) ≡ []) [
      | true ↦ λ e. absurd (false≢true (sym lives ∙ ap (λ k. among k ended) (sym (eqb-true line.process p e)) ∙ parts.0))
      | false ↦ λ e. rest
    ] refl

pub is_cut : (header : Header) (history : List Event) (undone : List Undone) → (after header history undone).scans ≡ [] → list_all (λ (line : Undone). among line.process (after header history undone).ended) undone ≡ true →
    all_ended (trace_asking header history undone) (after header history undone) ≡ false → IsComplete (trace_asking header history undone) history
is_cut header history undone scans over going = record {
  in_order = first_operations header history undone;
  all = λ p inside lives. all_operations header history undone p inside (none_undone (after header history undone).ended undone p over lives);
  no_scan = scans;
  no_orphan = λ ended. absurd (false≢true (sym going ∙ ended));
  ends = λ ended. absurd (false≢true (sym going ∙ ended));
}

pub is_complete : (header : Header) (history : List Event) → (after header history []).scans ≡ [] → all_ended (trace_doing header history) (after header history []) ≡ false → IsComplete (trace_doing header history) history
is_complete header history scans going = is_cut header history [] scans refl going

pub is_closed : (header : Header) (history : List Event) → (after header history []).scans ≡ [] → no_orphan (trace_doing header history) (after header history []) ≡ true → EndsWithClosing history → IsComplete (trace_doing header history) history
is_closed header history scans orphans closing = record {
  in_order = first_operations header history [];
  all = λ p inside lives. all_operations header history [] p inside refl;
  no_scan = scans;
  no_orphan = λ ended. orphans;
  ends = λ ended. closing;
}
