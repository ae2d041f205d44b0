-- The operations of a trace are a run.
use Rattle.std.proofs.Common.{◌≡◌, ◌≢◌, ◌∙◌, ℕ, suc, ◌+◌, ◌<◌, ◌≤◌, Bool, true, false, cond, ◌&&◌, ◌||◌, ltb, List, [], ◌∷◌, ◌++◌, length, get_or, refl, sym, ap, subst, arith, inl, inr, append_assoc, eq-eqb, ne_eqb}
use Rattle.std.proofs.lemmas.Bool.{cases_eq, ltb-true}
use Rattle.std.proofs.lemmas.List.{length-append, append-nil, length-set}
use Rattle.std.proofs.lemmas.List.Folds.{list_all-append}
use Rattle.std.specs.List.{list_all}
use Rattle.k_limits.specs.k_types.declared.op.Op.{Op}
use Rattle.k_limits.specs.k_types.Trace.{Trace, operations_of}
use Rattle.k_limits.specs.k_types.Steps.{in_range}
use Rattle.k_limits.specs.k_types.TraceRules.{EndsWithExit, is_exit, is_of_version, is_spelled}
use Rattle.k_words.specs.Words.{Text}
use Rattle.k_words.proofs.Spelled.{both}
use Rattle.k_trace.specs.declared.place.Place.{Place}
use Rattle.k_trace.specs.declared.place.Place.TheVariants.{Operations}
use Rattle.k_trace.specs.Named.{NamedTrace}
use Rattle.k_trace.specs.Spelling.{first_line, after_first, operation_lines, line_words}
use Rattle.k_trace.specs.Grown.{with_op, has_exit}
use Rattle.k_trace.specs.Judgement.{SoFar, has_process}
use Rattle.k_reader.proofs.OpLists.{times, times_head, DeclareAlike, in_range_same}
use Rattle.k_reader.proofs.OpRules.{op_added}
use Rattle.k_reader.proofs.Steps.{at_place, Step, OfOperation, Run}

-- no exit stands before another operation
pub no_exit_before : (xs : List Op) (y : Op) (ys : List Op) → EndsWithExit (xs ++ y ∷ ys) → has_exit xs ≡ false
no_exit_before [] y ys ends = refl
no_exit_before (x ∷ xs) y ys ends =
    let later : has_exit xs ≡ false = no_exit_before xs y ys (λ first op rest e exit. ends (x ∷ first) op rest (ap (λ (ops : List Op). x ∷ ops) e) exit) in
    by_test (is_exit x) refl later
  where
    some_left : (zs : List Op) → zs ++ y ∷ ys ≡ [] → ⊥
    some_left [] e = absurd cc
    some_left (z ∷ zs) e = absurd cc

    by_test : (b : Bool) → is_exit x ≡ b → has_exit xs ≡ false → (b || has_exit xs) ≡ false
    by_test true e later = absurd (some_left xs (ends [] x (xs ++ y ∷ ys) refl e))
    by_test false e later = later

-- what is left to be done of the operations, each process's in order
pub record IsLeft (n : ℕ) (whole : Trace) (t : Trace) (f : ℕ → List Op) (order : List ℕ) : Type 0 where
  pub each : (q : ℕ) → q < n → get_or t.operations q [] ++ f q ≡ operations_of whole q
  pub counted : (q : ℕ) → q < n → times q order ≡ length (f q)
  pub below : list_all (λ q. ltb q n) order ≡ true
  pub listed : length t.operations ≡ n
  pub room : length t.order + length order ≤ 200000
  pub alike : DeclareAlike t whole

-- the rules of each process's operations
pub record AreRuled (n : ℕ) (whole : Trace) : Type 0 where
  pub ranged : (q : ℕ) → q < n → list_all (in_range whole) (operations_of whole q) ≡ true
  pub spelled : (q : ℕ) → q < n → list_all is_spelled (operations_of whole q) ≡ true
  pub of_version : (q : ℕ) → q < n → list_all (is_of_version whole.version) (operations_of whole q) ≡ true
  pub ends : (q : ℕ) → q < n → EndsWithExit (operations_of whole q)

-- a process that stands first in the order has an operation left
some_left : (xs : List Op) (n : ℕ) → n + 1 ≡ length xs → (op : Op) × (ops : List Op) × (xs ≡ op ∷ ops)
some_left [] n e = absurd (omega (arith, e))
some_left (x ∷ xs) n e = (x, xs, refl)

times_first : (p : ℕ) (order : List ℕ) → times p (p ∷ order) ≡ times p order + 1
times_first p order = times_head p p order ∙ ap (λ (b : Bool). times p order + cond b 1 0) (eq-eqb p p refl)

times_other : (p q : ℕ) (order : List ℕ) → q ≢ p → times p (q ∷ order) ≡ times p order
times_other p q order ne = times_head p q order ∙ ap (λ (b : Bool). times p order + cond b 1 0) (ne_eqb q p ne) ∙ omega arith

all_at : (test : Op → Bool) (xs : List Op) (op : Op) (ops ys : List Op) → list_all test ys ≡ true → xs ++ op ∷ ops ≡ ys → test op ≡ true
all_at test xs op ops ys all e =
    let h : (list_all test xs && (test op && list_all test ops)) ≡ true = sym (list_all-append test xs (op ∷ ops)) ∙ ap (list_all test) e ∙ all in
    (both (test op) (list_all test ops) (both (list_all test xs) (test op && list_all test ops) h).1).0

-- one operation is done
pub done_one : (n : ℕ) (whole : Trace) (t : NamedTrace) (f : ℕ → List Op) (p : ℕ) (order : List ℕ) (op : Op) (ops : List Op) → f p ≡ op ∷ ops → p < n → IsLeft n whole t.trace f (p ∷ order)
    → IsLeft n whole (with_op t p op).trace (after_first p f) order
done_one n whole t f p order op ops first lt left = record {
  each = λ q below. each q below;
  counted = λ q below. counted q below;
  below = (both (ltb p n) (list_all (λ q. ltb q n) order) left.below).1;
  listed = length-set t.trace.operations p (operations_of t.trace p ++ op ∷ []) ∙ left.listed;
  room = omega (arith, left.room, length-append t.trace.order (p ∷ []));
  alike = record {
    types = left.alike.types;
    shared = left.alike.shared;
    procs = left.alike.procs;
    limits = left.alike.limits;
    version = left.alike.version;
  };
}
  where
    each : (q : ℕ) → q < n → get_or (with_op t p op).trace.operations q [] ++ after_first p f q ≡ operations_of whole q
    each q below = elim (cases_eq q p) [
      | inl same ↦
          let added : get_or (with_op t p op).trace.operations q [] ≡ get_or t.trace.operations q [] ++ op ∷ []
          = op_added t.trace.operations p op (omega (arith, left.listed, lt)) q ∙ rw (eq-eqb q p same) refl in
          let dropped : after_first p f q ≡ ops = rw (eq-eqb q p same, same, first) refl in
          let left_of : f q ≡ op ∷ ops = rw same first in
          rw (added, dropped) (append_assoc (get_or t.trace.operations q []) (op ∷ []) ops ∙ ap (λ (xs : List Op). get_or t.trace.operations q [] ++ xs) (sym left_of) ∙ left.each q below)
      | inr other ↦
          let added : get_or (with_op t p op).trace.operations q [] ≡ get_or t.trace.operations q []
          = op_added t.trace.operations p op (omega (arith, left.listed, lt)) q ∙ rw (ne_eqb q p other) refl in
          let dropped : after_first p f q ≡ f q = rw (ne_eqb q p other) refl in
          rw (added, dropped) (left.each q below)
    ]

    counted : (q : ℕ) → q < n → times q order ≡ length (after_first p f q)
    counted q below = elim (cases_eq q p) [
      | inl same ↦
          let dropped : after_first p f q ≡ ops = rw (eq-eqb q p same, same, first) refl in
          let here : times q order + 1 ≡ length (f q) = sym (times_first q order) ∙ subst (λ (r : ℕ). times q (r ∷ order) ≡ length (f q)) (sym same) (left.counted q below) in
          let left_of : f q ≡ op ∷ ops = rw same first in
          let there : length (f q) ≡ suc (length ops) = ap length left_of in
          rw dropped (omega (arith, here, there))
      | inr other ↦
          let dropped : after_first p f q ≡ f q = rw (ne_eqb q p other) refl in
          rw dropped (sym (times_other q p order (λ e. other (sym e))) ∙ left.counted q below)
    ]

op_step : (place : Place) (n : ℕ) (whole : Trace) (t : NamedTrace) (f : ℕ → List Op) (p : ℕ) (order : List ℕ) (op : Op) (ops : List Op) → has_process place ≡ true → f p ≡ op ∷ ops → p < n
    → length t.names.procs ≡ n → IsLeft n whole t.trace f (p ∷ order) → AreRuled n whole → Step (at_place place t) (line_words t.names p op) (at_place Operations (with_op t p op))
op_step place n whole t f p order op ops late first lt named left ruled =
    let e : get_or t.trace.operations p [] ++ op ∷ ops ≡ operations_of whole p = ap (λ (xs : List Op). get_or t.trace.operations p [] ++ xs) (sym first) ∙ left.each p lt in
    OfOperation (record {
      process = p;
      op = op;
      at = late;
      declared = omega (arith, named, lt);
      ranged = in_range_same t.trace whole op left.alike ∙ all_at (in_range whole) (get_or t.trace.operations p []) op ops (operations_of whole p) (ruled.ranged p lt) e;
      spelled = all_at is_spelled (get_or t.trace.operations p []) op ops (operations_of whole p) (ruled.spelled p lt) e;
      of_version = ap (λ (v : ℕ). is_of_version v op) left.alike.version
          ∙ all_at (is_of_version whole.version) (get_or t.trace.operations p []) op ops (operations_of whole p) (ruled.of_version p lt) e;
      few = omega (arith, left.room);
      lives = no_exit_before (get_or t.trace.operations p []) op ops (subst EndsWithExit (sym e) (ruled.ends p lt));
      words = refl;
      after = refl;
    })

-- where a run of operations ends: with all of them done
pub record OpRun (n : ℕ) (whole : Trace) (c : SoFar) (wss : List (List Text)) (left : List ℕ) : Type 0 where
  pub end : SoFar
  pub run : Run c wss end
  pub late : has_process end.place ≡ true
  pub names : end.said.names ≡ c.said.names
  pub same : end.said.trace ≡ record c.said.trace { operations = end.said.trace.operations; order = end.said.trace.order }
  pub order : end.said.trace.order ≡ c.said.trace.order ++ left
  pub listed : length end.said.trace.operations ≡ n
  pub each : (q : ℕ) → q < n → get_or end.said.trace.operations q [] ≡ operations_of whole q

empty_is : (xs : List Op) → 0 ≡ length xs → xs ≡ []
empty_is [] e = refl
empty_is (x ∷ xs) e = absurd cc

pub ops_run : (order : List ℕ) (place : Place) (n : ℕ) (whole : Trace) (t : NamedTrace) (f : ℕ → List Op) → has_process place ≡ true → length t.names.procs ≡ n → IsLeft n whole t.trace f order → AreRuled n whole
    → OpRun n whole (at_place place t) (operation_lines t.names f order) order
ops_run [] place n whole t f late named left ruled = record {
  end = at_place place t;
  run = refl;
  late = late;
  names = refl;
  same = refl;
  order = sym (append-nil t.trace.order);
  listed = left.listed;
  each = λ q below. sym (append-nil (get_or t.trace.operations q [])) ∙ ap (λ (xs : List Op). get_or t.trace.operations q [] ++ xs) (sym (empty_is (f q) (left.counted q below))) ∙ left.each q below;
}
ops_run (p ∷ order) place n whole t f late named left ruled =
    let lt : p < n = ltb-true _ _ (both (ltb p n) (list_all (λ q. ltb q n) order) left.below).0 in
    let first = some_left (f p) (times p order) (sym (times_first p order) ∙ left.counted p lt) in
    let rest = ops_run order Operations n whole (with_op t p first.0) (after_first p f) refl named (done_one n whole t f p order first.0 first.1 first.2 lt left) ruled in
    let step = op_step place n whole t f p order first.0 first.1 late first.2 lt named left ruled in
    record {
      end = rest.end;
      run = subst (λ (l : List (List Text)). Run (at_place place t) (l ++ operation_lines t.names (after_first p f) order) rest.end) (sym (ap (first_line t.names p) first.2))
          (at_place Operations (with_op t p first.0), step, rest.run);
      late = rest.late;
      names = rest.names;
      same = rest.same;
      order = rest.order ∙ append_assoc t.trace.order (p ∷ []) order;
      listed = rest.listed;
      each = rest.each;
    }
