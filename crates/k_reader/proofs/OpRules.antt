-- The rules of operations are kept by a new process and by one operation more.
use Rattle.std.proofs.Common.{◌≡◌, ◌∙◌, ℕ, zero, suc, ◌+◌, ◌<◌, Bool, true, false, cond, eqb, ltb, List, [], ◌∷◌, ◌++◌, length, map, get_or, set, refl, sym, ap, subst, arith, inl, inr, eq-eqb, ne_eqb}
use Rattle.std.proofs.lemmas.Bool.{eqb-true, cases_eq, lt-ltb}
use Rattle.std.proofs.lemmas.List.{length-append, length-map, get_or-set_same, get_or-set_other, length-set}
use Rattle.std.proofs.lemmas.List.Folds.{list_all-append}
use Rattle.std.specs.List.{list_all}
use Rattle.k_limits.specs.k_types.declared.op.Op.{Op}
use Rattle.k_limits.specs.k_types.declared.names.LimitId.{LimitId}
use Rattle.k_limits.specs.k_types.Trace.{Trace, operations_of, process_count}
use Rattle.k_limits.specs.k_types.Steps.{in_range}
use Rattle.k_limits.specs.k_types.TraceRules.{EndsWithExit, AreOperations, is_of_version, is_spelled}
use Rattle.k_trace.specs.Grown.{has_exit}
use Rattle.k_reader.proofs.OpLists.{times_push, Adds, DeclareAlike, in_range_same, all_same, ends_push, ends_nil}

-- no operation of any process
abbrev pub none_each : List LimitId → List (List Op)
none_each procs = map (λ p. []) procs

pub none_at : (procs : List LimitId) (p : ℕ) → get_or (none_each procs) p [] ≡ []
none_at [] p = refl
none_at (l ∷ procs) zero = refl
none_at (l ∷ procs) (suc p) = none_at procs p

-- where no process has an operation
pub no_operations : (trace : Trace) → trace.operations ≡ none_each trace.procs → trace.order ≡ [] → AreOperations trace
no_operations trace e f = record {
  each = ap length e ∙ length-map trace.procs (λ p. []);
  in_range = λ p lt. rw (e, none_at trace.procs p) refl;
  spelled = λ p lt. rw (e, none_at trace.procs p) refl;
  of_version = λ p lt. rw (e, none_at trace.procs p) refl;
  ends = λ p lt. subst EndsWithExit (sym (ap (λ (ops : List (List Op)). get_or ops p []) e ∙ none_at trace.procs p)) ends_nil;
  ordered = rw f refl;
  counted = λ p lt. rw (e, f, none_at trace.procs p) refl;
  room = rw f (omega arith);
}

set_at : (t : Bool) (ops : List (List Op)) (p q : ℕ) (x : List Op) → eqb q p ≡ t → p < length ops → get_or (set ops p x) q [] ≡ cond t x (get_or ops q [])
set_at true ops p q x e lt = let f : q ≡ p = eqb-true q p e in rw f (get_or-set_same ops p x [] lt)
set_at false ops p q x e lt = get_or-set_other ops p q x [] (λ same. let f : eqb q p ≡ true = eq-eqb q p same in let g : true ≡ false = sym f ∙ e in cc)

-- the operations of each process after one more of p
pub op_added : (ops : List (List Op)) (p : ℕ) (op : Op) → p < length ops → Adds p op (λ q. get_or ops q []) (λ q. get_or (set ops p (get_or ops p [] ++ op ∷ [])) q [])
op_added ops p op lt q = elim (cases_eq q p) [
  | inl same ↦ set_at true ops p q (get_or ops p [] ++ op ∷ []) (eq-eqb q p same) lt ∙ rw (eq-eqb q p same, same) refl
  | inr other ↦ set_at false ops p q (get_or ops p [] ++ op ∷ []) (ne_eqb q p other) lt ∙ rw (ne_eqb q p other) refl
]

all_added : (t : Bool) (test : Op → Bool) (xs ys : List Op) (op : Op) → ys ≡ cond t (xs ++ op ∷ []) xs → list_all test xs ≡ true → test op ≡ true → list_all test ys ≡ true
all_added true test xs ys op e all good = rw (e, list_all-append test xs (op ∷ []), all, good) refl
all_added false test xs ys op e all good = rw e all

ends_added : (t : Bool) (xs ys : List Op) (op : Op) → ys ≡ cond t (xs ++ op ∷ []) xs → EndsWithExit xs → (t ≡ true → has_exit xs ≡ false) → EndsWithExit ys
ends_added true xs ys op e ends none = subst EndsWithExit (sym e) (ends_push xs op (none refl))
ends_added false xs ys op e ends none = subst EndsWithExit (sym e) ends

length_added : (t : Bool) (xs ys : List Op) (op : Op) → ys ≡ cond t (xs ++ op ∷ []) xs → length ys ≡ length xs + cond t 1 0
length_added true xs ys op e = ap length e ∙ length-append xs (op ∷ [])
length_added false xs ys op e = omega (arith, ap length e)

below_all : (order : List ℕ) (p n : ℕ) → list_all (λ q. ltb q n) order ≡ true → p < n → list_all (λ q. ltb q n) (order ++ p ∷ []) ≡ true
below_all order p n all lt = rw (list_all-append (λ q. ltb q n) order (p ∷ []), all, lt-ltb p n lt) refl

-- the rules are kept by one operation more
pub operation_kept : (old new : Trace) (p : ℕ) (op : Op) → AreOperations old → p < process_count old → in_range old op ≡ true → is_spelled op ≡ true
    → is_of_version old.version op ≡ true → length old.order < 200000 → has_exit (operations_of old p) ≡ false → DeclareAlike old new
    → new.operations ≡ set old.operations p (operations_of old p ++ op ∷ []) → new.order ≡ old.order ++ p ∷ [] → AreOperations new
operation_kept old new p op kept lt ranged fit has room none alike e f =
    let procs : process_count old ≡ process_count new = alike.procs in
    let within : p < length old.operations = omega (arith, kept.each) in
    let adds : Adds p op (operations_of old) (operations_of new) = λ q. ap (λ (ops : List (List Op)). get_or ops q []) e ∙ op_added old.operations p op within q in
    record {
      each = ap length e ∙ length-set old.operations p (operations_of old p ++ op ∷ []) ∙ kept.each ∙ procs;
      in_range = λ q below. sym (all_same (in_range old) (in_range new) (operations_of new q) (λ o. in_range_same old new o alike))
          ∙ all_added (eqb q p) (in_range old) (operations_of old q) (operations_of new q) op (adds q) (kept.in_range q (rw procs below)) ranged;
      spelled = λ q below. all_added (eqb q p) is_spelled (operations_of old q) (operations_of new q) op (adds q) (kept.spelled q (rw procs below)) fit;
      of_version = λ q below. ap (λ (v : ℕ). list_all (is_of_version v) (operations_of new q)) (sym alike.version)
          ∙ all_added (eqb q p) (is_of_version old.version) (operations_of old q) (operations_of new q) op (adds q) (kept.of_version q (rw procs below)) has;
      ends = λ q below. ends_added (eqb q p) (operations_of old q) (operations_of new q) op (adds q) (kept.ends q (rw procs below))
          (λ same. subst (λ (r : ℕ). has_exit (operations_of old r) ≡ false) (sym (eqb-true q p same)) none);
      ordered = subst (λ (n : ℕ). list_all (λ q. ltb q n) new.order ≡ true) procs (rw f (below_all old.order p (process_count old) kept.ordered lt));
      counted = λ q below. rw (f, times_push q p old.order, kept.counted q (rw procs below), length_added (eqb q p) (operations_of old q) (operations_of new q) op (adds q)) (turned p q (length (operations_of old q)));
      room = rw (f, length-append old.order (p ∷ [])) (omega (arith, room));
    }
  where
    turned : (p q n : ℕ) → n + cond (eqb p q) 1 0 ≡ n + cond (eqb q p) 1 0
    turned p q n = elim (cases_eq p q) [
      | inl same ↦ rw (eq-eqb p q same, eq-eqb q p (sym same)) refl
      | inr other ↦ rw (ne_eqb p q other, ne_eqb q p (λ e. other (sym e))) refl
    ]
