-- The lines of operations, of which each process has done some.
use Rattle.std.proofs.Common.{◌≡◌, ◌∙◌, ℕ, zero, suc, ◌+◌, ◌<◌, ◌≤◌, ◌==◌, true, false, cond, List, [], ◌∷◌, ◌++◌, length, drop, map, replicate, append_assoc, Vec, Global, get_or, set, refl, sym, ap, subst, ltb-true, nat_lt, inl, inr, arith, add-one, eq-eqb, ne_eqb, IsTrue}
use Rattle.std.specs.List.{AllByRecursion, list_all}
use Rattle.std.proofs.lemmas.Bool.{and_parts, cases_eq}
use Rattle.k_types.specs.declared.names.Pid.{Pid}
use Rattle.k_types.specs.declared.op.Op.{Op}
use Rattle.k_types.specs.Steps.{in_range}
use Rattle.k_types.specs.Trace.{Trace as MachineTrace, operations_of}
use Rattle.std.proofs.lemmas.List.{get_or-map, get_or-set_other, length-map}
use Rattle.std.proofs.lemmas.Grind.{get_or-set_at}
use Rattle.k_words.specs.Words.{Text, text_of}
use Rattle.k_trace.specs.Named.{DeclaredNames, NamedTrace}
use Rattle.k_trace.specs.declared.trace.Trace.{Trace}
use Rattle.k_trace.specs.Meaning.{meaning_of}
use Rattle.k_types.proofs.Lists.{get_or-set_cases}
use Rattle.k_report.proofs.LineLemmas.{text_of-append}
use Rattle.k_trace.specs.NamedOps.{IsNamedOp}
use Rattle.k_trace.specs.Rules.{IsTrace}
use Rattle.k_trace.specs.Spelling.{after_first, first_line, operation_lines}
use Rattle.k_spell.proofs.Added.{mapped_next}
use Rattle.k_text.specs.Named.{AreNamed}
use Rattle.k_report.proofs.Known.{named_op}
use Rattle.k_laws.proofs.Sizes.{zeros_at}

-- The operations of each process behind those that it has done.
abbrev pub behind : (ℕ → List Op) → List ℕ → ℕ → List Op
behind operations done p = drop (get_or done p 0) (operations p)

pub same_lines : (names : DeclaredNames) (f g : ℕ → List Op) (order : List ℕ) → ((p : ℕ) → f p ≡ g p) → operation_lines names f order ≡ operation_lines names g order
same_lines names f g [] same = refl
same_lines names f g (p ∷ order) same =
    ap (λ ops. first_line names p ops ++ operation_lines names (after_first p f) order) (same p)
    ∙ ap (λ ls. first_line names p (g p) ++ ls) (same_lines names (after_first p f) (after_first p g) order after)
  where
    after : (q : ℕ) → after_first p f q ≡ after_first p g q
    after q = elim (q == p) as (λ b. cond b (drop 1 (f q)) (f q) ≡ cond b (drop 1 (g q)) (g q)) [ true ↦ ap (drop 1) (same q) | false ↦ same q ]

-- Where a process has none of its operations behind it, all are left.
pub behind_none : (operations : ℕ → List Op) (done : List ℕ) (p : ℕ) → get_or done p 0 ≡ 0 → behind operations done p ≡ operations p
behind_none operations done p e = rw e refl

drop_suc : {A : Type 0} (n : ℕ) (xs : List A) → drop 1 (drop n xs) ≡ drop (suc n) xs
drop_suc zero xs = refl
drop_suc (suc n) [] = refl
drop_suc (suc n) (x ∷ xs) = drop_suc n xs

drop_one : {A : Type 0} (n : ℕ) (xs : List A) → drop 1 (drop n xs) ≡ drop (n + 1) xs
drop_one n xs = rw add-one (drop_suc n xs)

-- One more of them is done.
pub behind_next : (operations : ℕ → List Op) (done : List ℕ) (p q : ℕ) → p < length done →
    after_first p (behind operations done) q ≡ behind operations (set done p (get_or done p 0 + 1)) q
behind_next operations done p q inside =
    elim (cases_eq q p) [
      | inl same ↦
          let now : get_or (set done p (get_or done p 0 + 1)) q 0 ≡ get_or done q 0 + 1 = get_or-set_at done p q (get_or done p 0 + 1) 0 same inside ∙ ap (λ k. get_or done k 0 + 1) (sym same) in
          rw (eq-eqb q p same) (drop_one (get_or done q 0) (operations q) ∙ ap (λ n. drop n (operations q)) (sym now))
      | inr apart ↦
          rw (ne_eqb q p apart) (ap (λ n. drop n (operations q)) (sym (get_or-set_other done p q (get_or done p 0 + 1) 0 apart)))
    ]

-- Each operation of the trace names what has a name.
all_named : (names : DeclaredNames) (trace : MachineTrace) (ops : List Op) → AreNamed names trace → IsTrue (list_all (in_range trace) ops) → AllByRecursion (IsNamedOp names) ops
all_named names trace [] named ranged = tt
all_named names trace (op ∷ ops) named ranged =
    let parts = and_parts (in_range trace op) (list_all (in_range trace) ops) ranged in
    (named_op names trace op named parts.0, all_named names trace ops named parts.1)

pub names_all : (t : NamedTrace) → IsTrace t → (ops : List Op) → IsTrue (list_all (in_range t.trace) ops) → AllByRecursion (IsNamedOp t.names) ops
names_all t is ops ranged = all_named t.names t.trace ops (record { types = is.types_named; limits = is.limits_named; procs = is.procs_named; shared = is.shared_named }) ranged

-- What stands for a process past the last of the order.
abbrev pub no_pid : Pid
no_pid = record { 0 = 0 }

-- The order from a place on.
pub order_next : (items order : List Pid) (i : ℕ) → items ≡ order → i < length items →
    map (λ (pid : Pid). pid.0) (drop i order) ≡ (get_or items i no_pid).0 ∷ map (λ (pid : Pid). pid.0) (drop (i + 1) order)
order_next items order i same inside =
    subst (λ (pids : List Pid). map (λ (pid : Pid). pid.0) (drop i pids) ≡ (get_or items i no_pid).0 ∷ map (λ (pid : Pid). pid.0) (drop (i + 1) pids)) same
    (mapped_next (λ (pid : Pid). pid.0) items i no_pid inside)

-- A process of the order is one of the trace's.
pub low_at : (n : ℕ) (order : List Pid) (i : ℕ) (d : Pid) → IsTrue (list_all (λ p. nat_lt p n) (map (λ (pid : Pid). pid.0) order)) → i < length order → (get_or order i d).0 < n
low_at n [] i d all inside = absurd (omega arith)
low_at n (q ∷ order) zero d all inside = ltb-true q.0 n (and_parts (nat_lt q.0 n) (list_all (λ p. nat_lt p n) (map (λ (pid : Pid). pid.0) order)) all).0
low_at n (q ∷ order) (suc i) d all inside = low_at n order i d (and_parts (nat_lt q.0 n) (list_all (λ p. nat_lt p n) (map (λ (pid : Pid). pid.0) order)) all).1 (omega (arith, inside))

pub low_in : (t : Trace) (items : List Pid) (i : ℕ) → IsTrace (meaning_of t) → items ≡ t.order.items → i < length items → (get_or items i no_pid).0 < length t.setup.procs.items
low_in t items i is same inside = low_at (length t.setup.procs.items) items i no_pid (subst (λ (ps : List Pid). IsTrue (list_all (λ p. nat_lt p (length t.setup.procs.items)) (map (λ (pid : Pid). pid.0) ps))) (sym same) is.rules.operations.ordered) inside

-- There are operations for each process.
pub listed : (t : Trace) → IsTrace (meaning_of t) → length t.ops.items ≡ length t.setup.procs.items
listed t is = sym (length-map t.ops.items (λ (ops : Vec Op Global). ops.items)) ∙ is.rules.operations.each

-- The operations of a process are those in its list.
pub listed_at : (t : Trace) (p : ℕ) (v : Vec Op Global) → IsTrace (meaning_of t) → p < length t.setup.procs.items → v ≡ get_or t.ops.items p v → operations_of (meaning_of t).trace p ≡ v.items
listed_at t p v is inside e = get_or-map (λ (ops : Vec Op Global). ops.items) t.ops.items p v [] (omega (arith, listed t is, inside)) ∙ ap (λ (ops : Vec Op Global). ops.items) (sym e)

pub named_at : (t : Trace) (p : ℕ) (v : Vec Op Global) → IsTrace (meaning_of t) → p < length t.setup.procs.items → v ≡ get_or t.ops.items p v → AllByRecursion (IsNamedOp t.names) v.items
named_at t p v is inside e =
    names_all (meaning_of t) is v.items (subst (λ (ops : List Op). IsTrue (list_all (in_range (meaning_of t).trace) ops)) (listed_at t p v is inside e) (is.rules.operations.in_range p inside))

-- No process has done more than were done.
pub few_next : (done : List ℕ) (p n : ℕ) → ((q : ℕ) → get_or done q 0 ≤ n) → (q : ℕ) → get_or (set done p (get_or done p 0 + 1)) q 0 ≤ n + 1
few_next done p n few q = elim (get_or-set_cases done p q (get_or done p 0 + 1) 0) [
  | inl same ↦ let low = few q in omega (arith, same, low)
  | inr now ↦ let low = few p in omega (arith, now.1, low)
]

-- The line of the next operation of the process was added, and the others are left.
pub operation_added : (names : DeclaredNames) (operations : ℕ → List Op) (done : List ℕ) (p : ℕ) (left rest : List ℕ) (ops : List Op) (old new all : Text) → p < length done → left ≡ p ∷ rest → operations p ≡ ops
    → new ≡ old ++ text_of (first_line names p (drop (get_or done p 0) ops)) → old ++ text_of (operation_lines names (behind operations done) left) ≡ all
    → new ++ text_of (operation_lines names (behind operations (set done p (get_or done p 0 + 1))) rest) ≡ all
operation_added names operations done p left rest ops old new all inside e own n h =
    let first : List (List Text) = first_line names p (behind operations done p) in
    let others : List (List Text) = operation_lines names (after_first p (behind operations done)) rest in
    ap (λ (t : Text). t ++ text_of (operation_lines names (behind operations (set done p (get_or done p 0 + 1))) rest)) (n ∙ ap (λ (ops : List Op). old ++ text_of (first_line names p (drop (get_or done p 0) ops))) (sym own))
    ∙ ap (λ (ls : List (List Text)). (old ++ text_of first) ++ text_of ls) (sym (same_lines names (after_first p (behind operations done)) (behind operations (set done p (get_or done p 0 + 1))) rest (λ q. behind_next operations done p q inside)))
    ∙ append_assoc old (text_of first) (text_of others)
    ∙ ap (λ (t : Text). old ++ t) (sym (text_of-append first others))
    ∙ ap (λ (ps : List ℕ). old ++ text_of (operation_lines names (behind operations done) ps)) (sym e)
    ∙ h

-- No operation is done yet, and all lines are left.
pub none_done : (names : DeclaredNames) (operations : ℕ → List Op) (n : ℕ) (order : List ℕ) (text : Text) → text ++ text_of (operation_lines names (behind operations (replicate n 0)) order) ≡ text ++ text_of (operation_lines names operations order)
none_done names operations n order text =
    ap (λ (ls : List (List Text)). text ++ text_of ls) (same_lines names (behind operations (replicate n 0)) operations order (λ p. behind_none operations (replicate n 0) p (zeros_at n p)))
