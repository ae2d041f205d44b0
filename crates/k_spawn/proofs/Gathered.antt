-- The operations that lines become, process by process.
use Rattle.std.proofs.Common.{◌≡◌, ◌∙◌, ℕ, zero, suc, ◌+◌, ◌<◌, ◌≤◌, ◌==◌, true, false, cond, List, [], ◌∷◌, ◌++◌, length, map, refl, sym, ap, ap₂, arith, append_assoc, append-nil, slice_set, get_or, drop, subst, ne_eqb}
use Rattle.std.proofs.lemmas.Bool.{eq-eqb}
use Rattle.std.proofs.lemmas.List.{at_drop_more, at_drop_all, length-append, length-map}
use Rattle.std.specs.List.{AllByRecursion, flat_map}
use Rattle.k_types.specs.declared.names.Field.{Field}
use Rattle.k_types.specs.declared.names.LimitId.{LimitId}
use Rattle.k_types.specs.declared.names.Pid.{Pid}
use Rattle.k_types.specs.declared.setup.LimitRow.{LimitRow}
use Rattle.k_trace.specs.Named.{DeclaredNames, NamedTrace}
use Rattle.k_types.specs.declared.op.Op.TheVariants.{Kill, Resize}
use Rattle.k_types.specs.declared.op.Op.{Op}
use Rattle.k_types.specs.Numbers.{numbers_from, numbers_below}
use Rattle.k_trace.specs.OperationLists.{OperationLists, no_operations, with_no_operations, with_operation}
use Rattle.k_types.proofs.Lists.{numbers_length, at_number}
use Rattle.k_spawn.specs.declared.script.ScriptLine.{ScriptLine}
use Rattle.k_types.specs.Trace.{process_count}
use Rattle.k_spawn.specs.Families.{children}
use Rattle.k_spawn.specs.Scripts.{Script, family}
use Rattle.k_spawn.specs.Translated.{IsLineOf, idle, with_lines, with_operations}
use Rattle.k_spawn.specs.Translation.{ending, limit_id, operations_in, operations_of_deed, order_of, translation}

-- operations of the process alone
abbrev only : ℕ → List Op → ℕ → List Op
only p ops q = cond (p == q) ops []

-- what each process has, and these operations of one process behind
abbrev added : (ℕ → List Op) → ℕ → List Op → ℕ → List Op
added f p ops q = f q ++ only p ops q

-- another process has what it had
other_kept : (f : ℕ → List Op) (p q : ℕ) (ops : List Op) → (p ≡ q → ⊥) → added f p ops q ≡ f q
other_kept f p q ops apart = ap (λ b. f q ++ cond b ops []) (ne_eqb p q apart) ∙ append-nil (f q)

-- the process itself has these too
own_added : (f : ℕ → List Op) (p q : ℕ) (ops : List Op) → p ≡ q → added f p ops q ≡ f q ++ ops
own_added f p q ops same = ap (λ b. f q ++ cond b ops []) (eq-eqb p q same)

later_kept : (f : ℕ → List Op) (p first n : ℕ) (ops : List Op) → p < first → map (added f p ops) (numbers_from first n) ≡ map f (numbers_from first n)
later_kept f p first zero ops before = refl
later_kept f p first (suc n) ops before =
    ap₂ (λ (x : List Op) (xs : List (List Op)). x ∷ xs) (other_kept f p first ops (λ e. omega (arith, before, e))) (later_kept f p (suc first) n ops (omega (arith, before)))

mapped_set : (f : ℕ → List Op) (first n k : ℕ) (ops : List Op) → k < n → slice_set (map f (numbers_from first n)) k (f (first + k) ++ ops) ≡ map (added f (first + k) ops) (numbers_from first n)
mapped_set f first zero k ops inside = absurd (omega (arith, inside))
mapped_set f first (suc n) zero ops inside =
    let e : first + 0 ≡ first = omega arith in
    ap₂ (λ (x : List Op) (xs : List (List Op)). x ∷ xs) (ap (λ q. f q ++ ops) e ∙ sym (own_added f (first + 0) first ops e)) (sym (later_kept f (first + 0) (suc first) n ops (omega arith)))
mapped_set f first (suc n) (suc k) ops inside =
    let e : suc first + k ≡ first + suc k = omega arith in
    ap₂ (λ (x : List Op) (xs : List (List Op)). x ∷ xs) (sym (other_kept f (first + suc k) first ops (λ same. omega (arith, same))))
    (ap (λ q. slice_set (map f (numbers_from (suc first) n)) k (f q ++ ops)) (sym e)
    ∙ mapped_set f (suc first) n k ops (omega (arith, inside))
    ∙ ap (λ q. map (added f q ops) (numbers_from (suc first) n)) e)

-- the operations of so many processes, and their order
abbrev pub lists : (ℕ → List Op) → ℕ → List ℕ → OperationLists
lists f n order = record { operations = map f (numbers_below n); order = order }

one_added : (f : ℕ → List Op) (n p : ℕ) (order : List ℕ) (op : Op) → p < n → with_operation (lists f n order) p op ≡ lists (added f p (op ∷ [])) n (order ++ p ∷ [])
one_added f n p order op inside =
    let at : 0 + p ≡ p = omega arith in
    ap (λ (ls : List (List Op)). let o : OperationLists = record { operations = ls; order = order ++ p ∷ [] } in o)
    (ap (λ (ops : List Op). slice_set (map f (numbers_below n)) p (ops ++ op ∷ [])) (at_number f 0 n p [] inside) ∙ mapped_set f 0 n p (op ∷ []) inside ∙ ap (λ q. map (added f q (op ∷ [])) (numbers_below n)) at)

map_same : (f g : ℕ → List Op) (ns : List ℕ) → ((q : ℕ) → f q ≡ g q) → map f ns ≡ map g ns
map_same f g [] same = refl
map_same f g (n ∷ ns) same = ap₂ (λ (x : List Op) (xs : List (List Op)). x ∷ xs) (same n) (map_same f g ns same)

none_added : (f : ℕ → List Op) (p q : ℕ) → added f p [] q ≡ f q
none_added f p q = elim (p == q) as (λ b. f q ++ cond b [] [] ≡ f q) [
  | true ↦ append-nil (f q)
  | false ↦ append-nil (f q)
]

added_twice : (f : ℕ → List Op) (p : ℕ) (op : Op) (ops : List Op) (q : ℕ) → added (added f p (op ∷ [])) p ops q ≡ added f p (op ∷ ops) q
added_twice f p op ops q = elim (p == q) as (λ b. (f q ++ cond b (op ∷ []) []) ++ cond b ops [] ≡ f q ++ cond b (op ∷ ops) []) [
  | true ↦ append_assoc (f q) (op ∷ []) ops
  | false ↦ append_assoc (f q) [] []
]

same_lists : (f g : ℕ → List Op) (n : ℕ) (a b : List ℕ) → ((q : ℕ) → f q ≡ g q) → a ≡ b → lists f n a ≡ lists g n b
same_lists f g n a b same order = ap₂ (λ (ls : List (List Op)) (ns : List ℕ). let o : OperationLists = record { operations = ls; order = ns } in o) (map_same f g (numbers_below n) same) order

all_added : (f : ℕ → List Op) (n p : ℕ) (order : List ℕ) (ops : List Op) → p < n → with_operations (lists f n order) p ops ≡ lists (added f p ops) n (order ++ map (λ op. p) ops)
unfolding with_operations
all_added f n p order [] inside = same_lists f (added f p []) n order (order ++ []) (λ q. sym (none_added f p q)) (sym (append-nil order))
all_added f n p order (op ∷ ops) inside =
    ap (λ o. with_operations o p ops) (one_added f n p order op inside)
    ∙ all_added (added f p (op ∷ [])) n p (order ++ p ∷ []) ops inside
    ∙ same_lists (added (added f p (op ∷ [])) p ops) (added f p (op ∷ ops)) n _ _ (added_twice f p op ops) (append_assoc order (p ∷ []) (map (λ op. p) ops))

lines_added : (s : Script) (f : ℕ → List Op) (n : ℕ) (order : List ℕ) (lines : List ScriptLine) → AllByRecursion (λ l. l.pid.0 < n) lines
    → with_lines s (lists f n order) lines ≡ lists (λ q. f q ++ operations_in s lines q) n (order ++ order_of s lines)
unfolding with_lines
lines_added s f n order [] all = same_lists f (λ q. f q ++ []) n order (order ++ []) (λ q. sym (append-nil (f q))) (sym (append-nil order))
lines_added s f n order (l ∷ ls) all =
    let ops = operations_of_deed s l.deed in
    ap (λ o. with_lines s o ls) (all_added f n l.pid.0 order ops all.0)
    ∙ lines_added s (added f l.pid.0 ops) n (order ++ map (λ op. l.pid.0) ops) ls all.1
    ∙ same_lists (λ q. added f l.pid.0 ops q ++ operations_in s ls q) (λ q. f q ++ operations_in s (l ∷ ls) q) n _ _
    (λ q. append_assoc (f q) (only l.pid.0 ops q) (operations_in s ls q)) (append_assoc order (map (λ op. l.pid.0) ops) (order_of s ls))

nothing_more : (first n : ℕ) → map (λ (q : ℕ). let ops : List Op = [] in ops) (numbers_from first n) ++ [] ∷ [] ≡ map (λ (q : ℕ). let ops : List Op = [] in ops) (numbers_from first (suc n))
nothing_more first zero = refl
nothing_more first (suc n) = ap (λ (xs : List (List Op)). [] ∷ xs) (nothing_more (suc first) n)

idle_is : (n : ℕ) → idle n ≡ lists (λ q. []) n []
unfolding idle
idle_is zero = refl
idle_is (suc n) =
    ap with_no_operations (idle_is n) ∙ ap (λ (ls : List (List Op)). let o : OperationLists = record { operations = ls; order = [] } in o) (nothing_more 0 n)

-- no process
pub idle_none : no_operations ≡ idle 0
unfolding idle
idle_none = refl

-- as many lists as processes
pub idle_length : (n : ℕ) → length (idle n).operations ≡ n
idle_length n = ap (λ (o : OperationLists). length o.operations) (idle_is n) ∙ length-map (numbers_below n) (λ q. let ops : List Op = [] in ops) ∙ numbers_length 0 n

-- one process more
pub idle_next : (n : ℕ) → idle (n + 1) ≡ with_no_operations (idle n)
unfolding idle
idle_next n = let e : n + 1 ≡ suc n = omega arith in ap idle e

-- the operations that the lines of a script become, process by process, and their order
pub lines_are_listed : (s : Script) (n : ℕ) (lines : List ScriptLine) → AllByRecursion (λ l. l.pid.0 < n) lines → with_lines s (idle n) lines ≡ lists (operations_in s lines) n (order_of s lines)
lines_are_listed s n lines all = ap (λ o. with_lines s o lines) (idle_is n) ∙ lines_added s (λ q. []) n [] lines all

-- the end of one child more
pub endings_step : (s : Script) (o : OperationLists) (p : ℕ) (reaped : List Pid) (i : ℕ) (d : Pid) → i < length reaped
    → with_operations (with_operation (with_operation o p (Kill (get_or reaped i d))) p (Resize (limit_id s (get_or reaped i d).0) 0)) p (flat_map (λ it. ending s it.0) (drop (i + 1) reaped))
    ≡ with_operations o p (flat_map (λ it. ending s it.0) (drop i reaped))
unfolding with_operations
endings_step s o p reaped i d inside = sym (at_drop_more (λ (ls : List Pid). with_operations o p (flat_map (λ it. ending s it.0) ls)) reaped i d inside)

-- all ends
pub endings_end : (s : Script) (o : OperationLists) (p : ℕ) (reaped : List Pid) (i : ℕ) → length reaped ≤ i → with_operations o p (flat_map (λ it. ending s it.0) (drop i reaped)) ≡ o
unfolding with_operations
endings_end s o p reaped i done = at_drop_all (λ (ls : List Pid). with_operations o p (flat_map (λ it. ending s it.0) ls)) reaped i done

-- one line more
pub lines_step : (s : Script) (o : OperationLists) (lines : List ScriptLine) (i : ℕ) (d : ScriptLine) → i < length lines
    → with_lines s (with_operations o (get_or lines i d).pid.0 (operations_of_deed s (get_or lines i d).deed)) (drop (i + 1) lines) ≡ with_lines s o (drop i lines)
unfolding with_lines
lines_step s o lines i d inside = sym (at_drop_more (with_lines s o) lines i d inside)

-- all lines
pub lines_end : (s : Script) (o : OperationLists) (lines : List ScriptLine) (i : ℕ) → length lines ≤ i → with_lines s o (drop i lines) ≡ o
unfolding with_lines
lines_end s o lines i done = at_drop_all (with_lines s o) lines i done

-- what holds of all that are left holds of the next one, and of those behind
pub next_holds : {A : Type 0} (P : A → Type 0) (xs : List A) (i : ℕ) (d : A) → i < length xs → AllByRecursion P (drop i xs) → P (get_or xs i d) × AllByRecursion P (drop (i + 1) xs)
next_holds P [] i d inside all = absurd (omega (arith, inside))
next_holds P (y ∷ ys) zero d inside all = (all.0, all.1)
next_holds P (y ∷ ys) (suc i) d inside all =
    let rest = next_holds P ys i d (omega (arith, inside)) all in
    let behind : suc (i + 1) ≡ suc i + 1 = omega arith in
    (rest.0, subst (λ n. AllByRecursion P (drop n (y ∷ ys))) behind rest.1)

-- the processes of the translation
pub processes_are : (s : Script) → process_count (translation s).trace ≡ process_count s.header.trace + length s.parents
processes_are s =
    length-append s.header.trace.procs (map (limit_id s) (children (family s)))
    ∙ ap (λ n. process_count s.header.trace + n) (length-map (children (family s)) (limit_id s) ∙ numbers_length (process_count s.header.trace) (length s.parents))

-- one operation
pub one_operation : (o : OperationLists) (p : ℕ) (op : Op) → with_operation o p op ≡ with_operations o p (op ∷ [])
unfolding with_operations
one_operation o p op = refl

-- the ends of children, by their numbers
pub endings_by_number : (s : Script) (pids : List Pid) → flat_map (λ (it : Pid). ending s it.0) pids ≡ flat_map (ending s) (map (λ (it : Pid). it.0) pids)
endings_by_number s [] = refl
endings_by_number s (pid ∷ pids) = ap (λ ops. ending s pid.0 ++ ops) (endings_by_number s pids)

pub below_by_number : (n : ℕ) (pids : List Pid) → AllByRecursion (λ p. p < n) (map (λ (it : Pid). it.0) pids) → AllByRecursion (λ (it : Pid). it.0 < n) pids
below_by_number n [] all = tt
below_by_number n (pid ∷ pids) all = (all.0, below_by_number n pids all.1)

pub processes_below : (s : Script) (lines : List ScriptLine) → AllByRecursion (IsLineOf s) lines → AllByRecursion (λ (l : ScriptLine). l.pid.0 < process_count s.header.trace + length s.parents) lines
processes_below s [] all = tt
processes_below s (l ∷ ls) all = (all.0.process, processes_below s ls all.1)

-- a trace of the translation's parts is the translation
pub translated_is : (s : Script) (names : DeclaredNames) (ceiling dir_fields shared : ℕ) (types : List (List Field)) (limits : List LimitRow) (procs : List LimitId) (operations : List (List Op)) (order : List ℕ)
    → names ≡ (translation s).names → ceiling ≡ s.header.trace.ceiling → dir_fields ≡ s.header.trace.dir_fields → shared ≡ s.header.trace.shared_heaps → types ≡ s.header.trace.types
    → limits ≡ (translation s).trace.limits → procs ≡ (translation s).trace.procs → operations ≡ (translation s).trace.operations → order ≡ (translation s).trace.order
    → (let t : NamedTrace = record { names = names; trace = record { version = 2; ceiling = ceiling; dir_fields = dir_fields; types = types; limits = limits; procs = procs; shared_heaps = shared; operations = operations; order = order } } in t) ≡ translation s
translated_is s names ceiling dir_fields shared types limits procs operations order a b c d e f g h k = rw (a, b, c, d, e, f, g, h, k) refl
