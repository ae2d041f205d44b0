-- How many operations there are, and what they all pass.
use Rattle.std.proofs.Common.{◌≡◌, ◌∙◌, ℕ, zero, suc, ◌+◌, ◌*◌, ◌<◌, ◌≤◌, ◌^◌, ◌==◌, ◌||◌, nat_lt, Bool, true, false, cond, refl, sym, ap, ap₂, List, [], ◌∷◌, ◌++◌, length, replicate, arith, eq-eqb, ne_eqb, add-one, inl, inr}
use Rattle.std.specs.List.{flat_map, list_all}
use Rattle.std.proofs.lemmas.Bool.{lt-ltb, cases_eq}
use Rattle.std.proofs.lemmas.List.{length-append}
use Rattle.std.proofs.lemmas.List.Concat.{flat_map-cons}
use Rattle.std.proofs.lemmas.List.Folds.{list_all-append, list_any-append}
use Rattle.std.specs.Prelude.{◌/◌, ◌%◌, count_by}
use Rattle.k_types.specs.declared.op.Op.{Op}
use Rattle.k_types.specs.declared.op.Op.TheVariants.{New, Store, Move, Clear, Dir, Put, Collect, Exit}
use Rattle.k_types.specs.Numbers.{numbers_below, numbers_from}
use Rattle.k_types.specs.Steps.{in_range}
use Rattle.k_types.specs.Totals.{total}
use Rattle.k_types.specs.TraceRules.{EndsWithExit, is_exit, is_of_version, is_spelled}
use Rattle.k_types.proofs.Sums.{bit, count_is_total, one_counts, sum_same, total_append}
use Rattle.k_laws.proofs.UsesRaised.{times}
use Rattle.k_trace.specs.Grown.{has_exit}
use Rattle.k_reader.proofs.OpLists.{ends_push, none_ends}
use Rattle.k_big.specs.Workload.{r, node, round, ending, operations_for, turns, declared_for}
use Rattle.k_big.proofs.Rounds.{pieces_more, pieces_pass}

-- ---- how many operations a process has

-- one, where the object is put into the directory
abbrev fifth : ℕ → ℕ
fifth n = bit (n % 5 == 0)

-- one, where the heap is collected behind the object
abbrev tenth : ℕ → ℕ
tenth n = bit ((n + 1) % 10 == 0)

abbrev four : ℕ → List Op
four j = New (r 0) node ∷ Store (r 0) 0 (r 1) ∷ Move (r 1) (r 0) ∷ Put (r 0) 2 j ∷ []

abbrev kept_if : Bool → ℕ → List Op
kept_if b i = cond b (Store (r 15) i (r 0) ∷ []) []

abbrev collected_if : Bool → List Op
collected_if b = cond b (Clear (r 0) ∷ Clear (r 1) ∷ Collect ∷ []) []

round_length_if : (b c : Bool) (i j : ℕ) → length (four j ++ (kept_if b i ++ collected_if c)) ≡ 4 + bit b + 3 * bit c
round_length_if true true i j = refl
round_length_if true false i j = refl
round_length_if false true i j = refl
round_length_if false false i j = refl

round_length : (i j : ℕ) → length (round i j) ≡ 4 + fifth j + 3 * tenth j
round_length i j = round_length_if (j % 5 == 0) ((j + 1) % 10 == 0) i j

fifths_more : (n : ℕ) → (n + 5) / 5 ≡ (n + 4) / 5 + fifth n
fifths_more n = elim (cases_eq (n % 5) 0) [
  | inl e ↦ rw (eq-eqb (n % 5) 0 e) (omega (arith, e))
  | inr ne ↦ rw (ne_eqb (n % 5) 0 ne) (omega (arith, ne))
]

tenths_more : (n : ℕ) → (n + 1) / 10 ≡ n / 10 + tenth n
tenths_more n = elim (cases_eq ((n + 1) % 10) 0) [
  | inl e ↦ rw (eq-eqb ((n + 1) % 10) 0 e) (omega (arith, e))
  | inr ne ↦ rw (ne_eqb ((n + 1) % 10) 0 ne) (omega (arith, ne))
]

rounds_length : (i n : ℕ) → length (flat_map (round i) (numbers_below n)) ≡ 4 * n + (n + 4) / 5 + 3 * (n / 10)
rounds_length i zero = refl
rounds_length i (suc n) =
    let grown : length (flat_map (round i) (numbers_below (suc n))) ≡ length (flat_map (round i) (numbers_below n)) + length (round i n)
    = ap (λ k. length (flat_map (round i) (numbers_below k))) (sym (add-one n)) ∙ ap length (sym (pieces_more (round i) n)) ∙ length-append (flat_map (round i) (numbers_below n)) (round i n) in
    let before = rounds_length i n in
    let one = round_length i n in
    let next : suc n + 4 ≡ n + 5 = omega arith in
    let five = ap (λ k. k / 5) next ∙ fifths_more n in
    let ten = ap (λ k. k / 10) (sym (add-one n)) ∙ tenths_more n in
    omega (arith, grown, before, one, five, ten)

ending_length : (b : Bool) → length (cond b (Exit ∷ []) []) ≤ 1
ending_length true = omega arith
ending_length false = omega arith

-- no process has more operations than that
pub few_operations : (objects i : ℕ) → objects ≤ 5000 → length (operations_for objects i) ≤ 22502
unfolding operations_for
few_operations objects i few =
    let whole : length (operations_for objects i) ≡ suc (length (flat_map (round i) (numbers_below objects)) + length (ending i))
    = ap suc (length-append (flat_map (round i) (numbers_below objects)) (ending i)) in
    let rounds = rounds_length i objects in
    let last = ending_length (i % 2 == 0) in
    omega (arith, few, whole, rounds, last)

-- ---- the order of the file

-- pieces of at most so many elements each
pub short_pieces : {A : Type 0} (f : ℕ → List A) (most first n : ℕ) → ((j : ℕ) → length (f j) ≤ most) → length (flat_map f (numbers_from first n)) ≤ n * most
short_pieces f most first zero short = omega arith
short_pieces f most first (suc n) short =
    let whole : length (flat_map f (numbers_from first (suc n))) ≡ length (f first) + length (flat_map f (numbers_from (suc first) n))
    = ap length (flat_map-cons f first (numbers_from (suc first) n)) ∙ length-append (f first) (flat_map f (numbers_from (suc first) n)) in
    let rest = short_pieces f most (suc first) n short in
    let here = short first in
    omega (arith, whole, rest, here)

total_of_same : {A : Type 0} (f : A → ℕ) (n : ℕ) (x : A) → total f (replicate n x) ≡ n * f x
total_of_same f zero x = omega arith
total_of_same f (suc n) x = let rest = total_of_same f n x in omega (arith, rest)

total_of_pieces : {A : Type 0} (f : A → ℕ) (g : ℕ → List A) (first n : ℕ) → total f (flat_map g (numbers_from first n)) ≡ total (λ i. total f (g i)) (numbers_from first n)
total_of_pieces f g first zero = refl
total_of_pieces f g first (suc n) =
    ap (total f) (flat_map-cons g first (numbers_from (suc first) n))
    ∙ total_append f (g first) (flat_map g (numbers_from (suc first) n))
    ∙ ap (λ k. total f (g first) + k) (total_of_pieces f g (suc first) n)

-- each process stands in the order as often as it has operations
pub turns_counted : (objects p : ℕ) → p < 8 → count_by (λ q. q == p) (flat_map (turns objects) (numbers_below 8)) ≡ length (operations_for objects p)
turns_counted objects p inside =
    let size : ℕ → ℕ = λ i. length (operations_for objects i) in
    count_is_total (λ q. q == p) (flat_map (turns objects) (numbers_below 8))
    ∙ total_of_pieces (λ q. bit (q == p)) (turns objects) 0 8
    ∙ sum_same (λ i. total (λ q. bit (q == p)) (turns objects i)) (λ i. cond (i == p) (size i) 0) (λ i. total_of_same (λ q. bit (q == p)) (size i) i ∙ times (i == p) (size i)) (numbers_below 8)
    ∙ one_counts size p 0 8 (omega arith) (omega arith)

same_passes : {A : Type 0} (test : A → Bool) (n : ℕ) (x : A) → test x ≡ true → list_all test (replicate n x) ≡ true
same_passes test zero x pass = refl
same_passes test (suc n) x pass = rw (pass, same_passes test n x pass) refl

-- all in the order are processes
pub turns_known : (objects : ℕ) → list_all (λ p. nat_lt p 8) (flat_map (turns objects) (numbers_below 8)) ≡ true
turns_known objects = pieces_pass (λ p. nat_lt p 8) (turns objects) 0 8 (λ j low. same_passes (λ p. nat_lt p 8) (length (operations_for objects j)) j (lt-ltb j 8 (omega (arith, low))))

-- ---- what each operation passes

ending_passes : (test : Op → Bool) (b : Bool) → test Exit ≡ true → list_all test (cond b (Exit ∷ []) []) ≡ true
ending_passes test true pass = rw pass refl
ending_passes test false pass = refl

-- the operations of a process pass a test that its rounds pass
pub operations_pass : (test : Op → Bool) (objects i : ℕ) → test (Dir (r 15)) ≡ true → test Exit ≡ true → ((j : ℕ) → j < objects → list_all test (round i j) ≡ true) → list_all test (operations_for objects i) ≡ true
unfolding operations_for
operations_pass test objects i first last rounds =
    let all = pieces_pass test (round i) 0 objects (λ j low. rounds j (omega (arith, low))) in
    rw (first, list_all-append test (flat_map (round i) (numbers_below objects)) (ending i), all, ending_passes test (i % 2 == 0) last) refl

ranged_if : (b c : Bool) (objects : ℕ) (operations : List (List Op)) (order : List ℕ) (i j : ℕ) → list_all (in_range (declared_for objects operations order).trace) (four j ++ (kept_if b i ++ collected_if c)) ≡ true
unfolding in_range
ranged_if true true objects operations order i j = refl
ranged_if true false objects operations order i j = refl
ranged_if false true objects operations order i j = refl
ranged_if false false objects operations order i j = refl

dir_ranged : (objects : ℕ) (operations : List (List Op)) (order : List ℕ) → in_range (declared_for objects operations order).trace (Dir (r 15)) ≡ true
unfolding in_range
dir_ranged objects operations order = refl

exit_ranged : (objects : ℕ) (operations : List (List Op)) (order : List ℕ) → in_range (declared_for objects operations order).trace Exit ≡ true
unfolding in_range
exit_ranged objects operations order = refl

-- they name what the trace declares
pub operations_ranged : (objects : ℕ) (operations : List (List Op)) (order : List ℕ) (i : ℕ) → list_all (in_range (declared_for objects operations order).trace) (operations_for objects i) ≡ true
operations_ranged objects operations order i =
    operations_pass (in_range (declared_for objects operations order).trace) objects i (dir_ranged objects operations order) (exit_ranged objects operations order)
    (λ j low. ranged_if (j % 5 == 0) ((j + 1) % 10 == 0) objects operations order i j)

spelled_if : (b c : Bool) (i j : ℕ) → nat_lt i 16 ≡ true → nat_lt j (2 ^ 64) ≡ true → list_all is_spelled (four j ++ (kept_if b i ++ collected_if c)) ≡ true
spelled_if true true i j known small = rw (small, known) refl
spelled_if true false i j known small = rw (small, known) refl
spelled_if false true i j known small = rw small refl
spelled_if false false i j known small = rw small refl

-- their fields and numbers are such as a line can have
pub operations_spelled : (objects i : ℕ) → objects ≤ 5000 → i < 8 → list_all is_spelled (operations_for objects i) ≡ true
operations_spelled objects i few known =
    operations_pass is_spelled objects i refl refl (λ j low. spelled_if (j % 5 == 0) ((j + 1) % 10 == 0) i j (lt-ltb i 16 (omega (arith, known))) (lt-ltb j (2 ^ 64) (omega (arith, low, few))))

version_if : (b c : Bool) (i j : ℕ) → list_all (is_of_version 1) (four j ++ (kept_if b i ++ collected_if c)) ≡ true
version_if true true i j = refl
version_if true false i j = refl
version_if false true i j = refl
version_if false false i j = refl

-- they are of the first version
pub operations_versioned : (objects i : ℕ) → list_all (is_of_version 1) (operations_for objects i) ≡ true
operations_versioned objects i = operations_pass (is_of_version 1) objects i refl refl (λ j low. version_if (j % 5 == 0) ((j + 1) % 10 == 0) i j)

-- ---- exits

no_exit_if : (b c : Bool) (i j : ℕ) → has_exit (four j ++ (kept_if b i ++ collected_if c)) ≡ false
no_exit_if true true i j = refl
no_exit_if true false i j = refl
no_exit_if false true i j = refl
no_exit_if false false i j = refl

no_exit_in_rounds : (i first n : ℕ) → has_exit (flat_map (round i) (numbers_from first n)) ≡ false
no_exit_in_rounds i first zero = refl
no_exit_in_rounds i first (suc n) =
    ap has_exit (flat_map-cons (round i) first (numbers_from (suc first) n))
    ∙ list_any-append is_exit (round i first) (flat_map (round i) (numbers_from (suc first) n))
    ∙ ap₂ (λ a b. a || b) (no_exit_if (first % 5 == 0) ((first + 1) % 10 == 0) i first) (no_exit_in_rounds i (suc first) n)

ends_if : (b : Bool) (ops : List Op) → has_exit ops ≡ false → EndsWithExit (ops ++ cond b (Exit ∷ []) [])
ends_if true ops none = ends_push ops Exit none
ends_if false ops none = none_ends (ops ++ []) (rw (list_any-append is_exit ops [], none) refl)

-- nothing follows an exit
pub operations_end : (objects i : ℕ) → EndsWithExit (operations_for objects i)
unfolding operations_for
operations_end objects i = ends_if (i % 2 == 0) (Dir (r 15) ∷ flat_map (round i) (numbers_below objects)) (no_exit_in_rounds i 0 objects)
