-- Rows and tables, one credit more, and their sums.
use Rattle.std.proofs.Common.{◌≡◌, ℕ, ◌+◌, ◌≤◌, Bool, true, false, cond, refl, sym, ap, ap₂, ◌∙◌, subst, List, [], ◌∷◌, ◌++◌, Option, Some, None, map, get_or, length, replicate, arith, ne_eqb, eq-eqb, append_assoc}
use Rattle.std.proofs.Math.Path.{fun_ext}
use Rattle.std.proofs.lemmas.List.{append-nil}
use Rattle.std.specs.List.{AllByRecursion}
use Rattle.k_types.specs.Numbers.{numbers_below}
use Rattle.k_types.specs.Totals.{total}
use Rattle.k_types.proofs.Sums.{ones, one_counts, sum_both, total_at_most, total_push, zeros, total_map}
use Rattle.k_work.specs.declared.rows.WorkRow.{WorkRow}
use Rattle.k_work.specs.Crediting.{IsAmong, row_for, with_credit, with_credits, with_work}
use Rattle.k_work.specs.Credits.{Credit}
use Rattle.k_work.specs.Tables.{Work, is_same, one_if_to, row_of, table_of, total_row, work_if_to}
use Rattle.k_work.proofs.Numbers.{at_below, constant_below}
use Rattle.k_types.proofs.Lists.{set_below}

abbrev work_row : ℕ → ℕ → WorkRow
work_row n w = record { collections = n; work = w }

abbrev table : List WorkRow → WorkRow → Work
table procs closing = record { procs = procs; closing = closing }

abbrev credit : Option ℕ → ℕ → Credit
credit to work = record { to = to; work = work }

-- a table without credits
pub empty_table : (n : ℕ) → table (replicate n (work_row 0 0)) (work_row 0 0) ≡ table_of n []
empty_table n = ap (λ (ps : List WorkRow). table ps (work_row 0 0)) (sym (constant_below (work_row 0 0) n))

-- a table of so many rows that are alike
pub empty_as : (n : ℕ) (items : List WorkRow) (none : WorkRow) → items ≡ replicate n none → none ≡ work_row 0 0 → table items none ≡ table_of n []
empty_as n items none all is = ap₂ table (all ∙ ap (λ (r : WorkRow). replicate n r) is) is ∙ empty_table n

-- another's row stays
others_row : (cs : List Credit) (to who : Option ℕ) (work : ℕ) → is_same who to ≡ false → row_of (cs ++ credit to work ∷ []) who ≡ row_of cs who
others_row cs to who work other =
    let none : one_if_to who (credit to work) ≡ 0 = ap (λ (b : Bool). cond b 1 0) other in
    let nothing : work_if_to who (credit to work) ≡ 0 = ap (λ (b : Bool). cond b work 0) other in
    let n : total (one_if_to who) (cs ++ credit to work ∷ []) ≡ total (one_if_to who) cs = omega (arith, total_push (one_if_to who) cs (credit to work), none) in
    let w : total (work_if_to who) (cs ++ credit to work ∷ []) ≡ total (work_if_to who) cs = omega (arith, total_push (work_if_to who) cs (credit to work), nothing) in
    ap₂ work_row n w

-- theirs has one more
their_row : (cs : List Credit) (to : Option ℕ) (work : ℕ) → is_same to to ≡ true → row_of (cs ++ credit to work ∷ []) to ≡ with_work work (row_of cs to)
their_row cs to work same =
    let one : one_if_to to (credit to work) ≡ 1 = ap (λ (b : Bool). cond b 1 0) same in
    let all : work_if_to to (credit to work) ≡ work = ap (λ (b : Bool). cond b work 0) same in
    let n : total (one_if_to to) (cs ++ credit to work ∷ []) ≡ total (one_if_to to) cs + 1 = omega (arith, total_push (one_if_to to) cs (credit to work), one) in
    let w : total (work_if_to to) (cs ++ credit to work ∷ []) ≡ total (work_if_to to) cs + work = omega (arith, total_push (work_if_to to) cs (credit to work), all) in
    ap₂ work_row n w

-- a table with one credit more
table_next : (n : ℕ) (cs : List Credit) (to : Option ℕ) (work : ℕ) → IsAmong n to → with_credit to work (table_of n cs) ≡ table_of n (cs ++ credit to work ∷ [])
table_next n cs None work among =
    ap₂ table
    (ap (λ (f : ℕ → WorkRow). map f (numbers_below n)) (fun_ext (λ p. sym (others_row cs None (Some p) work refl))))
    (sym (their_row cs None work refl))
table_next n cs (Some q) work among =
    let there : get_or (map (λ p. row_of cs (Some p)) (numbers_below n)) q (work_row 0 0) ≡ row_of cs (Some q) = at_below (λ p. row_of cs (Some p)) n q (work_row 0 0) among in
    ap₂ table
    (sym (set_below (λ p. row_of (cs ++ credit (Some q) work ∷ []) (Some p)) (λ p. row_of cs (Some p)) n q
    (with_work work (get_or (map (λ p. row_of cs (Some p)) (numbers_below n)) q (work_row 0 0)))
    (their_row cs (Some q) work (eq-eqb q q refl) ∙ ap (with_work work) (sym there))
    (λ p ne. others_row cs (Some q) (Some p) work (ne_eqb p q ne))))
    (sym (others_row cs (Some q) None work refl))

-- a table with more credits
pub table_more : (n : ℕ) (cs ds : List Credit) → AllByRecursion (λ (c : Credit). IsAmong n c.to) ds → with_credits ds (table_of n cs) ≡ table_of n (cs ++ ds)
table_more n cs [] among = ap (table_of n) (sym (append-nil cs))
table_more n cs (d ∷ ds) among =
    ap (with_credits ds) (table_next n cs d.to d.work among.0)
    ∙ table_more n (cs ++ d ∷ []) ds among.1
    ∙ ap (table_of n) (append_assoc cs (d ∷ []) ds)

-- the row of somebody is no more than all
pub row_within : (n : ℕ) (cs : List Credit) (to : Option ℕ) → IsAmong n to → ((row_for (table_of n cs) to).collections ≤ length cs) × ((row_for (table_of n cs) to).work ≤ total (λ c. c.work) cs)
row_within n cs to among =
    subst (λ (r : WorkRow). (r.collections ≤ length cs) × (r.work ≤ total (λ c. c.work) cs)) (sym (is n cs to among))
    (omega (arith, total_at_most (one_if_to to) (λ c. 1) (λ c. one_low (is_same to c.to)) cs, ones cs), total_at_most (work_if_to to) (λ c. c.work) (λ c. work_low c.work (is_same to c.to)) cs)
  where
    is : (n : ℕ) (cs : List Credit) (to : Option ℕ) → IsAmong n to → row_for (table_of n cs) to ≡ row_of cs to
    is n cs None among = refl
    is n cs (Some p) among = at_below (λ p. row_of cs (Some p)) n p (work_row 0 0) among

    one_low : (b : Bool) → cond b 1 0 ≤ 1
    one_low true = omega arith
    one_low false = omega arith

    work_low : (w : ℕ) (b : Bool) → cond b w 0 ≤ w
    work_low w true = omega arith
    work_low w false = omega arith

-- ---- sums

abbrev given : (Credit → ℕ) → Option ℕ → Credit → ℕ
given f to c = cond (is_same to c.to) (f c) 0

one_given : (f : Credit → ℕ) (n : ℕ) (to : Option ℕ) (work : ℕ) → IsAmong n to → total (λ p. given f (Some p) (credit to work)) (numbers_below n) + given f None (credit to work) ≡ f (credit to work)
one_given f n None work among =
    let none : total (λ p. given f (Some p) (credit None work)) (numbers_below n) ≡ 0 = zeros (numbers_below n) in
    let mine : given f None (credit None work) ≡ f (credit None work) = refl in
    omega (arith, none, mine)
one_given f n (Some q) work among =
    let one : total (λ p. given f (Some p) (credit (Some q) work)) (numbers_below n) ≡ f (credit (Some q) work) = one_counts (λ p. f (credit (Some q) work)) q 0 n (omega arith) (omega (arith, among)) in
    let none : given f None (credit (Some q) work) ≡ 0 = refl in
    omega (arith, one, none)

all_given : (f : Credit → ℕ) (n : ℕ) (cs : List Credit) → AllByRecursion (λ (c : Credit). IsAmong n c.to) cs → total (λ p. total (given f (Some p)) cs) (numbers_below n) + total (given f None) cs ≡ total f cs
all_given f n [] among = let none : total (λ p. total (given f (Some p)) []) (numbers_below n) ≡ 0 = zeros (numbers_below n) in omega (arith, none)
all_given f n (c ∷ cs) among =
    let apart : total (λ p. total (given f (Some p)) (c ∷ cs)) (numbers_below n) ≡ total (λ p. given f (Some p) c) (numbers_below n) + total (λ p. total (given f (Some p)) cs) (numbers_below n)
    = sum_both (λ p. given f (Some p) c) (λ p. total (given f (Some p)) cs) (numbers_below n) in
    let here : total (λ p. given f (Some p) c) (numbers_below n) + given f None c ≡ f c = one_given f n c.to c.work among.0 in
    let there = all_given f n cs among.1 in
    omega (arith, apart, here, there)

-- the sum of all rows is how many credits there are, and all their work
pub rows_collections : (n : ℕ) (cs : List Credit) → AllByRecursion (λ (c : Credit). IsAmong n c.to) cs → (total_row (table_of n cs)).collections ≡ total (λ c. 1) cs
rows_collections n cs among =
    ap (λ k. k + total (one_if_to None) cs) (total_map (λ (r : WorkRow). r.collections) (λ p. row_of cs (Some p)) (numbers_below n)) ∙ all_given (λ c. 1) n cs among

pub rows_work : (n : ℕ) (cs : List Credit) → AllByRecursion (λ (c : Credit). IsAmong n c.to) cs → (total_row (table_of n cs)).work ≡ total (λ c. c.work) cs
rows_work n cs among =
    ap (λ k. k + total (work_if_to None) cs) (total_map (λ (r : WorkRow). r.work) (λ p. row_of cs (Some p)) (numbers_below n)) ∙ all_given (λ c. c.work) n cs among
