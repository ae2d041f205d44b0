-- Operations and the order of the file, with one operation more.
use Rattle.std.proofs.Common.{◌≡◌, ◌∙◌, ℕ, ◌+◌, ◌<◌, Bool, true, false, cond, ◌||◌, eqb, ltb, List, [], ◌∷◌, ◌++◌, length, drop, refl, sym, ap, arith, append_assoc, eq-eqb}
use Rattle.std.proofs.lemmas.Bool.{eqb-true, false≢true, or_left, or_right}
use Rattle.std.proofs.lemmas.Grind.{common_steps}
use Rattle.std.specs.List.{list_all, count_by}
use Rattle.k_limits.specs.k_types.declared.op.Op.{Op}
use Rattle.k_limits.specs.k_types.declared.op.Op.TheVariants.{New, KNew, SNew, Share, Freeze, Attach, Kill, Resize}
use Rattle.k_limits.specs.k_types.Trace.{Trace, process_count}
use Rattle.k_limits.specs.k_types.Steps.{in_range}
use Rattle.k_limits.specs.k_types.TraceRules.{EndsWithExit, is_exit}
use Rattle.k_trace.specs.Named.{DeclaredNames}
use Rattle.k_trace.specs.Spelling.{first_line, after_first, operation_lines, line_words}
use Rattle.k_trace.specs.Grown.{has_exit}
use Rattle.std.proofs.lemmas.List.Folds.{list_any-append}

-- how often the process stands in the order
abbrev pub times : ℕ → List ℕ → ℕ
times p order = count_by (λ q. eqb q p) order

pub times_push : (p q : ℕ) (order : List ℕ) → times p (order ++ q ∷ []) ≡ times p order + cond (eqb q p) 1 0
times_push p q [] = grind (arith, common_steps)
times_push p q (r ∷ order) = grind (arith, common_steps, times_push p q order)

-- the operations of each process, with one more of p
abbrev pub Adds : ℕ → Op → (ℕ → List Op) → (ℕ → List Op) → Type 0
Adds p op f g = (q : ℕ) → g q ≡ cond (eqb q p) (f q ++ op ∷ []) (f q)

first_same : (names : DeclaredNames) (q : ℕ) (xs : List Op) (op : Op) → 0 < length xs → first_line names q (xs ++ op ∷ []) ≡ first_line names q xs
first_same names q [] op lt = absurd (omega arith)
first_same names q (x ∷ xs) op lt = refl

drop_push : (xs : List Op) (op : Op) → 0 < length xs → drop 1 (xs ++ op ∷ []) ≡ drop 1 xs ++ op ∷ []
drop_push [] op lt = absurd (omega arith)
drop_push (x ∷ xs) op lt = refl

one_less : (xs : List Op) (n : ℕ) → n + 1 ≡ length xs → n ≡ length (drop 1 xs)
one_less [] n e = absurd (omega (arith, e))
one_less (x ∷ xs) n e = omega (arith, e)

empty_is : (xs : List Op) → 0 ≡ length xs → xs ≡ []
empty_is [] e = refl
empty_is (x ∷ xs) e = absurd cc

pub times_head : (p q : ℕ) (order : List ℕ) → times p (q ∷ order) ≡ times p order + cond (eqb q p) 1 0
times_head p q order = grind (arith, common_steps)

-- at one process: the first operation goes, whether one more stands at the end or not
after_at : (t u : Bool) (xs ys : List Op) (op : Op) → ys ≡ cond u (xs ++ op ∷ []) xs → (t ≡ true → u ≡ true → 0 < length xs)
    → cond t (drop 1 ys) ys ≡ cond u (cond t (drop 1 xs) xs ++ op ∷ []) (cond t (drop 1 xs) xs)
after_at true true xs ys op e some = ap (drop 1) e ∙ drop_push xs op (some refl refl)
after_at true false xs ys op e some = ap (drop 1) e
after_at false true xs ys op e some = e
after_at false false xs ys op e some = e

some_at : (p q s : ℕ) (order : List ℕ) (f : ℕ → List Op) → times p (q ∷ order) ≡ length (f p) → eqb s q ≡ true → eqb s p ≡ true → 0 < length (f s)
some_at p q s order f counted a b =
    let e : s ≡ q = eqb-true s q a in
    let g : s ≡ p = eqb-true s p b in
    let h : eqb q p ≡ true = rw (← e) b in
    let k : times p order + 1 ≡ length (f p) = rw h at (sym (times_head p q order) ∙ counted) in
    rw g (omega (arith, k))

adds_after : (p q : ℕ) (op : Op) (order : List ℕ) (f g : ℕ → List Op) → Adds p op f g → times p (q ∷ order) ≡ length (f p) → Adds p op (after_first q f) (after_first q g)
adds_after p q op order f g adds counted s = after_at (eqb s q) (eqb s p) (f s) (g s) op (adds s) (some_at p q s order f counted)

counted_after : (t : Bool) (p q : ℕ) (order : List ℕ) (f : ℕ → List Op) → eqb q p ≡ t → times p (q ∷ order) ≡ length (f p) → times p order ≡ length (after_first q f p)
counted_after true p q order f e counted =
    let k : times p order + 1 ≡ length (f p) = rw e at (sym (times_head p q order) ∙ counted) in
    let g : eqb p q ≡ true = eq-eqb p q (sym (eqb-true q p e)) in
    rw g (one_less (f p) (times p order) k)
counted_after false p q order f e counted =
    let k : times p order + 0 ≡ length (f p) = rw e at (sym (times_head p q order) ∙ counted) in
    elim (eqb p q) as (λ b. eqb p q ≡ b → times p order ≡ length (cond b (drop 1 (f p)) (f p))) [
      | true ↦ λ g. absurd (let h : eqb q p ≡ true = eq-eqb q p (sym (eqb-true p q g)) in let i : true ≡ false = sym h ∙ e in cc)
      | false ↦ λ g. omega (arith, k)
    ] refl

first_push : (names : DeclaredNames) (t : Bool) (q : ℕ) (xs ys : List Op) (op : Op) → ys ≡ cond t (xs ++ op ∷ []) xs → (t ≡ true → 0 < length xs) → first_line names q ys ≡ first_line names q xs
first_push names true q xs ys op e some = ap (first_line names q) e ∙ first_same names q xs op (some refl)
first_push names false q xs ys op e some = ap (first_line names q) e

-- one operation more is one line more
pub lines_push : (names : DeclaredNames) (p : ℕ) (op : Op) (order : List ℕ) (f g : ℕ → List Op) → Adds p op f g → times p order ≡ length (f p)
    → operation_lines names g (order ++ p ∷ []) ≡ operation_lines names f order ++ line_words names p op ∷ []
lines_push names p op [] f g adds counted =
    let e : g p ≡ op ∷ [] = adds p ∙ rw (eq-eqb p p refl, empty_is (f p) counted) refl in
    rw e refl
lines_push names p op (q ∷ order) f g adds counted =
    let front = first_push names (eqb q p) q (f q) (g q) op (adds q) (λ t. some_at p q q order f counted (eq-eqb q q refl) t) in
    let rest = lines_push names p op order (after_first q f) (after_first q g) (adds_after p q op order f g adds counted) (counted_after (eqb q p) p q order f refl counted) in
    rw (front, rest) (sym (append_assoc (first_line names q (f q)) (operation_lines names (after_first q f) order) (line_words names p op ∷ [])))

-- ---- the rules of operations

-- the traces declare as much, in one version
pub record DeclareAlike (a b : Trace) : Type 0 where
  pub types : length a.types ≡ length b.types
  pub shared : a.shared_heaps ≡ b.shared_heaps
  pub procs : process_count a ≡ process_count b
  pub limits : length a.limits ≡ length b.limits
  pub version : a.version ≡ b.version

pub in_range_same : (a b : Trace) (op : Op) → DeclareAlike a b → in_range a op ≡ in_range b op
unfolding in_range
in_range_same a b (New r ty) alike = rw alike.types refl
in_range_same a b (KNew r ty) alike = rw alike.types refl
in_range_same a b (SNew r s ty) alike = rw (alike.types, alike.shared) refl
in_range_same a b (Share s) alike = rw alike.shared refl
in_range_same a b (Freeze s root) alike = rw alike.shared refl
in_range_same a b (Attach r s) alike = rw alike.shared refl
in_range_same a b (Kill q) alike = ap (λ (n : ℕ). ltb q.0 n) alike.procs
in_range_same a b (Resize m max) alike = rw alike.limits refl
in_range_same a b _ alike = refl

pub all_same : (p q : Op → Bool) (ops : List Op) → ((op : Op) → p op ≡ q op) → list_all p ops ≡ list_all q ops
all_same p q [] same = refl
all_same p q (x ∷ xs) same = rw (same x, all_same p q xs same) refl

-- no exit stands before the last operation
ends_push_at : (ops first rest : List Op) (o x : Op) → has_exit ops ≡ false → ops ++ o ∷ [] ≡ first ++ x ∷ rest → is_exit x ≡ true → rest ≡ []
ends_push_at [] [] rest o x none e exit = cc
ends_push_at [] (f ∷ []) rest o x none e exit = absurd cc
ends_push_at [] (f ∷ g ∷ first) rest o x none e exit = absurd cc
ends_push_at (y ∷ ys) [] rest o x none e exit =
    let f : y ≡ x = cc in
    let g : is_exit y ≡ true = rw f exit in
    let h : true ≡ false = rw g at none in absurd cc
ends_push_at (y ∷ ys) (f ∷ first) rest o x none e exit =
    let g : ys ++ o ∷ [] ≡ first ++ x ∷ rest = cc in
    ends_push_at ys first rest o x (later (is_exit y) (has_exit ys) none) g exit
  where
    later : (a b : Bool) → (a || b) ≡ false → b ≡ false
    later true b h = absurd cc
    later false b h = h

pub ends_push : (ops : List Op) (o : Op) → has_exit ops ≡ false → EndsWithExit (ops ++ o ∷ [])
ends_push ops o none first x rest e exit = ends_push_at ops first rest o x none e exit

pub ends_nil : EndsWithExit []
ends_nil [] op rest e exit = absurd cc
ends_nil (f ∷ first) op rest e exit = absurd cc

-- where none is an exit nothing follows one
pub none_ends : (ops : List Op) → has_exit ops ≡ false → EndsWithExit ops
none_ends ops none first op rest parted exit =
    absurd (false≢true (sym none ∙ ap has_exit parted ∙ list_any-append is_exit first (op ∷ rest) ∙ or_right (has_exit first) _ (or_left (is_exit op) (has_exit rest) exit)))
