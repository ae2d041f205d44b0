-- The rows are put into the tree one by one.
use Rattle.std.proofs.Common.{◌≡◌, ℕ, zero, suc, ◌+◌, ◌<◌, ◌≤◌, Bool, true, false, cond, refl, ap, ◌∙◌, sym, subst, List, [], ◌∷◌, ◌++◌, length, take, find, replicate, Some, None, IsFalse, slice_index_or, Result, Ok, Err, IfErr, arith, inl, inr}
use Rattle.std.proofs.Math.Seq.{take-length}
use Rattle.std.proofs.lemmas.List.{get_or-take, length-take-le, take_more, replicate-append-replicate}
use Rattle.std.specs.Result.{IsErrAnd}
use Rattle.k_types.specs.Numbers.{numbers_from}
use Rattle.k_types.specs.declared.setup.LimitRow.{LimitRow}
use Rattle.k_types.specs.Trace.{row_of, no_row}
use Rattle.k_types.specs.TraceRules.{IsTree}
use Rattle.k_limits.specs.Limits.{ChargedLimits, charged_limits}
use Rattle.k_limits.specs.Rows.{AreRows, uncharged, is_refused, first_refused, Explains, ExplainsRow}
use Rattle.k_limits.specs.declared.error.MakeError.{MakeError}
use Rattle.k_limits.specs.declared.error.MakeError.TheVariants.{ReserveFull, NoMemory}
use Rattle.k_limits.proofs.Uses.{cases_lt}
use Rattle.k_limits.proofs.Walks.{row_at}

-- a search of numbers in a row
find_from : (p : ℕ → Bool) (first n at : ℕ) → first ≤ at → at < first + n → ((k : ℕ) → first ≤ k → k < at → p k ≡ false) → p at ≡ true → find p (numbers_from first n) ≡ Some at
find_from p first zero at low high none here = absurd (omega (arith, low, high))
find_from p first (suc n) at low high none here =
    elim (cases_lt first at) [
      | inl before ↦ ap (λ b. cond b (Some first) (find p (numbers_from (suc first) n))) (none first (omega arith) before)
          ∙ find_from p (suc first) n at (omega (arith, before)) (omega (arith, high)) (λ k after below. none k (omega (arith, after)) below) here
      | inr past ↦ (let same : first ≡ at = omega (arith, low, past) in
          ap (λ b. cond b (Some first) (find p (numbers_from (suc first) n))) (ap p same ∙ here) ∙ ap (λ (k : ℕ). Some k) same)
    ]

pub find_none_from : (p : ℕ → Bool) (first n : ℕ) → ((k : ℕ) → first ≤ k → k < first + n → p k ≡ false) → find p (numbers_from first n) ≡ None
find_none_from p first zero none = refl
find_none_from p first (suc n) none =
    ap (λ b. cond b (Some first) (find p (numbers_from (suc first) n))) (none first (omega arith) (omega arith))
    ∙ find_none_from p (suc first) n (λ k low high. none k (omega (arith, low)) (omega (arith, high)))

-- what a search that finds nothing tells of each number
pub none_from : (p : ℕ → Bool) (first n : ℕ) → find p (numbers_from first n) ≡ None → (k : ℕ) → first ≤ k → k < first + n → p k ≡ false
none_from p first zero none k low high = absurd (omega (arith, low, high))
none_from p first (suc n) none k low high = go (p first) refl none (none_from p (suc first) n)
  where
    go : (b : Bool) → p first ≡ b → cond b (Some first) (find p (numbers_from (suc first) n)) ≡ None →
        (find p (numbers_from (suc first) n) ≡ None → (k : ℕ) → suc first ≤ k → k < suc first + n → p k ≡ false) → p k ≡ false
    go true is found ih = absurd (cc)
    go false is found ih =
        elim (cases_lt first k) [
          | inl after ↦ ih found k (omega (arith, after)) (omega (arith, high))
          | inr past ↦ (let same : first ≡ k = omega (arith, low, past) in subst (λ (z : ℕ). p z ≡ false) same is)
        ]

pub take_tree : (rows : List LimitRow) → IsTree rows → (n : ℕ) → n ≤ length rows → IsTree (take n rows)
take_tree rows tree n le m parent known is =
    let count = length-take-le n rows le in
    tree m parent (omega (arith, known, count, le)) (ap (λ (r : LimitRow). r.parent) (sym (get_or-take n rows m no_row (omega (arith, known, count)))) ∙ is)

module _ (rows : List LimitRow) (fine : AreRows rows) where
  row_taken : (n m : ℕ) → m < n → row_of (take n rows) m ≡ row_of rows m
  row_taken n m below = get_or-take n rows m no_row below

  taken_rows : (n : ℕ) → n ≤ length rows → AreRows (take n rows)
  taken_rows n le = record {
    tree = take_tree rows fine.tree n le;
    small = λ m known.
        let count = length-take-le n rows le in
        let same = ap (λ (r : LimitRow). r.max) (row_taken n m (omega (arith, known, count))) in
        let max = fine.small m (omega (arith, known, count, le)) in omega (arith, same, max);
  }

  -- the next row, as the code reads it
  taken_more : (n : ℕ) (d : LimitRow) → n < length rows → take (n + 1) rows ≡ take n rows ++ slice_index_or rows n d ∷ []
  taken_more n d inside = take_more rows n d inside

  module _ (tree : ChargedLimits) (n : ℕ) (d : LimitRow) (stands : tree ≡ uncharged (take n rows)) (inside : n < length rows) where
    pub next_row : AreRows (tree.rows ++ slice_index_or rows n d ∷ [])
    next_row =
        let le : n + 1 ≤ length rows = omega (arith, inside) in
        subst AreRows (taken_more n d inside ∙ ap (λ (l : ChargedLimits). l.rows ++ slice_index_or rows n d ∷ []) (sym stands)) (taken_rows (n + 1) le)

    refused_as : is_refused (uncharged (take n rows)) (row_of rows n) ≡ is_refused tree (slice_index_or rows n d)
    refused_as = ap (λ (r : LimitRow). is_refused (uncharged (take n rows)) r) (sym (row_at rows n d inside)) ∙ ap (λ (l : ChargedLimits). is_refused l (slice_index_or rows n d)) (sym stands)

    -- the row was put into the tree
    pub row_made : (after : ChargedLimits) → after.rows ≡ tree.rows ++ slice_index_or rows n d ∷ [] → after.direct ≡ tree.direct ++ 0 ∷ [] → after ≡ uncharged (take (n + 1) rows)
    row_made after er ed =
        let count : length (take n rows) ≡ n = length-take-le n rows (omega (arith, inside)) in
        let count' : length (take (n + 1) rows) ≡ n + 1 = length-take-le (n + 1) rows (omega (arith, inside)) in
        let er' = er ∙ ap (λ (l : ChargedLimits). l.rows ++ slice_index_or rows n d ∷ []) stands ∙ sym (taken_more n d inside) in
        let ed' : after.direct ≡ replicate (length (take (n + 1) rows)) 0 =
        ed ∙ ap (λ (l : ChargedLimits). l.direct ++ 0 ∷ []) stands ∙ replicate-append-replicate (length (take n rows)) 1 0 ∙ ap (λ (k : ℕ). replicate k 0) (ap (λ (k : ℕ). k + 1) count ∙ sym count') in
        (λ i. charged_limits (er' i) (ed' i))

    pub none_more : ((at : ℕ) → at < n → is_refused (uncharged (take at rows)) (row_of rows at) ≡ false) → IsFalse (is_refused tree (slice_index_or rows n d)) → (at : ℕ) → at < n + 1 → is_refused (uncharged (take at rows)) (row_of rows at) ≡ false
    none_more before here at below =
        elim (cases_lt at n) [
          | inl less ↦ before at less
          | inr more ↦ (let same : at ≡ n = omega (arith, below, more) in ap (λ (k : ℕ). is_refused (uncharged (take k rows)) (row_of rows k)) same ∙ (refused_as ∙ here))
        ]

    -- the row was not put into the tree
    pub explains : ((at : ℕ) → at < n → is_refused (uncharged (take at rows)) (row_of rows at) ≡ false) → (why : MakeError) → ExplainsRow tree (slice_index_or rows n d) why → Explains rows why
    explains before (ReserveFull at) reason =
        let count : length tree.rows ≡ n = ap (λ (l : ChargedLimits). length l.rows) stands ∙ length-take-le n rows (omega (arith, inside)) in
        let same : at ≡ n = reason.0 ∙ count in
        find_from (λ k. is_refused (uncharged (take k rows)) (row_of rows k)) 0 (length rows) n (omega arith) (omega (arith, inside)) (λ k _ below. before k below) (refused_as ∙ reason.1) ∙ ap (λ (k : ℕ). Some k) (sym same)
    explains before (NoMemory refused) reason = tt

  pub all_made : (tree : ChargedLimits) (n : ℕ) → tree ≡ uncharged (take n rows) → length rows ≤ n → n ≤ length rows → ((at : ℕ) → at < n → is_refused (uncharged (take at rows)) (row_of rows at) ≡ false) → (tree ≡ uncharged rows) × (first_refused rows ≡ None)
  all_made tree n stands past le before =
      let whole : n ≡ length rows = omega (arith, past, le) in (
        stands ∙ ap uncharged (ap (λ (k : ℕ). take k rows) whole ∙ take-length rows),
        find_none_from (λ k. is_refused (uncharged (take k rows)) (row_of rows k)) 0 (length rows) (λ k _ below. before k (omega (arith, below, past))),
      )

-- the error that a `?` hands on
pub handed_on : {T E : Type 0} (P : E → Type 0) (r : Result T E) (x : E) → IsErrAnd r (λ e. e ≡ x) → P x → IfErr r P
handed_on P (Ok t) x is so = tt
handed_on P (Err e) x is so = subst P (sym is) so
