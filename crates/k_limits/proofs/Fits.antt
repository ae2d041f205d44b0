-- Rows are not refused exactly where all that they reserve fits.
use Rattle.std.proofs.Common.{◌≡◌, ℕ, zero, suc, ◌+◌, ◌-◌, ◌*◌, ◌<◌, ◌≤◌, ◌↔◌, false, refl, ap, ◌∙◌, sym, subst, List, [], ◌∷◌, ◌++◌, length, take, find, replicate, slice_index, Option, Some, None, is_some, arith, inl, inr}
use Rattle.std.proofs.Math.Seq.{take-length}
use Rattle.std.proofs.lemmas.List.{length-replicate, get_or-replicate, take_more, replicate-append-replicate}
use Rattle.k_types.specs.declared.names.LimitId.{LimitId}
use Rattle.k_types.specs.declared.setup.LimitRow.{LimitRow}
use Rattle.k_types.specs.Trace.{row_of, no_row}
use Rattle.k_types.specs.TraceRules.{IsTree}
use Rattle.k_types.specs.Limits.{max_of, use_within}
use Rattle.k_limits.specs.Limits.{ChargedLimits, charged_limits, use_at, is_full_at}
use Rattle.k_limits.specs.Rows.{uncharged, is_refused, first_refused}
use Rattle.k_limits.specs.Paths.{InRows, path_from, reserved_from, times_on}
use Rattle.k_limits.specs.Laws.{ReservesFit}
use Rattle.k_types.proofs.Lists.{length_push}
use Rattle.k_limits.proofs.Uses.{cases_lt, room_for, none_full}
use Rattle.k_limits.proofs.Reserves.{row_before, tree_before, reserved_in, refused_is, use_reserved, use_of_last}
use Rattle.k_limits.proofs.Making.{none_from, find_none_from, take_tree}
use Rattle.k_limits.proofs.MachineUses.{use_same}

-- with nothing charged each limit has room for what is reserved at it
abbrev pub AllFit : List LimitRow → Type 0
AllFit rows = (m : ℕ) → m < length rows → use_at (uncharged rows) m ≤ max_of rows m

-- which is to say that all reserves fit
pub use_uncharged : (rows : List LimitRow) (m : ℕ) → m < length rows → use_at (uncharged rows) m ≡ use_within rows (λ q. 0) (length rows) m
use_uncharged rows m known = use_same rows (slice_index (replicate (length rows) 0)) (λ q. 0) (λ q inside. get_or-replicate (length rows) q 0 0 inside) (length rows) m known

module _ (rows : List LimitRow) (row : LimitRow) (tree : IsTree (rows ++ row ∷ [])) where
  uncharged_more : uncharged (rows ++ row ∷ []) ≡ charged_limits (rows ++ row ∷ []) (replicate (length rows) 0 ++ 0 ∷ [])
  uncharged_more = ap (charged_limits (rows ++ row ∷ [])) (ap (λ (k : ℕ). replicate k 0) (length_push rows row) ∙ sym (replicate-append-replicate (length rows) 1 0))

  use_more_at : (m : ℕ) → m < length rows → use_at (uncharged (rows ++ row ∷ [])) m ≡ use_at (uncharged rows) m + row.max * times_on (path_from rows (reserved_from row)) m
  use_more_at m known = ap (λ (l : ChargedLimits). use_at l m) uncharged_more ∙ use_reserved (uncharged rows) row tree (length-replicate (length rows) 0) m known

  use_last_at : use_at (uncharged (rows ++ row ∷ [])) (length rows) ≡ 0
  use_last_at = ap (λ (l : ChargedLimits). use_at l (length rows)) uncharged_more ∙ use_of_last (uncharged rows) row tree (length-replicate (length rows) 0)

  max_before : (m : ℕ) → m < length rows → max_of (rows ++ row ∷ []) m ≡ max_of rows m
  max_before m known = ap (λ (r : LimitRow). r.max) (row_before rows row m known)

  none_of_false : (o : Option ℕ) → is_some o ≡ false → o ≡ None
  none_of_false None no_value = refl
  none_of_false (Some x) no_value = absurd (cc)

  room_from_fit : AllFit rows → (from : Option LimitId) → InRows rows from → find (is_full_at (uncharged rows) row.max) (path_from rows from) ≡ None → (m : ℕ) → m < length rows →
      use_at (uncharged rows) m + row.max * times_on (path_from rows from) m ≤ max_of rows m
  room_from_fit fit None inside none m known = omega (arith, fit m known)
  room_from_fit fit (Some r) inside none m known = room_for (uncharged rows) (tree_before rows row tree) r.0 inside fit row.max none m known

  full_from_room : (from : Option LimitId) → InRows rows from → ((m : ℕ) → m < length rows → use_at (uncharged rows) m + row.max * times_on (path_from rows from) m ≤ max_of rows m) →
      find (is_full_at (uncharged rows) row.max) (path_from rows from) ≡ None
  full_from_room None inside room = refl
  full_from_room (Some r) inside room = none_full (uncharged rows) (tree_before rows row tree) r.0 inside row.max room

  pub fit_more : AllFit rows → is_refused (uncharged rows) row ≡ false → AllFit (rows ++ row ∷ [])
  fit_more fit not_refused m inside =
      let none = none_of_false (find (is_full_at (uncharged rows) row.max) (path_from rows (reserved_from row))) (sym (refused_is (uncharged rows) row) ∙ not_refused) in
      elim (cases_lt m (length rows)) [
        | inl before ↦ (let room = room_from_fit fit (reserved_from row) (reserved_in rows row tree) none m before in omega (arith, use_more_at m before, room, max_before m before))
        | inr after ↦ (let last : m ≡ length rows = (let more = length_push rows row in omega (arith, after, inside, more)) in let nothing = ap (use_at (uncharged (rows ++ row ∷ []))) last ∙ use_last_at in omega (arith, nothing))
      ]

  fit_room : AllFit (rows ++ row ∷ []) → (m : ℕ) → m < length rows → use_at (uncharged rows) m + row.max * times_on (path_from rows (reserved_from row)) m ≤ max_of rows m
  fit_room fit m known = let whole = fit m (let more = length_push rows row in omega (arith, known, more)) in omega (arith, whole, use_more_at m known, max_before m known)

  pub fit_less : AllFit (rows ++ row ∷ []) → AllFit rows
  fit_less fit m known = omega (arith, fit_room fit m known)

  pub not_refused_of_fit : AllFit (rows ++ row ∷ []) → is_refused (uncharged rows) row ≡ false
  not_refused_of_fit fit = refused_is (uncharged rows) row ∙ ap is_some (full_from_room (reserved_from row) (reserved_in rows row tree) (fit_room fit))

module _ (rows : List LimitRow) (tree : IsTree rows) where
  next : (n : ℕ) → n < length rows → take (n + 1) rows ≡ take n rows ++ row_of rows n ∷ []
  next n inside = take_more rows n no_row inside

  next_tree : (n : ℕ) → n < length rows → IsTree (take n rows ++ row_of rows n ∷ [])
  next_tree n inside = subst IsTree (next n inside) (take_tree rows tree (n + 1) (omega (arith, inside)))

  -- none is refused, so all fit
  fit_up : ((at : ℕ) → at < length rows → is_refused (uncharged (take at rows)) (row_of rows at) ≡ false) → (n : ℕ) → n ≤ length rows → AllFit (take n rows)
  fit_up none zero le = λ m known. absurd (omega (arith, known))
  fit_up none (suc n) le =
      let more : suc n ≡ n + 1 = omega arith in
      let e : take n rows ++ row_of rows n ∷ [] ≡ take (suc n) rows = sym (next n (omega (arith, le))) ∙ ap (λ (k : ℕ). take k rows) (sym more) in
      subst AllFit e (fit_more (take n rows) (row_of rows n) (next_tree n (omega (arith, le))) (fit_up none n (omega (arith, le))) (none n (omega (arith, le))))

  -- all fit, so the rows before any fit
  fit_down : AllFit rows → (gone n : ℕ) → n + gone ≡ length rows → AllFit (take n rows)
  fit_down fit zero n is = subst AllFit (sym (ap (λ (k : ℕ). take k rows) (let e : n ≡ length rows = omega (arith, is) in e) ∙ take-length rows)) fit
  fit_down fit (suc gone) n is =
      fit_less (take n rows) (row_of rows n) (next_tree n (omega (arith, is))) (subst AllFit (next n (omega (arith, is))) (fit_down fit gone (n + 1) (omega (arith, is))))

  fit_before : AllFit rows → (n : ℕ) → n ≤ length rows → AllFit (take n rows)
  fit_before fit n le = let e : n + (length rows - n) ≡ length rows = omega (arith, le) in fit_down fit (length rows - n) n e

  not_refused : AllFit rows → (at : ℕ) → at < length rows → is_refused (uncharged (take at rows)) (row_of rows at) ≡ false
  not_refused fit at inside = not_refused_of_fit (take at rows) (row_of rows at) (next_tree at inside) (subst AllFit (next at inside) (fit_before fit (at + 1) (omega (arith, inside))))

  pub none_refused : (first_refused rows ≡ None) ↔ ReservesFit rows
  none_refused = (there, back)
    where
      there : first_refused rows ≡ None → ReservesFit rows
      there none m known =
          let fit = subst AllFit (take-length rows) (fit_up (λ at inside. none_from (λ k. is_refused (uncharged (take k rows)) (row_of rows k)) 0 (length rows) none at (omega arith) (omega (arith, inside))) (length rows) (omega arith)) in
          omega (arith, fit m known, use_uncharged rows m known)

      back : ReservesFit rows → first_refused rows ≡ None
      back fits =
          let fit : AllFit rows = λ m known. omega (arith, fits m known, use_uncharged rows m known) in
          find_none_from (λ k. is_refused (uncharged (take k rows)) (row_of rows k)) 0 (length rows) (λ k _ below. not_refused fit k (omega (arith, below)))
