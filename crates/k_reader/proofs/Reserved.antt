-- What hard limits reserve fits.
use Rattle.std.proofs.Common.{◌≡◌, ◌∙◌, ℕ, zero, suc, ◌+◌, ◌*◌, ◌<◌, ◌≤◌, Bool, true, false, cond, not, ◌||◌, eqb, ltb, List, [], ◌∷◌, ◌++◌, length, find, Option, Some, None, refl, sym, ap, arith, inl, inr, eq-eqb, ne_eqb, length-append}
use Rattle.std.proofs.lemmas.Bool.{cases_lt, cases_eq, le-ltb}
use Rattle.std.proofs.lemmas.Bool.Decides.{nat_tests}
use Rattle.k_limits.specs.k_types.declared.setup.LimitRow.{LimitRow}
use Rattle.k_limits.specs.k_types.State.{opening}
use Rattle.k_limits.specs.k_types.Limits.{use_within, max_of, path_of, full_limit}
use Rattle.k_limits.specs.k_types.TraceRules.{IsTree}
use Rattle.k_limits.specs.Paths.{times_on}
use Rattle.k_limits.proofs.Sums.{bit}
use Rattle.k_limits.proofs.Maxima.{own_maxima}
use Rattle.k_limits.proofs.Walks.{path_low, path_once}
use Rattle.k_limits.proofs.Charges.{use_charged, use_deep}
use Rattle.k_limits.proofs.Reserves.{reservation, use_before, use_last, tree_before, row_before}
use Rattle.k_limits.proofs.Uses.{none_found, none_finds}
use Rattle.k_trace.specs.Grown.{fits, fits_by, bare_trace}
use Rattle.k_reader.proofs.Steps.{root_row, limit_row}

-- with nothing charged, what is used at each limit is at most its maximum
abbrev pub AllFit : List LimitRow → Type 0
AllFit rows = (m : ℕ) → m < length rows → use_within rows (λ q. 0) (length rows) m ≤ max_of rows m

pub fit_none : AllFit []
fit_none m lt = absurd (omega arith)

pub fit_root : (max : ℕ) → AllFit (root_row max ∷ [])
unfolding use_within
fit_root max m lt = omega arith

-- n more bytes don't fit at the limit itself
abbrev over : List LimitRow → ℕ → ℕ → Bool
over rows n q = ltb (max_of rows q) (use_within rows (λ m. 0) (length rows) q + n)

-- the machine's full limit, where nothing is charged
full_is : (rows : List LimitRow) (parent n : ℕ) → full_limit (bare_trace rows) (opening (bare_trace rows)) parent n ≡ find (over rows n) (path_of rows parent)
full_is rows parent n = ap (λ (rs : List LimitRow). find (λ q. ltb (max_of rs q) (use_within rs (λ m. 0) (length rs) q + n)) (path_of rs parent)) (own_maxima rows)

none_full : (found : Option ℕ) → fits_by found ≡ true → found ≡ None
none_full None e = refl
none_full (Some q) e = absurd cc

not_less : (a b : ℕ) → ltb a b ≡ false → b ≤ a
not_less a b e = grind (arith, nat_tests, e)

module _ (rows : List LimitRow) (parent : ℕ) (hard : Bool) (max : ℕ) (tree : IsTree (rows ++ limit_row parent hard max ∷ [])) (known : parent < length rows) where
  row : LimitRow
  row = limit_row parent hard max

  old_tree : IsTree rows
  unfolding row
  old_tree = tree_before rows row tree

  at_parent : (q : ℕ) → 0 + reservation (limit_row parent hard max) q ≡ 0 + cond hard max 0 * bit (eqb q parent)
  at_parent q = elim (cases_eq parent q) [
    | inl e ↦ let here = eq-eqb parent q e in let there = eq-eqb q parent (sym e) in rw (here, there) (omega arith)
    | inr ne ↦ let here = ne_eqb parent q ne in let there = ne_eqb q parent (λ e. ne (sym e)) in rw (here, there) (omega arith)
  ]

  use_grown : (m : ℕ) → m < length rows
      → use_within (rows ++ limit_row parent hard max ∷ []) (λ q. 0) (length (rows ++ limit_row parent hard max ∷ [])) m ≡ use_within rows (λ q. 0) (length rows) m + cond hard max 0 * times_on (path_of rows parent) m
  unfolding row
  use_grown m lt =
      let more = length-append rows (limit_row parent hard max ∷ []) in
      use_before rows (limit_row parent hard max) tree (λ q. 0) refl (length (rows ++ limit_row parent hard max ∷ [])) m lt
      ∙ use_deep rows old_tree (λ q. 0 + reservation (limit_row parent hard max) q) (length (rows ++ limit_row parent hard max ∷ [])) (length rows) m lt (omega (arith, more)) (omega arith)
      ∙ use_charged rows old_tree parent known (λ q. 0) (λ q. 0 + reservation (limit_row parent hard max) q) (cond hard max 0) at_parent m

  use_new : use_within (rows ++ limit_row parent hard max ∷ []) (λ q. 0) (length (rows ++ limit_row parent hard max ∷ [])) (length rows) ≡ 0
  unfolding row
  use_new = use_last rows (limit_row parent hard max) tree (λ q. 0) refl (length (rows ++ limit_row parent hard max ∷ []))

  once : (m : ℕ) → times_on (path_of rows parent) m ≤ 1
  once m = path_once rows old_tree (length rows) parent m known

  on_path_in : (m : ℕ) → 0 < times_on (path_of rows parent) m → m < length rows
  on_path_in m there = elim (cases_lt parent m) [
    | inl after ↦ let none = path_low rows old_tree (length rows) parent m known after in absurd (omega (arith, none, there))
    | inr before ↦ omega (arith, before, known)
  ]

  fit_once : (m : ℕ) (b : Bool) → hard ≡ b → times_on (path_of rows parent) m ≡ 1 → m < length rows → AllFit rows → (hard ≡ true → find (over rows max) (path_of rows parent) ≡ None)
      → use_within rows (λ q. 0) (length rows) m + cond hard max 0 * 1 ≤ max_of rows m
  fit_once m true h e lt old none =
      let below : ltb (max_of rows m) (use_within rows (λ q. 0) (length rows) m + max) ≡ false = none_found (over rows max) (path_of rows parent) (none h) m (omega (arith, e)) in
      let le : use_within rows (λ q. 0) (length rows) m + max ≤ max_of rows m = not_less (max_of rows m) (use_within rows (λ q. 0) (length rows) m + max) below in
      rw h (omega (arith, le))
  fit_once m false h e lt old none = rw h (omega (arith, old m lt))

  fit_at : (m t : ℕ) → times_on (path_of rows parent) m ≡ t → m < length rows → AllFit rows → (hard ≡ true → find (over rows max) (path_of rows parent) ≡ None)
      → use_within rows (λ q. 0) (length rows) m + cond hard max 0 * t ≤ max_of rows m
  fit_at m zero e lt old none = omega (arith, old m lt)
  fit_at m (suc zero) e lt old none = fit_once m hard refl e lt old none
  fit_at m (suc (suc t)) e lt old none = absurd (omega (arith, e, once m))

  none_over : (not hard || fits rows parent max) ≡ true → hard ≡ true → find (over rows max) (path_of rows parent) ≡ None
  none_over room h = sym (full_is rows parent max) ∙ none_full _ (rw h at room)

  max_before : (m : ℕ) → m < length rows → max_of (rows ++ limit_row parent hard max ∷ []) m ≡ max_of rows m
  max_before m lt = ap (λ (r : LimitRow). r.max) (row_before rows (limit_row parent hard max) m lt)

  -- a limit more fits where its reservation does
  pub fit_limit : AllFit rows → (not hard || fits rows parent max) ≡ true → AllFit (rows ++ limit_row parent hard max ∷ [])
  fit_limit old room m lt = elim (cases_lt m (length rows)) [
    | inl below ↦ let h = fit_at m (times_on (path_of rows parent) m) refl below old (none_over room) in
        omega (arith, h, use_grown m below, max_before m below)
    | inr above ↦ let e : m ≡ length rows = omega (arith, length-append rows (limit_row parent hard max ∷ [])) in rw (e, use_new) (omega arith)
  ]

  -- where all fit with one more, they fit without it
  pub fit_before : AllFit (rows ++ limit_row parent hard max ∷ []) → AllFit rows
  fit_before all m lt =
      let h = all m (omega (arith, length-append rows (limit_row parent hard max ∷ []), lt)) in
      omega (arith, h, use_grown m lt, max_before m lt)

  not_over : AllFit (rows ++ limit_row parent hard max ∷ []) → hard ≡ true → (q : ℕ) → 0 < times_on (path_of rows parent) q → over rows max q ≡ false
  not_over all h q there =
      let lt = on_path_in q there in
      let whole = all q (omega (arith, length-append rows (limit_row parent hard max ∷ []), lt)) in
      let one : times_on (path_of rows parent) q ≡ 1 = omega (arith, there, once q) in
      let part : cond hard max 0 * times_on (path_of rows parent) q ≡ max = rw (one, h) (omega arith) in
      le-ltb (max_of rows q) (use_within rows (λ m. 0) (length rows) q + max) (omega (arith, whole, use_grown q lt, max_before q lt, part))

  room_in : (b : Bool) → hard ≡ b → AllFit (rows ++ limit_row parent hard max ∷ []) → (not hard || fits rows parent max) ≡ true
  room_in true h all = rw (h, full_is rows parent max, none_finds (over rows max) (path_of rows parent) (not_over all h)) refl
  room_in false h all = rw h refl

  -- and its reservation does
  pub fit_room : AllFit (rows ++ limit_row parent hard max ∷ []) → (not hard || fits rows parent max) ≡ true
  fit_room all = room_in hard refl all
