-- A hard limit of maximum 0 weighs nothing: where it hangs changes no use, and no path.
use Rattle.std.proofs.Common.{◌≡◌, ◌⊎◌, ℕ, zero, suc, ◌+◌, ◌<◌, ◌≤◌, nat_lt, Bool, true, false, cond, refl, sym, ap, ap₂, ◌∙◌, List, [], ◌∷◌, ◌++◌, map, find, length, drop, get_or, Option, Some, None, inl, inr, arith, subst}
use Rattle.std.proofs.Math.Path.{fun_ext}
use Rattle.k_types.specs.Totals.{total}
use Rattle.k_types.specs.declared.names.LimitId.{LimitId}
use Rattle.k_types.specs.declared.setup.LimitRow.{LimitRow}
use Rattle.k_types.specs.Trace.{row_of}
use Rattle.k_types.specs.Numbers.{numbers_below, numbers_from}
use Rattle.k_types.specs.Limits.{use_within, max_of, is_parent, path_within, path_above, path_of, with_maxima}
use Rattle.k_types.proofs.Sums.{sum_same, sum-filter}

-- the limit is hard and has the maximum 0
pub record IsNothing (rows : List LimitRow) (c : ℕ) : Type 0 where
  pub hard : (row_of rows c).hard ≡ true
  pub maximum : max_of rows c ≡ 0

-- the limit is the same in both, or nothing in both
abbrev pub IsAlike : List LimitRow → List LimitRow → ℕ → Type 0
IsAlike others rows c = (row_of others c ≡ row_of rows c) ⊎ (IsNothing others c × IsNothing rows c)

no_weight : (b hard : Bool) (max below : ℕ) → hard ≡ true → max ≡ 0 → cond b (cond hard max below) 0 ≡ 0
no_weight true hard max below e none = ap (λ h. cond h max below) e ∙ none
no_weight false hard max below e none = refl

module _ (others rows : List LimitRow) (long : length others ≡ length rows) (alike : (c : ℕ) → IsAlike others rows c) where
  pub max_same : (c : ℕ) → max_of others c ≡ max_of rows c
  max_same c = go (alike c)
    where
      go : IsAlike others rows c → max_of others c ≡ max_of rows c
      go (inl same) = ap (λ (row : LimitRow). row.max) same
      go (inr none) = none.0.maximum ∙ sym none.1.maximum

  pub use_same : (d : ℕ → ℕ) (depth m : ℕ) → use_within others d depth m ≡ use_within rows d depth m
  unfolding use_within
  use_same d zero m = refl
  use_same d (suc depth) m =
      let f : ℕ → ℕ = λ c. cond (row_of others c).hard (max_of others c) (use_within others d depth c) in
      let g : ℕ → ℕ = λ c. cond (row_of rows c).hard (max_of rows c) (use_within rows d depth c) in
      ap (λ n. d m + n)
      (sum-filter (λ c. is_parent (row_of others c).parent m) f (numbers_below (length others))
      ∙ ap (λ n. total (λ c. cond (is_parent (row_of others c).parent m) (f c) 0) (numbers_below n)) long
      ∙ sum_same _ _ (λ c. at c (alike c) (use_same d depth c)) (numbers_below (length rows))
      ∙ sym (sum-filter (λ c. is_parent (row_of rows c).parent m) g (numbers_below (length rows))))
    where
      at : (c : ℕ) → IsAlike others rows c → use_within others d depth c ≡ use_within rows d depth c →
          cond (is_parent (row_of others c).parent m) (cond (row_of others c).hard (max_of others c) (use_within others d depth c)) 0
          ≡ cond (is_parent (row_of rows c).parent m) (cond (row_of rows c).hard (max_of rows c) (use_within rows d depth c)) 0
      at c (inl same) ih =
          ap (λ (row : LimitRow). cond (is_parent row.parent m) (cond row.hard row.max (use_within others d depth c)) 0) same
          ∙ ap (λ n. cond (is_parent (row_of rows c).parent m) (cond (row_of rows c).hard (max_of rows c) n) 0) ih
      at c (inr none) ih =
          no_weight (is_parent (row_of others c).parent m) (row_of others c).hard (max_of others c) (use_within others d depth c) none.0.hard none.0.maximum
          ∙ sym (no_weight (is_parent (row_of rows c).parent m) (row_of rows c).hard (max_of rows c) (use_within rows d depth c) none.1.hard none.1.maximum)

  path_same : (depth m : ℕ) → path_within others depth m ≡ path_within rows depth m
  unfolding path_within
  path_same zero m = refl
  path_same (suc depth) m = go (alike m) (path_same depth)
    where
      above : (hard : Bool) (parent : Option LimitId) → ((r : ℕ) → path_within others depth r ≡ path_within rows depth r) →
          path_above (path_within others depth) hard parent ≡ path_above (path_within rows depth) hard parent
      above true parent ih = refl
      above false None ih = refl
      above false (Some r) ih = ih r.0

      go : IsAlike others rows m → ((r : ℕ) → path_within others depth r ≡ path_within rows depth r) →
          m ∷ path_above (path_within others depth) (row_of others m).hard (row_of others m).parent ≡ m ∷ path_above (path_within rows depth) (row_of rows m).hard (row_of rows m).parent
      go (inl same) ih =
          ap (λ (row : LimitRow). m ∷ path_above (path_within others depth) row.hard row.parent) same
          ∙ ap (λ up. m ∷ up) (above (row_of rows m).hard (row_of rows m).parent ih)
      go (inr none) ih =
          ap (λ b. m ∷ path_above (path_within others depth) b (row_of others m).parent) none.0.hard
          ∙ sym (ap (λ b. m ∷ path_above (path_within rows depth) b (row_of rows m).parent) none.1.hard)

  paths_same : (m : ℕ) → path_of others m ≡ path_of rows m
  paths_same m = ap (λ n. path_within others n m) long ∙ path_same (length rows) m

  -- the first full limit on a path is the same where the uses are
  pub full_same : (used used' : ℕ → ℕ) → ((q : ℕ) → used' q ≡ used q) → (m n : ℕ) →
      find (λ q. nat_lt (max_of others q) (used' q + n)) (path_of others m) ≡ find (λ q. nat_lt (max_of rows q) (used q + n)) (path_of rows m)
  full_same used used' same m n =
      ap₂ (λ (test : ℕ → Bool) path. find test path) (fun_ext (λ q. ap₂ (λ max u. nat_lt max (u + n)) (max_same q) (same q))) (paths_same m)

-- two lists of limits with the same front, and the same maxima
front_alike : (front xs ys : List LimitRow) (maxima : List ℕ) → length front ≤ length maxima →
    ((c : ℕ) → IsAlike (with_maxima xs (drop (length front) maxima)) (with_maxima ys (drop (length front) maxima)) c) →
    (c : ℕ) → IsAlike (with_maxima (front ++ xs) maxima) (with_maxima (front ++ ys) maxima) c
front_alike [] xs ys maxima long tails c = tails c
front_alike (row ∷ front) xs ys [] long tails c = absurd (omega (arith, long))
front_alike (row ∷ front) xs ys (max ∷ maxima) long tails zero = inl refl
front_alike (row ∷ front) xs ys (max ∷ maxima) long tails (suc c) = step (front_alike front xs ys maxima (omega (arith, long)) tails c)
  where
    step : IsAlike (with_maxima (front ++ xs) maxima) (with_maxima (front ++ ys) maxima) c → IsAlike (with_maxima ((row ∷ front) ++ xs) (max ∷ maxima)) (with_maxima ((row ∷ front) ++ ys) (max ∷ maxima)) (suc c)
    step (inl same) = inl same
    step (inr none) = inr (record { hard = none.0.hard; maximum = none.0.maximum }, record { hard = none.1.hard; maximum = none.1.maximum })

-- the rows that two functions give for a number are the same, or hard in both where the maximum is 0
abbrev pub IsEither : (ℕ → LimitRow) → (ℕ → LimitRow) → ℕ → ℕ → Type 0
IsEither g k p max = (g p ≡ k p) ⊎ (((g p).hard ≡ true) × ((k p).hard ≡ true) × (max ≡ 0))

tails_alike : (g k : ℕ → LimitRow) (first n : ℕ) (maxima : List ℕ) → length maxima ≡ n → ((i : ℕ) → i < n → IsEither g k (first + i) (get_or maxima i 0)) →
    (c : ℕ) → IsAlike (with_maxima (map g (numbers_from first n)) maxima) (with_maxima (map k (numbers_from first n)) maxima) c
tails_alike g k first zero maxima long same c = inl refl
tails_alike g k first (suc n) [] long same c = absurd (omega (arith, long))
tails_alike g k first (suc n) (max ∷ maxima) long same zero = here (same 0 (omega arith))
  where
    at : first + 0 ≡ first
    at = omega arith

    here : IsEither g k (first + 0) max → IsAlike (with_maxima (map g (numbers_from first (suc n))) (max ∷ maxima)) (with_maxima (map k (numbers_from first (suc n))) (max ∷ maxima)) zero
    here (inl e) = inl (ap (λ (row : LimitRow). record row { max = max }) (sym (ap g at) ∙ e ∙ ap k at))
    here (inr none) = inr (
      record { hard = sym (ap (λ p. (g p).hard) at) ∙ none.0; maximum = none.2 },
      record { hard = sym (ap (λ p. (k p).hard) at) ∙ none.1; maximum = none.2 },
    )
tails_alike g k first (suc n) (max ∷ maxima) long same (suc c) =
    step (tails_alike g k (suc first) n maxima (omega (arith, long)) (λ i low. subst (λ p. IsEither g k p (get_or maxima i 0)) (next i) (same (suc i) (omega (arith, low)))) c)
  where
    next : (i : ℕ) → first + suc i ≡ suc first + i
    next i = omega arith

    step : IsAlike (with_maxima (map g (numbers_from (suc first) n)) maxima) (with_maxima (map k (numbers_from (suc first) n)) maxima) c →
        IsAlike (with_maxima (map g (numbers_from first (suc n))) (max ∷ maxima)) (with_maxima (map k (numbers_from first (suc n))) (max ∷ maxima)) (suc c)
    step (inl same) = inl same
    step (inr none) = inr (record { hard = none.0.hard; maximum = none.0.maximum }, record { hard = none.1.hard; maximum = none.1.maximum })

-- rows behind a common front that differ only in hard limits of maximum 0
pub alike_behind : (front : List LimitRow) (g k : ℕ → LimitRow) (first n : ℕ) (maxima : List ℕ) → length maxima ≡ length front + n →
    ((i : ℕ) → i < n → IsEither g k (first + i) (get_or (drop (length front) maxima) i 0)) →
    (c : ℕ) → IsAlike (with_maxima (front ++ map g (numbers_from first n)) maxima) (with_maxima (front ++ map k (numbers_from first n)) maxima) c
alike_behind front g k first n maxima long same c =
    front_alike front (map g (numbers_from first n)) (map k (numbers_from first n)) maxima (omega (arith, long))
    (tails_alike g k first n (drop (length front) maxima) (rest front maxima long) same) c
  where
    rest : (front : List LimitRow) (maxima : List ℕ) → length maxima ≡ length front + n → length (drop (length front) maxima) ≡ n
    rest [] maxima long = omega (arith, long)
    rest (row ∷ front) [] long = absurd (omega (arith, long))
    rest (row ∷ front) (max ∷ maxima) long = rest front maxima (omega (arith, long))
