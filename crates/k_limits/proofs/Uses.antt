-- The running uses stay right over a charge and a credit.
use Rattle.std.proofs.Common.{◌≡◌, ℕ, zero, suc, ◌+◌, ◌-◌, ◌*◌, ◌^◌, ◌<◌, ◌≤◌, ◌==◌, ◌⊎◌, nat_lt, Bool, true, false, cond, refl, ap, ◌∙◌, sym, subst, List, [], ◌∷◌, length, find, slice_index, slice_set, Some, None, arith, eq-eqb, ne_eqb, inl, inr}
use Rattle.std.proofs.lemmas.Bool.{cases_eq, ltb-true, le-ltb}
use Rattle.std.proofs.lemmas.Bool.Decides.{nat_tests}
use Rattle.std.proofs.lemmas.List.{get_or-set_same, get_or-set_other, length-set}
use Rattle.k_types.specs.TraceRules.{IsTree}
use Rattle.k_types.specs.Limits.{path_of, max_of}
use Rattle.k_limits.specs.Limits.{ChargedLimits, charged_limits, use_at, is_full_at, full_at}
use Rattle.k_limits.specs.Paths.{is_over, times_on, AreUses}
use Rattle.k_types.proofs.Sums.{bit}
use Rattle.k_limits.proofs.Walks.{path_low, path_once}
use Rattle.k_limits.proofs.Charges.{use_charged}
use Rattle.k_types.proofs.Charges.{direct_within}

times_first : (x : ℕ) (xs : List ℕ) → 0 < times_on (x ∷ xs) x
times_first x xs = let here = ap bit (eq-eqb x x refl) in omega (arith, here)

times_later : (x y : ℕ) (xs : List ℕ) → 0 < times_on xs y → 0 < times_on (x ∷ xs) y
times_later x y xs there = omega (arith, there)

-- a search looks at the tests of what stands in the list alone
pub find_same : (p q : ℕ → Bool) (xs : List ℕ) → ((x : ℕ) → 0 < times_on xs x → p x ≡ q x) → find p xs ≡ find q xs
find_same p q [] same = refl
find_same p q (x ∷ xs) same =
    let first = same x (times_first x xs) in
    let rest = find_same p q xs (λ y there. same y (times_later x y xs there)) in
    ap (λ b. cond b (Some x) (find p xs)) first ∙ ap (λ found. cond (q x) (Some x) found) rest

-- nothing that stands in the list passes a test that finds nothing
pub none_found : (p : ℕ → Bool) (xs : List ℕ) → find p xs ≡ None → (x : ℕ) → 0 < times_on xs x → p x ≡ false
none_found p [] none x there = absurd (omega (arith, there))
none_found p (y ∷ ys) none x there = go (p y) refl none (none_found p ys)
  where
    go : (b : Bool) → p y ≡ b → cond b (Some y) (find p ys) ≡ None → (find p ys ≡ None → (x : ℕ) → 0 < times_on ys x → p x ≡ false) → p x ≡ false
    go true is found ih = absurd (cc)
    go false is found ih =
        elim (cases_eq y x) [
          | inl e ↦ subst (λ (z : ℕ). p z ≡ false) e is
          | inr ne ↦ (let other = ap bit (ne_eqb y x ne) in ih found x (omega (arith, there, other)))
        ]

-- and where nothing in the list passes the test, it finds nothing
pub none_finds : (p : ℕ → Bool) (xs : List ℕ) → ((x : ℕ) → 0 < times_on xs x → p x ≡ false) → find p xs ≡ None
none_finds p [] none = refl
none_finds p (x ∷ xs) none =
    ap (λ b. cond b (Some x) (find p xs)) (none x (times_first x xs)) ∙ none_finds p xs (λ y there. none y (times_later x y xs there))

not_lt : (a b : ℕ) → nat_lt a b ≡ false → b ≤ a
not_lt a b not_less = grind (arith, nat_tests, not_less)

pub cases_lt : (a b : ℕ) → (a < b) ⊎ (b ≤ a)
cases_lt a b = elim (nat_lt a b) as (λ t. nat_lt a b ≡ t → (a < b) ⊎ (b ≤ a)) [ true ↦ λ e. inl (ltb-true a b e) | false ↦ λ e. inr (not_lt a b e) ] refl

-- n more is charged at a limit
pub charged_more : (direct : List ℕ) (at n : ℕ) → at < length direct → (q : ℕ) → slice_index (slice_set direct at (slice_index direct at + n)) q ≡ slice_index direct q + n * bit (q == at)
charged_more direct at n known q =
    elim (cases_eq at q) [
      | inl e ↦ (let here = ap bit (eq-eqb q at (sym e)) in let set = ap (slice_index (slice_set direct at (slice_index direct at + n))) (sym e) ∙ get_or-set_same direct at (slice_index direct at + n) 0 known in
          let same = ap (slice_index direct) e in let once = ap (λ k. n * k) here in omega (arith, set, same, once))
      | inr ne ↦ (let none = ap bit (ne_eqb q at (λ e. ne (sym e))) in let set = get_or-set_other direct at q (slice_index direct at + n) 0 (λ e. ne (sym e)) in let once = ap (λ k. n * k) none in omega (arith, set, once))
    ]

-- n less
pub charged_less : (direct : List ℕ) (at n : ℕ) → at < length direct → n ≤ slice_index direct at → (q : ℕ) → slice_index direct q ≡ slice_index (slice_set direct at (slice_index direct at - n)) q + n * bit (q == at)
charged_less direct at n known enough q =
    elim (cases_eq at q) [
      | inl e ↦ (let here = ap bit (eq-eqb q at (sym e)) in let set = ap (slice_index (slice_set direct at (slice_index direct at - n))) (sym e) ∙ get_or-set_same direct at (slice_index direct at - n) 0 known in
          let same = ap (slice_index direct) e in let once = ap (λ k. n * k) here in omega (arith, set, same, once, enough))
      | inr ne ↦ (let none = ap bit (ne_eqb q at (λ e. ne (sym e))) in let set = get_or-set_other direct at q (slice_index direct at - n) 0 (λ e. ne (sym e)) in let once = ap (λ k. n * k) none in omega (arith, set, once))
    ]

pub times_bound : (n t : ℕ) → t ≤ 1 → n * t ≤ n
times_bound n zero once = omega arith
times_bound n (suc zero) once = omega arith
times_bound n (suc (suc t)) once = absurd (omega (arith, once))

times_least : (n t : ℕ) → n ≤ n * suc t
times_least n t = omega arith

module _ (limits : ChargedLimits) (tree : IsTree limits.rows) (at : ℕ) (known : at < length limits.rows) where
  pub on_path_in : (m : ℕ) → 0 < times_on (path_of limits.rows at) m → m < length limits.rows
  on_path_in m there =
      elim (cases_lt at m) [
        | inl after ↦ (let none = path_low limits.rows tree (length limits.rows) at m known after in absurd (omega (arith, none, there)))
        | inr before ↦ omega (arith, before, known)
      ]

  module _ (fit : (m : ℕ) → m < length limits.rows → use_at limits m ≤ max_of limits.rows m) where
    -- where no limit on the path is full, each has room
    pub room_for : (n : ℕ) → full_at limits at n ≡ None → (m : ℕ) → m < length limits.rows → use_at limits m + n * times_on (path_of limits.rows at) m ≤ max_of limits.rows m
    room_for n none m inside = go (times_on (path_of limits.rows at) m) refl
      where
        go : (t : ℕ) → times_on (path_of limits.rows at) m ≡ t → use_at limits m + n * t ≤ max_of limits.rows m
        go zero is = omega (arith, fit m inside)
        go (suc t) is =
            let once = path_once limits.rows tree (length limits.rows) at m known in
            let bound = times_bound n (suc t) (omega (arith, once, is)) in
            let free = none_found (is_full_at limits n) (path_of limits.rows at) none m (omega (arith, is)) in
            let fits = not_lt (max_of limits.rows m) (use_at limits m + n) free in
            omega (arith, bound, fits)

  -- where each limit on the path has room, none is full
  pub none_full : (n : ℕ) → ((m : ℕ) → m < length limits.rows → use_at limits m + n * times_on (path_of limits.rows at) m ≤ max_of limits.rows m) → full_at limits at n ≡ None
  none_full n room =
      none_finds (is_full_at limits n) (path_of limits.rows at) (λ m there. free m there (times_on (path_of limits.rows at) m) refl)
    where
      free : (m : ℕ) → 0 < times_on (path_of limits.rows at) m → (t : ℕ) → times_on (path_of limits.rows at) m ≡ t → is_full_at limits n m ≡ false
      free m there zero is = absurd (omega (arith, there, is))
      free m there (suc t) is =
          let whole = room m (on_path_in m there) in
          let more = ap (λ k. n * k) is in
          let part = times_least n t in
          le-ltb (max_of limits.rows m) (use_at limits m + n) (omega (arith, whole, more, part))

module _ (limits : ChargedLimits) (uses : List ℕ) (kept : AreUses limits uses) where
  pub use_small : (m : ℕ) → m < length limits.rows → slice_index uses m < 2 ^ 40
  use_small m inside = omega (arith, kept.each m inside, kept.fit m inside, kept.rows.small m inside)

  pub uses_fit : (m : ℕ) → m < length limits.rows → slice_index uses m ≤ max_of limits.rows m
  uses_fit m inside = omega (arith, kept.each m inside, kept.fit m inside)

module _ (limits : ChargedLimits) (uses : List ℕ) (kept : AreUses limits uses) (at : ℕ) (known : at < length limits.rows) where
  -- the search by the running uses is that by the definitions
  pub found_full : (n : ℕ) → find (is_over limits.rows uses n) (path_of limits.rows at) ≡ full_at limits at n
  found_full n = find_same (is_over limits.rows uses n) (is_full_at limits n) (path_of limits.rows at) (λ m there. ap (λ used. nat_lt (max_of limits.rows m) (used + n)) (kept.each m (on_path_in limits kept.rows.tree at known m there)))

  pub raise_small : (n : ℕ) → n < 2 ^ 40 → (m : ℕ) → m < length limits.rows → slice_index uses m + n * times_on (path_of limits.rows at) m < 2 ^ 64
  raise_small n small m inside = omega (arith, use_small limits uses kept m inside, small, times_bound n (times_on (path_of limits.rows at) m) (path_once limits.rows kept.rows.tree (length limits.rows) at m known))

  pub use_after_charge : (n m : ℕ) → use_at (charged_limits limits.rows (slice_set limits.direct at (slice_index limits.direct at + n))) m ≡ use_at limits m + n * times_on (path_of limits.rows at) m
  use_after_charge n m =
      use_charged limits.rows kept.rows.tree at known (slice_index limits.direct) (slice_index (slice_set limits.direct at (slice_index limits.direct at + n))) n (charged_more limits.direct at n (omega (arith, known, kept.charges))) m

  pub use_after_credit : (n : ℕ) → n ≤ slice_index limits.direct at → (m : ℕ) →
      use_at limits m ≡ use_at (charged_limits limits.rows (slice_set limits.direct at (slice_index limits.direct at - n))) m + n * times_on (path_of limits.rows at) m
  use_after_credit n enough m =
      use_charged limits.rows kept.rows.tree at known (slice_index (slice_set limits.direct at (slice_index limits.direct at - n))) (slice_index limits.direct) n (charged_less limits.direct at n (omega (arith, known, kept.charges)) enough) m

  -- what is charged where it fits stays below every maximum
  pub charge_small : (n : ℕ) → full_at limits at n ≡ None → (m : ℕ) → m < length limits.rows → slice_index uses m + n * times_on (path_of limits.rows at) m < 2 ^ 64
  charge_small n none m inside = omega (arith, kept.each m inside, room_for limits kept.rows.tree at known kept.fit n none m inside, kept.rows.small m inside)

  pub direct_small : (n : ℕ) → full_at limits at n ≡ None → slice_index limits.direct at + n < 2 ^ 64
  direct_small n none =
      let here = get_or-set_same limits.direct at (slice_index limits.direct at + n) 0 (omega (arith, known, kept.charges)) in
      let part = direct_within limits.rows (slice_index (slice_set limits.direct at (slice_index limits.direct at + n))) (length limits.rows) at (omega (arith, known)) in
      omega (arith, here, part, use_after_charge n at, room_for limits kept.rows.tree at known kept.fit n none at known, kept.rows.small at known)

  pub charged : (n : ℕ) (uses' : List ℕ) → full_at limits at n ≡ None → length uses' ≡ length uses
      → ((m : ℕ) → m < length limits.rows → slice_index uses' m ≡ slice_index uses m + n * times_on (path_of limits.rows at) m)
      → AreUses (charged_limits limits.rows (slice_set limits.direct at (slice_index limits.direct at + n))) uses'
  charged n uses' none same raised = record {
    rows = kept.rows;
    few = kept.few;
    charges = length-set _ _ _ ∙ kept.charges;
    all = same ∙ kept.all;
    each = λ m inside. omega (arith, raised m inside, kept.each m inside, use_after_charge n m);
    fit = λ m inside. omega (arith, use_after_charge n m, room_for limits kept.rows.tree at known kept.fit n none m inside);
  }

  pub lower_enough : (n : ℕ) → n ≤ slice_index limits.direct at → (m : ℕ) → m < length limits.rows → n * times_on (path_of limits.rows at) m ≤ slice_index uses m
  lower_enough n enough m inside = omega (arith, kept.each m inside, use_after_credit n enough m)

  pub credited : (n : ℕ) (uses' : List ℕ) → n ≤ slice_index limits.direct at → length uses' ≡ length uses
      → ((m : ℕ) → m < length limits.rows → slice_index uses' m + n * times_on (path_of limits.rows at) m ≡ slice_index uses m)
      → AreUses (charged_limits limits.rows (slice_set limits.direct at (slice_index limits.direct at - n))) uses'
  credited n uses' enough same lowered = record {
    rows = kept.rows;
    few = kept.few;
    charges = length-set _ _ _ ∙ kept.charges;
    all = same ∙ kept.all;
    each = λ m inside. omega (arith, lowered m inside, kept.each m inside, use_after_credit n enough m);
    fit = λ m inside. omega (arith, use_after_credit n enough m, kept.fit m inside);
  }
