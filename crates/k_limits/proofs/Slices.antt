-- The same facts as the code meets them, which reads the rows and the uses through slices.
use Rattle.std.proofs.Common.{◌≡◌, ℕ, ◌+◌, ◌-◌, ◌*◌, ◌^◌, ◌<◌, ◌≤◌, ap, ◌∙◌, sym, subst, List, length, find, slice_index, slice_index_or, slice_set, Option, None, Fits, w64, arith}
use Rattle.std.proofs.lemmas.List.{get_or_default}
use Rattle.k_types.specs.declared.setup.LimitRow.{LimitRow}
use Rattle.k_types.specs.Limits.{max_of, path_of}
use Rattle.k_limits.specs.Limits.{ChargedLimits, charged_limits, full_at}
use Rattle.k_limits.specs.Paths.{is_over, times_on, AreUses}
use Rattle.k_limits.proofs.Uses.{found_full, uses_fit, charge_small, lower_enough, direct_small, charged, credited}

-- the value that the code sees is that of the fields
pub there_in : (limits seen : ChargedLimits) (at : ℕ) → limits ≡ seen → at < length seen.rows → at < length limits.rows
there_in limits seen at same there = subst (λ (l : ChargedLimits). at < length l.rows) (sym same) there

module _ (limits : ChargedLimits) (uses : List ℕ) (kept : AreUses limits uses) (at : ℕ) (known : at < length limits.rows) (rows' : List LimitRow) (uses' : List ℕ) (er : rows' ≡ limits.rows) (eu : uses' ≡ uses) where
  pub charge_small_read : (n : ℕ) → full_at limits at n ≡ None → (m : ℕ) → m < length rows' → slice_index uses' m + n * times_on (path_of rows' at) m < 2 ^ 64
  charge_small_read n none =
      subst (λ (p : List LimitRow × List ℕ). (m : ℕ) → m < length p.0 → slice_index p.1 m + n * times_on (path_of p.0 at) m < 2 ^ 64) (λ i. (sym er i, sym eu i)) (charge_small limits uses kept at known n none)

  pub lower_enough_read : (n : ℕ) → n ≤ slice_index limits.direct at → (m : ℕ) → m < length rows' → n * times_on (path_of rows' at) m ≤ slice_index uses' m
  lower_enough_read n enough =
      subst (λ (p : List LimitRow × List ℕ). (m : ℕ) → m < length p.0 → n * times_on (path_of p.0 at) m ≤ slice_index p.1 m) (λ i. (sym er i, sym eu i)) (lower_enough limits uses kept at known n enough)

  -- what the search found is the full limit
  pub full_read : (n : ℕ) (found : Option ℕ) → found ≡ find (is_over rows' uses' n) (path_of rows' at) → full_at limits at n ≡ found
  full_read n found is =
      sym (found_full limits uses kept at known n) ∙ (λ i. find (is_over (sym er i) (sym eu i) n) (path_of (sym er i) at)) ∙ sym is

  pub charged_read : (n : ℕ) (after : List ℕ) → full_at limits at n ≡ None → length after ≡ length uses'
      → ((m : ℕ) → m < length rows' → slice_index after m ≡ slice_index uses' m + n * times_on (path_of rows' at) m)
      → AreUses (charged_limits limits.rows (slice_set limits.direct at (slice_index limits.direct at + n))) after
  charged_read n after none same raised =
      charged limits uses kept at known n after none (same ∙ ap length eu)
      (subst (λ (p : List LimitRow × List ℕ). (m : ℕ) → m < length p.0 → slice_index after m ≡ slice_index p.1 m + n * times_on (path_of p.0 at) m) (λ i. (er i, eu i)) raised)

  pub credited_read : (n : ℕ) (after : List ℕ) → n ≤ slice_index limits.direct at → length after ≡ length uses'
      → ((m : ℕ) → m < length rows' → slice_index after m + n * times_on (path_of rows' at) m ≡ slice_index uses' m)
      → AreUses (charged_limits limits.rows (slice_set limits.direct at (slice_index limits.direct at - n))) after
  credited_read n after enough same lowered =
      credited limits uses kept at known n after enough (same ∙ ap length eu)
      (subst (λ (p : List LimitRow × List ℕ). (m : ℕ) → m < length p.0 → slice_index after m + n * times_on (path_of p.0 at) m ≡ slice_index p.1 m) (λ i. (er i, eu i)) lowered)

pub direct_fits : (limits : ChargedLimits) (uses : List ℕ) → AreUses limits uses → (at : ℕ) → at < length limits.rows → (n x : ℕ) → full_at limits at n ≡ None → x ≡ slice_index limits.direct at → Fits w64 (x + n)
direct_fits limits uses kept at known n x none is = omega (arith, direct_small limits uses kept at known n none, is)

pub uses_fit_read : (limits : ChargedLimits) (uses : List ℕ) → AreUses limits uses → (rows' : List LimitRow) (uses' : List ℕ) → rows' ≡ limits.rows → uses' ≡ uses → (m : ℕ) → m < length rows' → slice_index uses' m ≤ max_of rows' m
uses_fit_read limits uses kept rows' uses' er eu =
    subst (λ (p : List LimitRow × List ℕ). (m : ℕ) → m < length p.0 → slice_index p.1 m ≤ max_of p.0 m) (λ i. (sym er i, sym eu i)) (uses_fit limits uses kept)

-- a number as the code reads it
pub item_read : (xs : List ℕ) (i d x : ℕ) → i < length xs → x ≡ slice_index_or xs i d → x ≡ slice_index xs i
item_read xs i d x inside is = is ∙ get_or_default xs i d 0 inside

pub kept_as : (rows : List LimitRow) (direct : List ℕ) (at x y : ℕ) (uses uses' : List ℕ) → y ≡ x → uses' ≡ uses → AreUses (charged_limits rows (slice_set direct at x)) uses → AreUses (charged_limits rows (slice_set direct at y)) uses'
kept_as rows direct at x y uses uses' ex eu = subst (λ (p : ℕ × List ℕ). AreUses (charged_limits rows (slice_set direct at p.0)) p.1) (λ i. (sym ex i, sym eu i))

-- what is charged then, as the caller sees it
pub charge_seen : (limits seen : ChargedLimits) (at n x : ℕ) → limits ≡ seen → x ≡ slice_index limits.direct at →
    charged_limits limits.rows (slice_set limits.direct at (x + n)) ≡ charged_limits seen.rows (slice_set seen.direct at (slice_index seen.direct at + n))
charge_seen limits seen at n x same is =
    ap (λ (y : ℕ). charged_limits limits.rows (slice_set limits.direct at (y + n))) is
    ∙ ap (λ (l : ChargedLimits). charged_limits l.rows (slice_set l.direct at (slice_index l.direct at + n))) same

pub enough_in : (limits seen : ChargedLimits) (at n : ℕ) → limits ≡ seen → n ≤ slice_index seen.direct at → n ≤ slice_index limits.direct at
enough_in limits seen at n same enough = subst (λ (l : ChargedLimits). n ≤ slice_index l.direct at) (sym same) enough

pub charges_there : (limits : ChargedLimits) (uses : List ℕ) → AreUses limits uses → (at : ℕ) → at < length limits.rows → at < length limits.direct
charges_there limits uses kept at known = let same = kept.charges in omega (arith, known, same)
