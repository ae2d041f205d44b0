-- The facts on a row that is put after the others, as the code meets them.
use Rattle.std.proofs.Common.{◌≡◌, ℕ, ◌+◌, ◌*◌, ◌^◌, ◌<◌, Bool, false, ap, ◌∙◌, sym, subst, List, [], ◌∷◌, ◌++◌, length, find, slice_index, Option, option_map, is_some, arith}
use Rattle.k_types.specs.declared.names.LimitId.{LimitId}
use Rattle.k_types.specs.declared.setup.LimitRow.{LimitRow}
use Rattle.k_limits.specs.Limits.{ChargedLimits, charged_limits, is_full_at}
use Rattle.k_limits.specs.Rows.{AreRows, is_refused}
use Rattle.k_limits.specs.Paths.{InRows, is_over, path_from, reserved_from, times_on, AreUses}
use Rattle.k_types.proofs.Lists.{mapped_some, none_is}
use Rattle.k_limits.proofs.Reserves.{reserved_in, max_small, raise_small_from, found_from, refused_is, added}

pub rows_in : (limits seen : ChargedLimits) (row : LimitRow) → limits ≡ seen → AreRows (seen.rows ++ row ∷ []) → AreRows (limits.rows ++ row ∷ [])
rows_in limits seen row same fine = subst (λ (l : ChargedLimits). AreRows (l.rows ++ row ∷ [])) (sym same) fine

module _ (limits : ChargedLimits) (uses : List ℕ) (kept : AreUses limits uses) (row : LimitRow) (fine : AreRows (limits.rows ++ row ∷ [])) (rows' : List LimitRow) (uses' : List ℕ) (from : Option LimitId)
    (er : rows' ≡ limits.rows) (eu : uses' ≡ uses) (ef : from ≡ reserved_from row) where
  pub from_in : InRows rows' from
  from_in = subst (λ (p : List LimitRow × Option LimitId). InRows p.0 p.1) (λ i. (sym er i, sym ef i)) (reserved_in limits.rows row fine.tree)

  pub raise_small_row : (m : ℕ) → m < length rows' → slice_index uses' m + row.max * times_on (path_from rows' from) m < 2 ^ 64
  raise_small_row =
      subst (λ (p : List LimitRow × List ℕ × Option LimitId). (m : ℕ) → m < length p.0 → slice_index p.1 m + row.max * times_on (path_from p.0 p.2) m < 2 ^ 64) (λ i. (sym er i, sym eu i, sym ef i))
      (raise_small_from limits uses kept (reserved_from row) (reserved_in limits.rows row fine.tree) row.max (max_small limits uses kept row fine))

  -- what the code's search found is what the definitions find
  found_row : (found : Option ℕ) → found ≡ find (is_over rows' uses' row.max) (path_from rows' from) → find (is_full_at limits row.max) (path_from limits.rows (reserved_from row)) ≡ found
  found_row found is =
      sym (found_from limits uses kept (reserved_from row) (reserved_in limits.rows row fine.tree) row.max) ∙ (λ i. find (is_over (sym er i) (sym eu i) row.max) (path_from (sym er i) (sym ef i))) ∙ sym is

  pub refused_row : (seen : ChargedLimits) → limits ≡ seen → (found : Option LimitId) (b : Bool) → option_map (λ (m : LimitId). m.0) found ≡ find (is_over rows' uses' row.max) (path_from rows' from) → is_some found ≡ b → is_refused seen row ≡ b
  refused_row seen same found b is some =
      ap (λ (l : ChargedLimits). is_refused l row) (sym same) ∙ refused_is limits row ∙ ap is_some (found_row (option_map (λ (m : LimitId). m.0) found) is) ∙ mapped_some (λ (m : LimitId). m.0) found ∙ some

  pub added_row : (found : Option LimitId) (rows2 : List LimitRow) (uses2 after : List ℕ) (rows'' : List LimitRow) (direct'' uses'' : List ℕ) → rows2 ≡ limits.rows → uses2 ≡ uses
      → option_map (λ (m : LimitId). m.0) found ≡ find (is_over rows' uses' row.max) (path_from rows' from) → is_some found ≡ false
      → length limits.rows + 1 < 2 ^ 32 → length after ≡ length uses2
      → ((m : ℕ) → m < length rows2 → slice_index after m ≡ slice_index uses2 m + row.max * times_on (path_from rows2 from) m)
      → rows'' ≡ limits.rows ++ row ∷ [] → direct'' ≡ limits.direct ++ 0 ∷ [] → uses'' ≡ after ++ 0 ∷ [] → AreUses (charged_limits rows'' direct'') uses''
  added_row found rows2 uses2 after rows'' direct'' uses'' er2 eu2 is none few same raised er'' ed'' eu'' =
      subst (λ (p : List LimitRow × List ℕ × List ℕ). AreUses (charged_limits p.0 p.1) p.2) (λ i. (sym er'' i, sym ed'' i, sym eu'' i))
      (added limits uses kept row fine after few (found_row (option_map (λ (m : LimitId). m.0) found) is ∙ ap (option_map (λ (m : LimitId). m.0)) (none_is found none)) (same ∙ ap length eu2)
      (subst (λ (p : List LimitRow × List ℕ × Option LimitId). (m : ℕ) → m < length p.0 → slice_index after m ≡ slice_index p.1 m + row.max * times_on (path_from p.0 p.2) m) (λ i. (er2 i, eu2 i, ef i)) raised))

-- the number of a row that is refused
pub few_rows : (limits seen : ChargedLimits) → limits ≡ seen → length seen.rows + 1 < 2 ^ 32 → length limits.rows + 1 < 2 ^ 32
few_rows limits seen same few = let count = ap (λ (l : ChargedLimits). length l.rows) same in omega (arith, few, count)
