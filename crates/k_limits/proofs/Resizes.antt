-- The running uses stay right where a limit gets another maximum.
use Rattle.std.proofs.Common.{◌≡◌, ◌≢◌, ℕ, zero, suc, ◌+◌, ◌-◌, ◌*◌, ◌^◌, ◌<◌, ◌≤◌, ◌⊎◌, Bool, true, false, cond, refl, ap, ◌∙◌, sym, List, length, find, Option, Some, None, is_some, subst, slice_index, slice_set, arith, inl, inr, IsTrue, length-set}
use Rattle.std.proofs.lemmas.Bool.{cases_eq, false≢true, lt-ltb, le-ltb}
use Rattle.std.proofs.lemmas.List.{get_or-set_same, get_or-set_other}
use Rattle.k_types.specs.declared.names.LimitId.{LimitId}
use Rattle.k_types.specs.declared.setup.LimitRow.{LimitRow}
use Rattle.k_types.specs.Trace.{row_of, no_row}
use Rattle.k_types.specs.Limits.{max_of, use_within}
use Rattle.k_types.proofs.Resized.{uses_stay, use_moved}
use Rattle.k_limits.specs.Limits.{ChargedLimits, charged_limits, use_at, is_full_at}
use Rattle.k_limits.specs.Paths.{AreUses, InRows, is_over, path_from, reserved_from, times_on}
use Rattle.k_limits.specs.Resizes.{with_max_at, full_for_at}
use Rattle.k_limits.specs.Rows.{AreRows}
use Rattle.k_limits.proofs.Charges.{counted_is}
use Rattle.k_limits.proofs.Walks.{path_low, path_once, parent_in}
use Rattle.k_limits.proofs.Reserves.{found_from, raise_small_from, room_from}

module _ (limits : ChargedLimits) (uses : List ℕ) (kept : AreUses limits uses) (m : ℕ) (known : m < length limits.rows) (below : IsTrue (is_some (row_of limits.rows m).parent)) where
  abbrev from : Option LimitId
  from = reserved_from (row_of limits.rows m)

  pub from_in : InRows limits.rows from
  from_in = go (row_of limits.rows m).hard
    where
      go : (hard : Bool) → InRows limits.rows (cond hard (row_of limits.rows m).parent None)
      go true = parent_in limits.rows kept.rows.tree m known
      go false = tt

  -- no limit is on the path of its parent, and each other one at most once
  own_off : times_on (path_from limits.rows from) m ≡ 0
  own_off = go (row_of limits.rows m).hard (row_of limits.rows m).parent refl
    where
      go : (hard : Bool) (parent : Option LimitId) → (row_of limits.rows m).parent ≡ parent → times_on (path_from limits.rows (cond hard parent None)) m ≡ 0
      go true None is = refl
      go true (Some r) is = let lower = kept.rows.tree m r known is in path_low limits.rows kept.rows.tree (length limits.rows) r.0 m (omega (arith, lower, known)) lower
      go false parent is = refl

  once : (q : ℕ) → times_on (path_from limits.rows from) q ≤ 1
  once q = go from from_in
    where
      go : (next : Option LimitId) → InRows limits.rows next → times_on (path_from limits.rows next) q ≤ 1
      go None inside = omega arith
      go (Some r) inside = path_once limits.rows kept.rows.tree (length limits.rows) r.0 q inside

  module _ (max : ℕ) where
    abbrev others : List LimitRow
    others = slice_set limits.rows m (record (row_of limits.rows m) { max = max })

    own_row : row_of others m ≡ record (row_of limits.rows m) { max = max }
    own_row = get_or-set_same limits.rows m (record (row_of limits.rows m) { max = max }) no_row known

    other_row : (c : ℕ) → c ≢ m → row_of others c ≡ row_of limits.rows c
    other_row c ne = get_or-set_other limits.rows m c (record (row_of limits.rows m) { max = max }) no_row ne

    long : length others ≡ length limits.rows
    long = length-set limits.rows m (record (row_of limits.rows m) { max = max })

    parents : (c : ℕ) → (row_of others c).parent ≡ (row_of limits.rows c).parent
    parents c = elim (cases_eq c m) [
      | inl e ↦ ap (λ k. (row_of others k).parent) e ∙ ap (λ (r : LimitRow). r.parent) own_row ∙ sym (ap (λ k. (row_of limits.rows k).parent) e)
      | inr ne ↦ ap (λ (r : LimitRow). r.parent) (other_row c ne)
    ]

    hards : (c : ℕ) → (row_of others c).hard ≡ (row_of limits.rows c).hard
    hards c = elim (cases_eq c m) [
      | inl e ↦ ap (λ k. (row_of others k).hard) e ∙ ap (λ (r : LimitRow). r.hard) own_row ∙ sym (ap (λ k. (row_of limits.rows k).hard) e)
      | inr ne ↦ ap (λ (r : LimitRow). r.hard) (other_row c ne)
    ]

    own_max : max_of others m ≡ max
    own_max = ap (λ (r : LimitRow). r.max) own_row

    other_max : (c : ℕ) → c ≢ m → max_of others c ≡ max_of limits.rows c
    other_max c ne = ap (λ (r : LimitRow). r.max) (other_row c ne)

    fine : max < 2 ^ 40 → AreRows others
    fine small = record {
      tree = λ c parent inside is. kept.rows.tree c parent (omega (arith, inside, long)) (sym (parents c) ∙ is);
      small = λ c inside. elim (cases_eq c m) [
        | inl e ↦ let its = ap (max_of others) e in omega (arith, its, own_max, small)
        | inr ne ↦ let its = other_max c ne in let was = kept.rows.small c (omega (arith, inside, long)) in omega (arith, its, was)
      ];
    }

    -- what another maximum does to the uses
    use_after : (q : ℕ) → use_at (with_max_at m max limits) q + max_of limits.rows m * times_on (path_from limits.rows from) q ≡ use_at limits q + max * times_on (path_from limits.rows from) q
    use_after q =
        ap (λ n. n + max_of limits.rows m * times_on (path_from limits.rows from) q) (ap (λ depth. use_within others (slice_index limits.direct) depth q) long)
        ∙ go (row_of limits.rows m).hard (row_of limits.rows m).parent refl refl below
      where
        go : (hard : Bool) (parent : Option LimitId) → (row_of limits.rows m).hard ≡ hard → (row_of limits.rows m).parent ≡ parent → IsTrue (is_some parent) →
            use_within others (slice_index limits.direct) (length limits.rows) q + max_of limits.rows m * times_on (path_from limits.rows (cond hard parent None)) q
            ≡ use_at limits q + max * times_on (path_from limits.rows (cond hard parent None)) q
        go false parent soft is some =
            let stays = uses_stay limits.rows others long parents hards
            (λ c hard. other_max c (λ e. false≢true (sym (ap (λ k. (row_of limits.rows k).hard) e ∙ soft) ∙ hard))) (slice_index limits.direct) (length limits.rows) q in
            omega (arith, stays)
        go true None hard is some = absurd (false≢true some)
        go true (Some r) hard is some =
            let lower = kept.rows.tree m r known is in
            let moved = use_moved limits.rows others long parents hards m (max_of limits.rows m) max r known hard is own_max refl other_max (slice_index limits.direct) (length limits.rows) q in
            let counts = counted_is limits.rows kept.rows.tree r.0 (omega (arith, lower, known)) (length limits.rows) q (omega arith) in
            let old = ap (λ k. max_of limits.rows m * k) counts in
            let new = ap (λ k. max * k) counts in
            omega (arith, moved, old, new)

    use_grown : max_of limits.rows m ≤ max → (q : ℕ) → use_at (with_max_at m max limits) q ≡ use_at limits q + (max - max_of limits.rows m) * times_on (path_from limits.rows from) q
    use_grown more q = go (times_on (path_from limits.rows from) q) (once q) (use_after q)
      where
        go : (t : ℕ) → t ≤ 1 → use_at (with_max_at m max limits) q + max_of limits.rows m * t ≡ use_at limits q + max * t → use_at (with_max_at m max limits) q ≡ use_at limits q + (max - max_of limits.rows m) * t
        go zero low e = omega (arith, e)
        go (suc zero) low e = omega (arith, e, more)
        go (suc (suc t)) low e = absurd (omega (arith, low))

    use_shrunk : max ≤ max_of limits.rows m → (q : ℕ) → use_at (with_max_at m max limits) q + (max_of limits.rows m - max) * times_on (path_from limits.rows from) q ≡ use_at limits q
    use_shrunk less q = go (times_on (path_from limits.rows from) q) (once q) (use_after q)
      where
        go : (t : ℕ) → t ≤ 1 → use_at (with_max_at m max limits) q + max_of limits.rows m * t ≡ use_at limits q + max * t → use_at (with_max_at m max limits) q + (max_of limits.rows m - max) * t ≡ use_at limits q
        go zero low e = omega (arith, e)
        go (suc zero) low e = omega (arith, e, less)
        go (suc (suc t)) low e = absurd (omega (arith, low))

    own_use : use_at (with_max_at m max limits) m ≡ use_at limits m
    own_use = let after = use_after m in let old = ap (λ k. max_of limits.rows m * k) own_off in let new = ap (λ k. max * k) own_off in omega (arith, after, old, new)

    fits_where : use_at limits m ≤ max → ((q : ℕ) → q < length limits.rows → use_at (with_max_at m max limits) q ≤ max_of limits.rows q ⊎ (q ≡ m)) → (q : ℕ) → q < length others → use_at (with_max_at m max limits) q ≤ max_of others q
    fits_where used fits q inside =
        elim (cases_eq q m) [
          | inl e ↦ let its = ap (max_of others) e in let same = ap (use_at (with_max_at m max limits)) e in omega (arith, its, same, own_use, own_max, used)
          | inr ne ↦ elim (fits q (omega (arith, inside, long))) [ inl room ↦ let its = other_max q ne in omega (arith, its, room) | inr same ↦ absurd (ne same) ]
        ]

    pub grown : (uses' : List ℕ) → max < 2 ^ 40 → max_of limits.rows m < max → use_at limits m ≤ max → find (is_full_at limits (max - max_of limits.rows m)) (path_from limits.rows from) ≡ None → length uses' ≡ length uses
        → ((q : ℕ) → q < length limits.rows → slice_index uses' q ≡ slice_index uses q + (max - max_of limits.rows m) * times_on (path_from limits.rows from) q)
        → AreUses (with_max_at m max limits) uses'
    grown uses' small more used none same raised = record {
      rows = fine small;
      few = omega (arith, kept.few, long);
      charges = kept.charges ∙ sym long;
      all = same ∙ kept.all ∙ sym long;
      each = λ q inside. let at : q < length limits.rows = omega (arith, inside, long) in let now = use_grown (omega (arith, more)) q in omega (arith, raised q at, kept.each q at, now);
      fit = fits_where used (λ q inside. inl (let now = use_grown (omega (arith, more)) q in let room = room_from limits uses kept from from_in (max - max_of limits.rows m) none q inside in omega (arith, now, room)));
    }

    pub lower_enough_for : max ≤ max_of limits.rows m → (q : ℕ) → q < length limits.rows → (max_of limits.rows m - max) * times_on (path_from limits.rows from) q ≤ slice_index uses q
    lower_enough_for less q inside = let now = use_shrunk less q in omega (arith, kept.each q inside, now)

    pub shrunk : (uses' : List ℕ) → max < 2 ^ 40 → max ≤ max_of limits.rows m → use_at limits m ≤ max → length uses' ≡ length uses
        → ((q : ℕ) → q < length limits.rows → slice_index uses' q + (max_of limits.rows m - max) * times_on (path_from limits.rows from) q ≡ slice_index uses q)
        → AreUses (with_max_at m max limits) uses'
    shrunk uses' small less used same lowered = record {
      rows = fine small;
      few = omega (arith, kept.few, long);
      charges = kept.charges ∙ sym long;
      all = same ∙ kept.all ∙ sym long;
      each = λ q inside. let at : q < length limits.rows = omega (arith, inside, long) in let now = use_shrunk less q in omega (arith, lowered q at, kept.each q at, now);
      fit = fits_where used (λ q inside. inl (let now = use_shrunk less q in omega (arith, now, kept.fit q inside)));
    }

-- what is searched for a growth
pub full_for_none : (limits : ChargedLimits) (m max : ℕ) → max ≤ max_of limits.rows m → full_for_at limits m max ≡ None
full_for_none limits m max less = ap (λ b. cond b (find (is_full_at limits (max - max_of limits.rows m)) (path_from limits.rows (reserved_from (row_of limits.rows m)))) None) (le-ltb (max_of limits.rows m) max less)

pub full_for_some : (limits : ChargedLimits) (m max : ℕ) → max_of limits.rows m < max → full_for_at limits m max ≡ find (is_full_at limits (max - max_of limits.rows m)) (path_from limits.rows (reserved_from (row_of limits.rows m)))
full_for_some limits m max more = ap (λ b. cond b (find (is_full_at limits (max - max_of limits.rows m)) (path_from limits.rows (reserved_from (row_of limits.rows m)))) None) (lt-ltb (max_of limits.rows m) max more)

-- the same facts as the code meets them, which reads the rows, the uses and the limit's row through slices
module _ (limits : ChargedLimits) (uses : List ℕ) (kept : AreUses limits uses) (m : ℕ) (known : m < length limits.rows) (below : IsTrue (is_some (row_of limits.rows m).parent))
    (rows' : List LimitRow) (uses' : List ℕ) (row : LimitRow) (next : Option LimitId) (er : rows' ≡ limits.rows) (eu : uses' ≡ uses) (ew : row ≡ row_of limits.rows m) (en : next ≡ reserved_from row) where
  next_is : next ≡ reserved_from (row_of limits.rows m)
  next_is = en ∙ ap reserved_from ew

  pub in_read : InRows rows' next
  in_read = subst (λ (p : List LimitRow × Option LimitId). InRows p.0 p.1) (λ i. (sym er i, sym next_is i)) (from_in limits uses kept m known below)

  module _ (max : ℕ) where
    pub raise_small_read : max < 2 ^ 40 → (q : ℕ) → q < length rows' → slice_index uses' q + (max - row.max) * times_on (path_from rows' next) q < 2 ^ 64
    raise_small_read small =
        subst (λ (p : List LimitRow × List ℕ × LimitRow × Option LimitId). (q : ℕ) → q < length p.0 → slice_index p.1 q + (max - p.2.max) * times_on (path_from p.0 p.3) q < 2 ^ 64)
        (λ i. (sym er i, sym eu i, sym ew i, sym next_is i))
        (raise_small_from limits uses kept (reserved_from (row_of limits.rows m)) (from_in limits uses kept m known below) (max - max_of limits.rows m) (omega (arith, small)))

    -- what the search found is the full limit
    pub found_read : max_of limits.rows m < max → (found : Option ℕ) → found ≡ find (is_over rows' uses' (max - row.max)) (path_from rows' next) → full_for_at limits m max ≡ found
    found_read more found is =
        full_for_some limits m max more
        ∙ sym (found_from limits uses kept (reserved_from (row_of limits.rows m)) (from_in limits uses kept m known below) (max - max_of limits.rows m))
        ∙ (λ i. find (is_over (sym er i) (sym eu i) (max - (sym ew i).max)) (path_from (sym er i) (sym next_is i)))
        ∙ sym is

    pub grown_read : (after : List ℕ) → max < 2 ^ 40 → max_of limits.rows m < max → use_at limits m ≤ max → full_for_at limits m max ≡ None → length after ≡ length uses'
        → ((q : ℕ) → q < length rows' → slice_index after q ≡ slice_index uses' q + (max - row.max) * times_on (path_from rows' next) q)
        → AreUses (with_max_at m max limits) after
    grown_read after small more used none same raised =
        grown limits uses kept m known below max after small more used (sym (full_for_some limits m max more) ∙ none) (same ∙ ap length eu)
        (subst (λ (p : List LimitRow × List ℕ × LimitRow × Option LimitId). (q : ℕ) → q < length p.0 → slice_index after q ≡ slice_index p.1 q + (max - p.2.max) * times_on (path_from p.0 p.3) q)
        (λ i. (er i, eu i, ew i, next_is i)) raised)

    pub lower_read : max ≤ max_of limits.rows m → (q : ℕ) → q < length rows' → (row.max - max) * times_on (path_from rows' next) q ≤ slice_index uses' q
    lower_read less =
        subst (λ (p : List LimitRow × List ℕ × LimitRow × Option LimitId). (q : ℕ) → q < length p.0 → (p.2.max - max) * times_on (path_from p.0 p.3) q ≤ slice_index p.1 q)
        (λ i. (sym er i, sym eu i, sym ew i, sym next_is i)) (lower_enough_for limits uses kept m known below max less)

    pub shrunk_read : (after : List ℕ) → max < 2 ^ 40 → max ≤ max_of limits.rows m → use_at limits m ≤ max → length after ≡ length uses'
        → ((q : ℕ) → q < length rows' → slice_index after q + (row.max - max) * times_on (path_from rows' next) q ≡ slice_index uses' q)
        → AreUses (with_max_at m max limits) after
    shrunk_read after small less used same lowered =
        shrunk limits uses kept m known below max after small less used (same ∙ ap length eu)
        (subst (λ (p : List LimitRow × List ℕ × LimitRow × Option LimitId). (q : ℕ) → q < length p.0 → slice_index after q + (p.2.max - max) * times_on (path_from p.0 p.3) q ≡ slice_index p.1 q)
        (λ i. (er i, eu i, ew i, next_is i)) lowered)

  -- the limits that are left then
  pub resized_as : (max : ℕ) (after after' : List ℕ) → after' ≡ after → AreUses (with_max_at m max limits) after →
      AreUses (charged_limits (slice_set limits.rows m (record { parent = row.parent; hard = row.hard; max = max })) limits.direct) after'
  resized_as max after after' same =
      subst (λ (p : List ℕ × LimitRow). AreUses (charged_limits (slice_set limits.rows m (record { parent = p.1.parent; hard = p.1.hard; max = max })) limits.direct) p.0) (λ i. (sym same i, sym ew i))

  pub resized_seen : (max : ℕ) (seen : ChargedLimits) → limits ≡ seen →
      charged_limits (slice_set limits.rows m (record { parent = row.parent; hard = row.hard; max = max })) limits.direct ≡ with_max_at m max seen
  resized_seen max seen same =
      ap (λ (r : LimitRow). charged_limits (slice_set limits.rows m (record { parent = r.parent; hard = r.hard; max = max })) limits.direct) ew
      ∙ ap (with_max_at m max) same
