-- The limits above a limit come before it, so that no limit is above itself.
use Rattle.std.proofs.Common.{◌≡◌, ◌≢◌, ℕ, zero, suc, ◌<◌, ◌==◌, ◌||◌, ◌∷◌, ◌∙◌, true, false, refl, ap, List, length, Option, Some, None, arith, IsTrue, eqb-true}
use Rattle.k_types.specs.declared.names.LimitId.{LimitId}
use Rattle.k_types.specs.declared.setup.LimitRow.{LimitRow}
use Rattle.k_types.specs.Names.{among}
use Rattle.k_types.specs.Trace.{Trace, row_of, limit_of, process_count}
use Rattle.k_types.specs.TraceRules.{AreLimits, IsTree}
use Rattle.k_types.specs.Limits.{ancestors_of, ancestors_within, ancestors_above, is_above, with_maxima}
use Rattle.k_types.proofs.Maxima.{length_in, parent_in}

-- what stands above a limit comes before it
pub ancestor_before : (rows : List LimitRow) → IsTree rows → (depth m q : ℕ) → m < length rows → IsTrue (among q (ancestors_within rows depth m)) → q < m
unfolding ancestors_within
ancestor_before rows tree zero m q known there = absurd (cc)
ancestor_before rows tree (suc depth) m q known there = go (row_of rows m).parent refl there (ancestor_before rows tree depth)
  where
    go : (parent : Option LimitId) → (row_of rows m).parent ≡ parent → IsTrue (among q (ancestors_above (ancestors_within rows depth) parent)) →
        ((r q : ℕ) → r < length rows → IsTrue (among q (ancestors_within rows depth r)) → q < r) → q < m
    go None is there ih = absurd (cc)
    go (Some r) is there ih =
        let lower = tree m r known is in
        elim (r.0 == q) as (λ b. (r.0 == q) ≡ b → IsTrue (b || among q (ancestors_within rows depth r.0)) → q < m) [
          | true ↦ λ e _. (let same = eqb-true r.0 q e in omega (arith, lower, same))
          | false ↦ λ e up. (let below = ih r.0 q (omega (arith, lower, known)) up in omega (arith, below, lower))
        ] refl there

-- so a process whose limit is above that of another is another one
pub above_another : (trace : Trace) → AreLimits trace → (p q : ℕ) → q < process_count trace → IsTrue (is_above trace p q) → p ≢ q
above_another trace limits p q known above same =
    let before = ancestor_before trace.limits limits.tree (length trace.limits) (limit_of trace q) (limit_of trace p) (limits.limited q known) above in
    let one = ap (limit_of trace) same in
    absurd (omega (arith, before, one))

-- the limits with other maxima have the same ancestors
within_in : (rows : List LimitRow) (maxima : List ℕ) (depth m : ℕ) → ancestors_within (with_maxima rows maxima) depth m ≡ ancestors_within rows depth m
unfolding ancestors_within
within_in rows maxima zero m = refl
within_in rows maxima (suc depth) m =
    ap (ancestors_above (ancestors_within (with_maxima rows maxima) depth)) (parent_in rows maxima m) ∙ above (row_of rows m).parent (within_in rows maxima depth)
  where
    above : (parent : Option LimitId) → ((r : ℕ) → ancestors_within (with_maxima rows maxima) depth r ≡ ancestors_within rows depth r) →
        ancestors_above (ancestors_within (with_maxima rows maxima) depth) parent ≡ ancestors_above (ancestors_within rows depth) parent
    above None same = refl
    above (Some r) same = ap (λ up. r.0 ∷ up) (same r.0)

pub ancestors_in : (rows : List LimitRow) (maxima : List ℕ) (m : ℕ) → ancestors_of (with_maxima rows maxima) m ≡ ancestors_of rows m
ancestors_in rows maxima m = ap (λ depth. ancestors_within (with_maxima rows maxima) depth m) (length_in rows maxima) ∙ within_in rows maxima (length rows) m
