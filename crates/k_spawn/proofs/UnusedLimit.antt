-- Nothing is used at a child's limit where the child is charged nothing and no child of it has a maximum.
use Rattle.std.proofs.Common.{◌≡◌, ◌∙◌, ℕ, zero, suc, ◌+◌, ◌<◌, ◌≤◌, ◌==◌, true, cond, List, [], ◌∷◌, length, get_or, Option, Some, None, refl, sym, ap, ap₂, subst, arith, eqb-true, IsTrue}
use Rattle.std.proofs.lemmas.Bool.{false≢true}
use Rattle.k_types.specs.declared.names.LimitId.{LimitId}
use Rattle.k_types.specs.declared.setup.LimitRow.{LimitRow}
use Rattle.k_types.specs.Limits.{direct_by, is_parent, limits_in, max_of, use_of, use_within, with_maxima}
use Rattle.k_types.specs.Owners.{charge_of}
use Rattle.k_types.specs.State.{State}
use Rattle.k_types.specs.Trace.{Trace, limit_of, process_count, row_of}
use Rattle.k_types.proofs.Maxima.{hard_in, length_in, parent_in}
use Rattle.k_types.proofs.Sums.{zeros}
use Rattle.k_laws.proofs.Exact.{same_below}
use Rattle.k_spawn.specs.Families.{parent_of}
use Rattle.k_spawn.specs.Scripts.{Script, family, limit_for}
use Rattle.k_spawn.specs.Translation.{limit_id, translation}
use Rattle.k_spawn.proofs.ChildLimits.{limit_is}
use Rattle.k_spawn.proofs.Gathered.{processes_are}
use Rattle.k_spawn.proofs.ChildTree.{all_processes, first_child, limit_same, limit_under, row_is}
use Rattle.k_spawn.proofs.Level.{IsPlaced}

-- the maximum of a limit is the one that stands for it
pub max_at : (rows : List LimitRow) (maxima : List ℕ) (m : ℕ) → m < length rows → length maxima ≡ length rows → max_of (with_maxima rows maxima) m ≡ get_or maxima m 0
max_at [] maxima m less same = absurd (omega (arith, less))
max_at (row ∷ rows) [] m less same = absurd (omega (arith, same))
max_at (row ∷ rows) (max ∷ maxima) zero less same = refl
max_at (row ∷ rows) (max ∷ maxima) (suc m) less same = max_at rows maxima m (omega (arith, less)) (omega (arith, same))

module _ (s : Script) (placed : IsPlaced s) (x : State) (sized : length x.maxima ≡ length (translation s).trace.limits) (c : ℕ) (low : first_child s ≤ c) (high : c < all_processes s) where
  abbrev a : Trace
  a = (translation s).trace

  -- the children of the child have no maximum
  abbrev pub ChildrenHaveNothing : Type 0
  ChildrenHaveNothing = (d : ℕ) → first_child s ≤ d → d < all_processes s → parent_of (family s) d ≡ c → get_or x.maxima (limit_for s d) 0 ≡ 0

  none_direct : charge_of a x c ≡ 0 → direct_by a (charge_of a x) (limit_for s c) ≡ 0
  none_direct none =
      same_below (λ p. limit_of a p == limit_for s c) (charge_of a x) (λ p. 0) 0 (process_count a) at ∙ zeros _
    where
      at : (q : ℕ) → q < 0 + process_count a → IsTrue (limit_of a q == limit_for s c) → charge_of a x q ≡ 0
      at q less here =
          let inside : q < all_processes s = subst (λ n. q < n) (processes_are s) (omega (arith, less)) in
          let one : limit_for s q ≡ limit_for s c = sym (limit_is s q inside) ∙ eqb-true _ _ here in
          ap (charge_of a x) (limit_same s placed.limited c q low one) ∙ none

  reserved : (depth : ℕ) (k : ℕ) → k < length (limits_in a x) → ChildrenHaveNothing → IsTrue (is_parent (row_of (limits_in a x) k).parent (limit_for s c)) →
      cond (row_of (limits_in a x) k).hard (max_of (limits_in a x) k) (use_within (limits_in a x) (direct_by a (charge_of a x)) depth k) ≡ 0
  reserved depth k less none here = go (row_of a.limits k).parent refl (ap (λ o. is_parent o (limit_for s c)) (sym (parent_in a.limits x.maxima k)) ∙ here)
    where
      known : k < length a.limits
      known = subst (λ n. k < n) (length_in a.limits x.maxima) less

      go : (o : Option LimitId) → (row_of a.limits k).parent ≡ o → IsTrue (is_parent o (limit_for s c)) →
          cond (row_of (limits_in a x) k).hard (max_of (limits_in a x) k) (use_within (limits_in a x) (direct_by a (charge_of a x)) depth k) ≡ 0
      go None e t = absurd (false≢true t)
      go (Some r) e t =
          let same : r ≡ limit_id s c = ap (λ n. record { 0 = n }) (eqb-true r.0 (limit_for s c) t) in
          let under = limit_under s placed.limited placed.limits.tree c k low known (e ∙ ap (λ o. Some o) same) in
          let d : ℕ = under.0 in
          let hard : (row_of (limits_in a x) k).hard ≡ true = hard_in a.limits x.maxima k ∙ ap (λ n. (row_of a.limits n).hard) under.4 ∙ ap (λ (row : LimitRow). row.hard) (row_is s under.0 under.1 under.2) in
          let max : max_of (limits_in a x) k ≡ 0 = max_at a.limits x.maxima k known sized ∙ ap (λ n. get_or x.maxima n 0) under.4 ∙ none under.0 under.1 under.2 under.3 in
          ap (λ b. cond b (max_of (limits_in a x) k) (use_within (limits_in a x) (direct_by a (charge_of a x)) depth k)) hard ∙ max

  none_within : charge_of a x c ≡ 0 → ChildrenHaveNothing → (depth : ℕ) → use_within (limits_in a x) (direct_by a (charge_of a x)) depth (limit_for s c) ≡ 0
  unfolding use_within
  none_within none nothing zero = refl
  none_within none nothing (suc depth) =
      ap₂ (λ m n. m + n) (none_direct none)
      (same_below (λ k. is_parent (row_of (limits_in a x) k).parent (limit_for s c)) (λ k. cond (row_of (limits_in a x) k).hard (max_of (limits_in a x) k) (use_within (limits_in a x) (direct_by a (charge_of a x)) depth k)) (λ k. 0) 0 (length (limits_in a x))
      (λ k less here. reserved depth k (omega (arith, less)) nothing here) ∙ zeros _)

  pub unused : charge_of a x c ≡ 0 → ChildrenHaveNothing → use_of a x (limit_for s c) ≡ 0
  unused none nothing = none_within none nothing (length (limits_in a x))
