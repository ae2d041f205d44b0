-- The closure of as many folds as there are objects is what is reached.
use Rattle.std.proofs.Common.{◌≡◌, ℕ, zero, suc, ◌≤◌, ◌↔◌, ◌&&◌, Bool, true, sym, ◌∙◌, inl, inr, List, length, filter, le_refl}
use Rattle.std.specs.List.{list_any}
use Rattle.std.proofs.lemmas.Bool.{and_parts, and_from, or_cases}
use Rattle.k_laws.specs.k_types.declared.names.Name.{Name}
use Rattle.k_laws.specs.k_types.Names.{name_among}
use Rattle.k_laws.specs.k_types.State.{Object, has, refers, refers_in}
use Rattle.k_laws.specs.k_types.Reach.{closure, reach_among}
use Rattle.k_exit.proofs.Objects.{referred, referrer, refers_in_has}
use Rattle.k_laws.proofs.Closure.{set, in_set, set_has, set_refers, closed_refers, start_in}
use Rattle.k_space.specs.Areas.{AreaValue, gray_at, is_foreign}
use Rattle.k_mark.specs.Reached.{IsReached, begins, follows}
use Rattle.k_mark.specs.Marking.{IsReachedIn, IsExit, ShowsObjects, lives_at, refers_at}

module _ (pool : List Object) (start : Name → Bool) where
  reached : (k : ℕ) (n : Name) → has (set pool start k) n ≡ true → IsReached (has pool) (refers_in pool) start n
  unfolding in_set
  reached zero n e =
      let both = and_parts (has pool n) (in_set pool start zero n) (sym (set_has pool start zero n) ∙ e) in
      begins n both.1 both.0
  reached (suc k) n e =
      let both = and_parts (has pool n) (in_set pool start (suc k) n) (sym (set_has pool start (suc k) n) ∙ e) in
      elim (or_cases (has (set pool start k) n) (list_any (λ x. refers x n) (set pool start k)) both.1) [
        | inl was ↦ reached k n was
        | inr some ↦
            let from = referrer (set pool start k) n some in
            let ref = and_parts (refers_in pool from.0 n) (in_set pool start k from.0) (sym (set_refers pool start k from.0 n) ∙ from.1) in
            follows from.0 n (reached k from.0 (refers_in_has (set pool start k) from.0 n from.1)) ref.0 both.0
      ]

  closed : (k : ℕ) (n : Name) → length pool ≤ k → IsReached (has pool) (refers_in pool) start n → has (set pool start k) n ≡ true
  closed k _ enough (begins n s lives) = set_has pool start k n ∙ and_from _ _ lives (start_in pool start n lives s k)
  closed k _ enough (follows a b r ref lives) = closed_refers pool start k a b enough (closed k a enough r) ref lives

  pub closure_is : (n : Name) → (has (closure (length pool) pool (filter (λ o. start o.name) pool)) n ≡ true) ↔ IsReached (has pool) (refers_in pool) start n
  unfolding set
  closure_is n = (reached (length pool) n, closed (length pool) n (le_refl (length pool)))

  -- a reached object refers to the name
  pub referred_from : (n : Name) → list_any (λ x. refers x n) (closure (length pool) pool (filter (λ o. start o.name) pool)) ≡ true →
      (a : Name) × IsReached (has pool) (refers_in pool) start a × (refers_in pool a n ≡ true)
  unfolding set in_set
  referred_from n e =
      let from = referrer (set pool start (length pool)) n e in
      let ref = and_parts (refers_in pool from.0 n) (in_set pool start (length pool) from.0) (sym (set_refers pool start (length pool) from.0 n) ∙ from.1) in
      (from.0, reached (length pool) from.0 (refers_in_has (set pool start (length pool)) from.0 n from.1), ref.0)

  pub refers_to : (a n : Name) → IsReached (has pool) (refers_in pool) start a → refers_in pool a n ≡ true → list_any (λ x. refers x n) (closure (length pool) pool (filter (λ o. start o.name) pool)) ≡ true
  unfolding set in_set
  refers_to a n r e =
      let there = closed (length pool) a (le_refl (length pool)) r in
      let in_it = and_parts (has pool a) (in_set pool start (length pool) a) (sym (set_has pool start (length pool) a) ∙ there) in
      referred (set pool start (length pool)) a n (set_refers pool start (length pool) a n ∙ and_from _ _ e in_it.1)

-- the tests alone matter
pub same_reach : (lives other : Name → Bool) (refs others : Name → Name → Bool) (start begun : Name → Bool) → ((n : Name) → lives n ≡ other n) → ((a n : Name) → refs a n ≡ others a n) → ((n : Name) → start n ≡ begun n) →
    (n : Name) → IsReached lives refs start n → IsReached other others begun n
same_reach lives other refs others start begun l r s _ (begins n e a) = begins n (sym (s n) ∙ e) (sym (l n) ∙ a)
same_reach lives other refs others start begun l r s _ (follows a b from e live) = follows a b (same_reach lives other refs others start begun l r s a from) (sym (r a b) ∙ e) (sym (l b) ∙ live)

module _ (area : AreaValue) (pool : List Object) (roots : List Name) (shows : ShowsObjects area pool) (gray : (n : Name) → name_among n roots ≡ gray_at area n) where
  to_pool : (n : Name) → IsReachedIn area n → IsReached (has pool) (refers_in pool) (λ m. name_among m roots) n
  to_pool n r = same_reach (lives_at area) (has pool) (refers_at area) (refers_in pool) (gray_at area) (λ m. name_among m roots) (λ m. sym (shows.lives m)) (λ a m. sym (shows.refers a m)) (λ m. sym (gray m)) n r

  to_area : (n : Name) → IsReached (has pool) (refers_in pool) (λ m. name_among m roots) n → IsReachedIn area n
  to_area n r = same_reach (has pool) (lives_at area) (refers_in pool) (refers_at area) (λ m. name_among m roots) (gray_at area) shows.lives shows.refers gray n r

  pub area_reaches : (n : Name) → IsReachedIn area n ↔ (has (reach_among pool roots) n ≡ true)
  area_reaches n =
      let is = closure_is pool (λ m. name_among m roots) n in
      (λ r. is.1 (to_pool n r), λ e. to_area n (is.0 e))

  pub area_exits : (n : Name) → IsExit area n ↔ ((is_foreign area n && list_any (λ x. refers x n) (reach_among pool roots)) ≡ true)
  area_exits n = (
    λ e. and_from _ _ e.foreign (refers_to pool (λ m. name_among m roots) e.from n (to_pool e.from e.reached) (shows.refers e.from n ∙ e.refers)),
    λ t.
        let both = and_parts (is_foreign area n) (list_any (λ x. refers x n) (reach_among pool roots)) t in
        let from = referred_from pool (λ m. name_among m roots) n both.1 in
        record { from = from.0; reached = to_area from.0 from.1; refers = sym (shows.refers from.0 n) ∙ from.2; foreign = both.0 },
  )
