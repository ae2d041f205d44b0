-- The orphans that are left to absorb, once the one of the lowest number is absorbed.
use Rattle.std.proofs.Common.{◌≡◌, ◌≢◌, ℕ, zero, suc, ◌+◌, ◌<◌, ◌&&◌, not, Bool, true, false, cond, refl, sym, ap, ap₂, ◌∙◌, List, [], ◌∷◌, filter, find, map, length, Some, None, arith, get_or-set_same, get_or-set_other}
use Rattle.std.proofs.lemmas.Bool.{false≢true}
use Rattle.k_types.specs.declared.event.Event.TheVariants.{Absorbed}
use Rattle.k_types.specs.declared.names.Phase.TheVariants.{Unmade, Absorbed as AbsorbedPhase}
use Rattle.k_types.specs.declared.names.SharedId.{SharedId}
use Rattle.k_types.specs.Effects.{after_absorbed, step}
use Rattle.k_types.specs.FileOrder.{absorptions}
use Rattle.k_types.specs.Numbers.{numbers_below, numbers_from}
use Rattle.k_types.specs.State.{State}
use Rattle.k_types.specs.Steps.{has_sharer, is_live, is_orphan}
use Rattle.k_types.specs.Trace.{Trace}
use Rattle.k_types.specs.Updates.{keep_exits, set_phase}
use Rattle.k_process.proofs.Lists.{found_passes}

-- where none is found, none passes
none_kept : {A : Type 0} (p : A → Bool) (xs : List A) → find p xs ≡ None → filter p xs ≡ []
none_kept p [] none = refl
none_kept p (x ∷ xs) none = go (λ rest. none_kept p xs rest) (p x) none
  where
    go : (find p xs ≡ None → filter p xs ≡ []) → (b : Bool) → cond b (Some x) (find p xs) ≡ None → cond b (x ∷ filter p xs) (filter p xs) ≡ []
    go next true is = absurd (cc is)
    go next false is = next is

-- the number that is found is one of them
pub found_below : (f : ℕ → Bool) (s k n : ℕ) → find f (numbers_from k n) ≡ Some s → s < k + n
found_below f s k zero is = absurd cc
found_below f s k (suc n) is = go (λ rest. found_below f s (suc k) n rest) (f k) is
  where
    go : (find f (numbers_from (suc k) n) ≡ Some s → s < suc k + n) → (b : Bool) → cond b (Some k) (find f (numbers_from (suc k) n)) ≡ Some s → s < k + suc n
    go next true found = let same : k ≡ s = cc in omega (arith, same)
    go next false found = let low = next found in omega (arith, low)

-- the second test passes what the first does, but for that number
record LosesOne (f g : ℕ → Bool) (s : ℕ) : Type 0 where
  gone : g s ≡ false
  rest : (t : ℕ) → t ≢ s → g t ≡ f t

same_above : (f g : ℕ → Bool) (s k n : ℕ) → LosesOne f g s → s < k → filter f (numbers_from k n) ≡ filter g (numbers_from k n)
same_above f g s k zero loses low = refl
same_above f g s k (suc n) loses low =
    ap₂ (λ b ts. cond b (k ∷ ts) ts) (sym (loses.rest k (λ e. absurd (omega (arith, low, e))))) (same_above f g s (suc k) n loses (omega (arith, low)))

-- the first that passes goes, and the others stay
first_goes : (f g : ℕ → Bool) (s : ℕ) → LosesOne f g s → (k n : ℕ) → find f (numbers_from k n) ≡ Some s → filter f (numbers_from k n) ≡ s ∷ filter g (numbers_from k n)
first_goes f g s loses k zero is = absurd cc
first_goes f g s loses k (suc n) is = go (λ rest. first_goes f g s loses (suc k) n rest) (f k) refl is
  where
    go : (find f (numbers_from (suc k) n) ≡ Some s → filter f (numbers_from (suc k) n) ≡ s ∷ filter g (numbers_from (suc k) n)) →
        (b : Bool) → f k ≡ b → cond b (Some k) (find f (numbers_from (suc k) n)) ≡ Some s →
        cond b (k ∷ filter f (numbers_from (suc k) n)) (filter f (numbers_from (suc k) n)) ≡ s ∷ cond (g k) (k ∷ filter g (numbers_from (suc k) n)) (filter g (numbers_from (suc k) n))
    go next true passes found =
        let same : k ≡ s = cc in
        ap₂ (λ m ms. m ∷ ms) same (same_above f g s (suc k) n loses (omega (arith, same)))
        ∙ ap (λ b. s ∷ cond b (k ∷ filter g (numbers_from (suc k) n)) (filter g (numbers_from (suc k) n))) (sym (ap g same ∙ loses.gone))
    go next false fails found =
        let other : k ≢ s = λ same. false≢true (sym fails ∙ ap f same ∙ found_passes f (numbers_from (suc k) n) s found) in
        next found
        ∙ ap (λ b. s ∷ cond b (k ∷ filter g (numbers_from (suc k) n)) (filter g (numbers_from (suc k) n))) (sym (loses.rest k other ∙ fails))

module _ (trace : Trace) (st : State) where
  -- where there is no orphan, none is absorbed
  pub none_to_absorb : find (is_orphan st) (numbers_below trace.shared_heaps) ≡ None → absorptions trace st ≡ []
  none_to_absorb none = ap (map (λ n. Absorbed (record { 0 = n }))) (none_kept (is_orphan st) (numbers_below trace.shared_heaps) none)

  module _ (s : SharedId) where
    abbrev after : State
    after = step trace st (Absorbed s)

    others : (t : ℕ) → t ≢ s.0 → is_orphan after t ≡ is_orphan st t
    unfolding step after_absorbed set_phase keep_exits
    others t apart = ap (λ phase. is_live phase && not (has_sharer st.shares t)) (get_or-set_other st.phases s.0 t AbsorbedPhase Unmade apart)

    own : s.0 < length st.phases → is_orphan after s.0 ≡ false
    unfolding step after_absorbed set_phase keep_exits
    own inside = ap (λ phase. is_live phase && not (has_sharer st.shares s.0)) (get_or-set_same st.phases s.0 AbsorbedPhase Unmade inside)

    -- the orphan of the lowest number is absorbed first, then those that are left
    pub absorptions_next : s.0 < length st.phases → find (is_orphan st) (numbers_below trace.shared_heaps) ≡ Some s.0 → absorptions trace st ≡ Absorbed s ∷ absorptions trace after
    absorptions_next inside found =
        ap (map (λ n. Absorbed (record { 0 = n })))
        (first_goes (is_orphan st) (is_orphan after) s.0 (record { gone = own inside; rest = others }) 0 trace.shared_heaps found)
