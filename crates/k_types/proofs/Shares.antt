-- Who shares a heap.
use Rattle.std.proofs.Common.{ℕ, ◌==◌, refl, inl, inr, List, [], ◌∷◌, eq-eqb, IsTrue, ◌≡◌, sym, ◌∙◌, ◌&&◌}
use Rattle.std.proofs.lemmas.Bool.{or_left, or_right, or_cases, and_from, false≢true, and_parts}
use Rattle.k_types.specs.State.{Sharing, has_share}
use Rattle.k_types.specs.Steps.{has_sharer}
use Rattle.k_types.proofs.Tests.{same_test}

-- who shares the heap is a sharer of it
pub sharer_of : (shares : List Sharing) (p s : ℕ) → IsTrue (has_share shares p s) → IsTrue (has_sharer shares s)
sharer_of [] p s t = t
sharer_of (e ∷ shares) p s t =
    elim (or_cases ((e.process == p) && (e.heap == s)) (has_share shares p s) t) [
      | inl here ↦ or_left _ _ (and_parts (e.process == p) (e.heap == s) here).1
      | inr there ↦ or_right (e.heap == s) _ (sharer_of shares p s there)
    ]

-- a shared heap has a sharer where some process shares it
pub sharer_from : (shares : List Sharing) (s : ℕ) → IsTrue (has_sharer shares s) → (p : ℕ) × IsTrue (has_share shares p s)
sharer_from [] s t = absurd (false≢true t)
sharer_from (e ∷ shares) s t =
    elim (or_cases (e.heap == s) (has_sharer shares s) t) [
      | inl here ↦ (e.process, or_left _ _ (and_from _ _ (eq-eqb e.process e.process refl) here))
      | inr there ↦ let rest = sharer_from shares s there in (rest.0, or_right _ _ rest.1)
    ]

pub sharers_same : (shares others : List Sharing) → ((p s : ℕ) → has_share shares p s ≡ has_share others p s) → (s : ℕ) → has_sharer shares s ≡ has_sharer others s
sharers_same shares others same s =
    same_test (has_sharer shares s) (has_sharer others s)
    (λ t. let who = sharer_from shares s t in sharer_of others who.0 s (sym (same who.0 s) ∙ who.1))
    (λ t. let who = sharer_from others s t in sharer_of shares who.0 s (same who.0 s ∙ who.1))
