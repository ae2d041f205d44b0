-- Of one number and of two, and of longer lists.
use Rattle.std.proofs.Common.{◌≡◌, ◌≢◌, ℕ, zero, suc, ◌+◌, List, ◌++◌, replicate, refl, sym, ap, ◌∙◌, arith, append_assoc, subst}
use Rattle.k_tie.specs.Rule.{total_of}
use Rattle.k_types.specs.Complete.{IsPrefixOf}
use mathlib.Core.Logic.{dite}
use native.Mathlib.Decide.{ℕ_discrete}
use Rattle.k_types.proofs.Sums.{one_if_same-same, one_if_same-other}
use Rattle.k_types.specs.Counts.{one_if_same}

pub prefix_longer : {A : Type 0} (xs ys zs : List A) → IsPrefixOf xs ys → IsPrefixOf xs (ys ++ zs)
prefix_longer xs ys zs p = (p.0 ++ zs, sym (append_assoc xs p.0 zs) ∙ ap (λ w. w ++ zs) p.1)

-- so many touches of a cell are that many of its total, and none of another's
pub total_touched : (n : ℕ) (t : List ℕ) (c : ℕ) → total_of (replicate n c ++ t) c ≡ total_of t c + n
total_touched zero t c = omega arith
total_touched (suc n) t c = let rest = total_touched n t c in let here = one_if_same-same c in omega (arith, rest, here)

pub total_apart : (n : ℕ) (t : List ℕ) (c d : ℕ) → one_if_same c d ≡ 0 → total_of (replicate n c ++ t) d ≡ total_of t d
total_apart zero t c d other = refl
total_apart (suc n) t c d other = let rest = total_apart n t c d other in omega (arith, rest, other)

pub one_if_same-swap : (x c : ℕ) → one_if_same x c ≡ 0 → one_if_same c x ≡ 0
one_if_same-swap x c z = dite (ℕ_discrete x c) (λ (e : x ≡ c). absurd (let s = one_if_same-same x in let r : one_if_same x x ≡ 0 = subst (λ y. one_if_same x y ≡ 0) (sym e) z in omega arith)) (λ (n : x ≢ c). one_if_same-other c x (λ e. n (sym e)))
