-- A list in order of its targets.
use Rattle.std.proofs.Common.{◌≡◌, ℕ, zero, suc, Bool, true, cond, refl, ap, ◌∙◌, List, [], ◌∷◌, map, get_or, slice_get, Some, arith}
use Rattle.k_types.specs.Names.{name_eq}
use Rattle.k_exit.specs.declared.chains.Item.{Item}
use Rattle.k_exit.specs.Chains.{row_of, blank}
use Rattle.k_exit.specs.Exits.{ExitRow, AreDistinct}
use Rattle.k_types.proofs.NameTests.{name_eq-same}
use Rattle.k_exit.proofs.Lists.{count-cons, once}

-- two places of a list of distinct targets have two
pub apart_next : (xs : List ExitRow) (i : ℕ) (x y : ExitRow) → AreDistinct xs → slice_get xs i ≡ Some x → slice_get xs (suc i) ≡ Some y → name_eq x.target y.target ≡ true → ⊥
apart_next [] i x y distinct a b e = cc
apart_next (r ∷ rs) zero x y distinct a b e =
    let same : r ≡ x = cc in
    let on : bit (name_eq r.target y.target) ≡ 1 = ap (λ (s : ExitRow). bit (name_eq s.target y.target)) same ∙ ap bit e in
    omega (arith, count-cons y.target r rs, on, once rs zero y y.target b (name_eq-same y.target y.target refl), distinct y.target)
  where
    bit : Bool → ℕ
    bit b = cond b 1 0
apart_next (r ∷ rs) (suc i) x y distinct a b e = apart_next rs i x y (λ t. omega (arith, count-cons t r rs, distinct t)) a b e

-- the key of an item is that of its row
pub key_at : (items : List Item) (i : ℕ) (x : ExitRow) → slice_get (map row_of items) i ≡ Some x → (get_or items i blank).target ≡ x.target
key_at [] i x e = absurd (cc)
key_at (r ∷ rs) zero x e = let same : row_of r ≡ x = cc in ap (λ (s : ExitRow). s.target) same
key_at (r ∷ rs) (suc i) x e = key_at rs i x e
