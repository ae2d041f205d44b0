-- What a host answers of a limit or a register, and none where it has no such one.
use Rattle.std.proofs.Common.{◌≡◌, ℕ, ◌<◌, ◌≤◌, sym, ap, ◌∙◌, if◌then◌else◌, nat_lt, lt-ltb, le-ltb, ltb-true, ltb-false, IfNone, IfSome, OnSome, Option, Some, None, inl, inr}
use Rattle.std.proofs.lemmas.Bool.{cases_Bool}
use Rattle.k_types.specs.Bounds.{register_count}

pub limit_told : (n count value : ℕ) (found : Option ℕ) → OnSome found (n < count) → IfNone found (count ≤ n) → IfSome found (λ m. m ≡ value) → found ≡ (if nat_lt n count then Some value else None)
limit_told n count value None there none is = ap (λ b. if b then Some value else None) (sym (le-ltb n count none))
limit_told n count value (Some m) there none is = ap Some is ∙ ap (λ b. if b then Some value else None) (sym (lt-ltb n count there))

pub register_told : {A : Type 0} (r : ℕ) (held found : Option A) → (r < register_count → found ≡ held) → (register_count ≤ r → found ≡ None) → found ≡ (if nat_lt r register_count then held else None)
register_told r held found there none =
    elim (cases_Bool (nat_lt r register_count)) [
      | inl low ↦ there (ltb-true r register_count low) ∙ ap (λ b. if b then held else None) (sym low)
      | inr high ↦ none (ltb-false r register_count high) ∙ ap (λ b. if b then held else None) (sym high)
    ]
