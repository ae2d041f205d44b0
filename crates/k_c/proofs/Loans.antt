-- What the walks share: what lies at an address is lent for a lifetime of its own, and is had back once that is over.
use Rattle.std.proofs.Common.{ℕ, List, [], ◌∷◌}
use seplogic.Ra.Ura.{Ura}
use mir.Syntax.{Lifetime}
use mir.Val.{vptr}
use base.Fraction.{full_share}
use base.Fml.{flft, flent, fres}
use types.Logic.{Logic}
use types.SemTy.{Body}
use types.Kit.{Goal, Item, Seq, Step, Soaks, step, ‵, ◌⊛◌, some, later, ◌$◌, await, pick, split, move, use1, use3}
use types.Tokens.{lft_new, lft_end}
use denote.RattleType.{RattleType}
use denote.Lend.{lends_ref, ref_back}
use denote.Memory.{mem}
use denote.Ref.{MutRef}

module _ {M : Type 1} {𝓤 : Ura M} {𝓛 : Logic 𝓤} {K : Type 0} {Γ : List (Item 𝓤)} {G : Goal 𝓤 𝓛.H} where
  -- [what lies there] becomes [the loan; what comes back; the token of its lifetime]
  pub lent : K → Soaks G → (R : RattleType) (ℓ : Lifetime) (h : R.Denot) (b o : ℕ)
      → ((α γ : ℕ) → Seq K 𝓛 (‵ ((MutRef ℓ (α ∷ []) R).own_val (record { ref_ptr = (b, o); ghost_name = γ; now = h }) (vptr b o ∷ [])) ∷ ‵ (flent (α ∷ []) (Body (mem R) b o γ)) ∷ ‵ (flft (α ∷ []) full_share) ∷ Γ) G)
      → Seq K 𝓛 (‵ ((mem R).own_at h b o) ∷ Γ) G
  lent t z R ℓ h b o k =
      lft_new t z (λ α. move t (1 ∷ []) $
      use1 𝓛 (later (some (λ (γ : ℕ). ‵ ((MutRef ℓ (α ∷ []) R).own_val (record { ref_ptr = (b, o); ghost_name = γ; now = h }) (vptr b o ∷ [])) ⊛ ‵ (flent (α ∷ []) (Body (mem R) b o γ)))))
      (lends_ref 𝓛 R ℓ (α ∷ []) h b o) $ await t z $ pick t (λ γ. split t $ k α γ))

  -- [the token; what comes back; the loan's last value] becomes [what lies there]
  pub had_back : K → Soaks G → (R : RattleType) (h : R.Denot) (b o α γ : ℕ)
      → Step K 𝓛 (‵ ((mem R).own_at h b o) ∷ Γ) G (‵ (flft (α ∷ []) full_share) ∷ ‵ (flent (α ∷ []) (Body (mem R) b o γ)) ∷ ‵ (fres γ (R.coded.code h)) ∷ Γ) G
  had_back t z R h b o α γ = step (λ s. lft_end t z $ use3 𝓛 (later (‵ ((mem R).own_at h b o))) (ref_back 𝓛 R (α ∷ []) γ h b o) $ await t z $ s)
