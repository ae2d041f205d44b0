-- The seventh and the eighth point by their tests.
use Rattle.std.proofs.Common.{◌≡◌, ◌∙◌, ◌↔◌, ◌&&◌, ◌==◌, ℕ, suc, ◌+◌, ◌-◌, ◌^◌, ◌<◌, ◌≤◌, min, Bool, true, List, [], ◌∷◌, length, map, get_or, refl, ap, ap₂, eq-eqb, eqb-true, le-leb, leb-true, arith}
use Rattle.std.specs.List.{list_all}
use Rattle.std.proofs.lemmas.Bool.{and_from, and_parts}
use Rattle.k_types.specs.declared.names.Heap.{Heap}
use Rattle.k_types.specs.declared.names.Heap.TheVariants.{Kernel}
use Rattle.k_types.specs.Limits.{limits_in, max_of, use_of}
use Rattle.k_types.specs.Numbers.{numbers_below, numbers_from}
use Rattle.k_types.specs.Owners.{bytes_of, charge_of, owner_of}
use Rattle.k_types.specs.State.{State}
use Rattle.k_types.specs.Trace.{Trace, process_count}
use Rattle.k_types.proofs.Numbered.{all_at_below, all_below}
use Rattle.k_audit.specs.Agreeing.{agree, claims_agree, kernel_agrees, owners_agree, shared_bytes}
use Rattle.k_audit.specs.Claims.{Claims, claims_of}
use Rattle.k_audit.specs.Grammar.{AreSpelledClaims}
use Rattle.k_audit.specs.Sums.{UsesFit}
use Rattle.k_audit.specs.Tests.{use_fits}
use Rattle.k_audit.proofs.Owners.{owners_law}
use Rattle.k_types.proofs.Lists.{get_mapped}

pub uses_law : (trace : Trace) (st : State) → (list_all (use_fits trace st) (numbers_below (length trace.limits)) ≡ true) ↔ UsesFit trace st
uses_law trace st = (
  λ all m inside. leb-true (use_of trace st m) (max_of (limits_in trace st) m) (all_at_below (use_fits trace st) (length trace.limits) m all inside),
  λ fit. all_below (use_fits trace st) (length trace.limits) (λ m inside. le-leb (use_of trace st m) (max_of (limits_in trace st) m) (fit m inside)),
)

-- ---- lists of numbers, one by one

agree_from : (f : ℕ → ℕ) (xs : List ℕ) (first : ℕ) → ((k : ℕ) → k < length xs → get_or xs k 0 ≡ f (first + k)) → xs ≡ map f (numbers_from first (length xs))
agree_from f [] first each = refl
agree_from f (x ∷ xs) first each =
    let here : x ≡ f first = each 0 (omega arith) ∙ ap f (let e : first + 0 ≡ first = omega arith in e) in
    let rest = agree_from f xs (suc first) (λ k inside. each (suc k) (omega arith) ∙ ap f (let e : first + suc k ≡ suc first + k = omega arith in e)) in
    ap₂ (λ (y : ℕ) (ys : List ℕ). y ∷ ys) here rest

pub agree_law : (f : ℕ → ℕ) (xs : List ℕ) (n : ℕ) → length xs ≡ n → (agree f xs n ≡ true) ↔ (xs ≡ map f (numbers_below n))
agree_law f xs n long =
    let test : ℕ → Bool = λ k. get_or xs k 0 == f k in (
      λ all.
          agree_from f xs 0 (λ k inside. eqb-true (get_or xs k 0) (f k) (all_at_below (λ k. get_or xs k 0 == f k) n k all (omega (arith, long))) ∙ ap f (let e : k ≡ 0 + k = omega arith in e))
          ∙ ap (λ m. map f (numbers_from 0 m)) long,
      λ same. all_below (λ k. get_or xs k 0 == f k) n (λ k inside.
          eq-eqb (get_or xs k 0) (f k) (ap (λ (ys : List ℕ). get_or ys k 0) same ∙ get_mapped f 0 n k inside ∙ ap f (let e : 0 + k ≡ k = omega arith in e))),
    )

-- ---- sums that fit

-- a number that is small is not cut
pub not_cut : (n result max : ℕ) → n ≤ max → max < 2 ^ 40 → result ≡ min n (2 ^ 64 - 1) → result ≡ n
not_cut n result max le small is = omega (arith, le, small, is)

-- ---- the point

same_claims : (c : Claims) (owners : List Heap) (kernel ceiling : ℕ) (uses charges heaps : List ℕ) → c.owners ≡ owners → c.kernel ≡ kernel → c.ceiling ≡ ceiling → c.uses ≡ uses → c.charges ≡ charges → c.shared_bytes ≡ heaps →
    c ≡ record { owners = owners; kernel = kernel; ceiling = ceiling; uses = uses; charges = charges; shared_bytes = heaps }
same_claims c owners kernel ceiling uses charges heaps a b d e f g = rw (← a, ← b, ← d, ← e, ← f, ← g) refl

pub claims_law : (trace : Trace) (st : State) (claims : Claims) → AreSpelledClaims trace st.objects claims → (claims_agree trace st claims ≡ true) ↔ (claims ≡ claims_of trace st)
claims_law trace st claims spelled =
    let own = owner_of trace st in
    let k = kernel_agrees trace st claims in
    let o = owners_agree own claims.owners st.objects in
    let u = agree (use_of trace st) claims.uses (length trace.limits) in
    let c = agree (charge_of trace st) claims.charges (process_count trace) in
    let h = agree (shared_bytes trace st) claims.shared_bytes trace.shared_heaps in
    let uses = agree_law (use_of trace st) claims.uses (length trace.limits) spelled.uses in
    let charges = agree_law (charge_of trace st) claims.charges (process_count trace) spelled.charges in
    let heaps = agree_law (shared_bytes trace st) claims.shared_bytes trace.shared_heaps spelled.shared_bytes in
    let owners = owners_law own claims.owners st.objects in (
      λ all.
          let p = and_parts (k && o && u && c) h all in
          let q = and_parts (k && o && u) c p.0 in
          let r = and_parts (k && o) u q.0 in
          let s = and_parts k o r.0 in
          let t = and_parts (claims.kernel == bytes_of trace st Kernel) (claims.ceiling == trace.ceiling) s.0 in
          same_claims claims _ _ _ _ _ _ (owners.0 s.1) (eqb-true claims.kernel _ t.0) (eqb-true claims.ceiling trace.ceiling t.1) (uses.0 r.1) (charges.0 q.1) (heaps.0 p.1),
      λ same.
          and_from (k && o && u && c) h
          (and_from (k && o && u) c
          (and_from (k && o) u
          (and_from k o
          (and_from (claims.kernel == bytes_of trace st Kernel) (claims.ceiling == trace.ceiling) (eq-eqb claims.kernel _ (ap (λ (x : Claims). x.kernel) same)) (eq-eqb claims.ceiling trace.ceiling (ap (λ (x : Claims). x.ceiling) same)))
          (owners.1 (ap (λ (x : Claims). x.owners) same)))
          (uses.1 (ap (λ (x : Claims). x.uses) same)))
          (charges.1 (ap (λ (x : Claims). x.charges) same)))
          (heaps.1 (ap (λ (x : Claims). x.shared_bytes) same)),
    )
