-- What a walk along a chain finds, and what writes of spots leave.
use Rattle.std.proofs.Common.{◌≡◌, ◌≢◌, ℕ, zero, suc, ◌+◌, ◌<◌, refl, sym, ap, subst, ◌∙◌, inl, inr, List, [], ◌∷◌, ◌++◌, length, set, add-one, arith}
use Rattle.std.proofs.lemmas.Bool.{cases_eq}
use Rattle.std.proofs.lemmas.List.{get_or-set_same, get_or-set_other, length-set}
use Rattle.k_types.proofs.Lists.{get_or-set_cases}
use Rattle.k_space.specs.declared.chains.Spot.{Spot}
use Rattle.k_space.specs.Chains.{AreChained, AreLinked, IsNext, IsReached, IsRemoved, IsSought, before_at, blank, chain_by, head_at, linked, serial_at, spot_at, with_before}
use Rattle.k_space.proofs.ChainSteps.{added, unlinked_first, unlinked_passed}

-- where a walk for a serial is: it has passed the object of the one link, and the other link is the next
pub record IsWalk (serial before : ℕ → ℕ) (chains : ℕ) (head : ℕ → ℕ) (wanted newer link : ℕ) : Type 0 where
  pub limit : ℕ
  pub above : wanted < limit
  pub next : IsNext serial chains (chain_by chains wanted) limit link
  pub first : newer ≡ 0 → head (chain_by chains wanted) ≡ link
  pub passed : (other : ℕ) → newer ≡ suc other → (before other ≡ link) × (serial other ≡ limit) × (chain_by chains (serial other) ≡ chain_by chains wanted)

-- the same of equal lists
pub reached_in : (spots spots' : List Spot) (heads heads' : List ℕ) (wanted newer at : ℕ) → spots' ≡ spots → heads' ≡ heads → IsReached (serial_at spots') (before_at spots') (length heads') (head_at heads') wanted newer at →
    IsReached (serial_at spots) (before_at spots) (length heads) (head_at heads) wanted newer at
reached_in spots spots' heads heads' wanted newer at s h reached =
    subst (λ (hs : List ℕ). IsReached (serial_at spots) (before_at spots) (length hs) (head_at hs) wanted newer at) h
    (subst (λ (xs : List Spot). IsReached (serial_at xs) (before_at xs) (length heads') (head_at heads') wanted newer at) s reached)

pub sought_in : (spots spots' : List Spot) (heads heads' : List ℕ) (made wanted : ℕ) → spots' ≡ spots → heads' ≡ heads → AreLinked spots heads made → wanted < made → IsSought spots' heads' wanted
sought_in spots spots' heads heads' made wanted s h linked given =
    subst (λ (hs : List ℕ). IsSought spots' hs wanted) (sym h) (subst (λ (xs : List Spot). IsSought xs heads wanted) (sym s) (record { made = made; linked = linked; given = given }))

-- an object lies in a spot that there is
pub live_inside : (spots : List Spot) (slot : ℕ) → 0 < serial_at spots slot → slot < length spots
live_inside [] slot live = absurd (omega (arith, live))
live_inside (x ∷ xs) zero live = omega arith
live_inside (x ∷ xs) (suc slot) live = omega (arith, live_inside xs slot live)

-- a free spot more
pub grown_at : (spots : List Spot) (slot : ℕ) → spot_at (spots ++ blank ∷ []) slot ≡ spot_at spots slot
grown_at [] zero = refl
grown_at [] (suc slot) = refl
grown_at (x ∷ xs) zero = refl
grown_at (x ∷ xs) (suc slot) = grown_at xs slot

-- another link of one slot leaves all else
pub before_only : {A : Type 0} (spots : List Spot) (slot t before : ℕ) (part : Spot → A) → ((s : Spot) (n : ℕ) → part (record s { before = n }) ≡ part s) → part (spot_at (with_before spots slot before) t) ≡ part (spot_at spots t)
before_only spots slot t before part same =
    elim (get_or-set_cases spots slot t (record (spot_at spots slot) { before = before }) blank) [
      | inl other ↦ ap part other
      | inr both ↦ ap part both.1 ∙ same (spot_at spots slot) before ∙ ap (λ n. part (spot_at spots n)) (sym both.0)
    ]

-- the slot has the object of the next serial
pub spot_inserted : (spots grown : List Spot) (heads : List ℕ) (serial slot chain before : ℕ) → AreLinked spots heads serial → ((t : ℕ) → spot_at grown t ≡ spot_at spots t) → slot < length grown → serial_at spots slot ≡ 0 → chain ≡ chain_by (length heads) serial → chain < length heads →
    before ≡ head_at heads chain → AreLinked (set grown slot (record { serial = serial; before = before; stamp = 0; next = 0; near = 0 })) (set heads chain (slot + 1)) (serial + 1)
spot_inserted spots grown heads serial slot chain before was same inside free is within read =
    subst (λ n. AreChained (serial_at (set grown slot (record { serial = serial; before = before; stamp = 0; next = 0; near = 0 }))) (before_at (set grown slot (record { serial = serial; before = before; stamp = 0; next = 0; near = 0 }))) n (head_at (set heads chain (slot + 1))) (serial + 1)) (sym (length-set heads chain (slot + 1)))
    (added (serial_at spots) (before_at spots) (serial_at (set grown slot (record { serial = serial; before = before; stamp = 0; next = 0; near = 0 }))) (before_at (set grown slot (record { serial = serial; before = before; stamp = 0; next = 0; near = 0 }))) (length heads) (head_at heads) (head_at (set heads chain (slot + 1))) serial slot was free
    (ap (λ (s : Spot). s.serial) here) (λ t differs. ap (λ (s : Spot). s.serial) (kept t differs))
    (ap (λ (s : Spot). s.before) here ∙ read ∙ ap (head_at heads) is) (λ t differs. ap (λ (s : Spot). s.before) (kept t differs))
    (ap (head_at (set heads chain (slot + 1))) (sym is) ∙ get_or-set_same heads chain (slot + 1) 0 within ∙ add-one slot)
    (λ c differs. get_or-set_other heads chain c (slot + 1) 0 (λ q. differs (q ∙ is)))
    (subst (λ n. n < length heads) is within))
  where
    here : spot_at (set grown slot (record { serial = serial; before = before; stamp = 0; next = 0; near = 0 })) slot ≡ record { serial = serial; before = before; stamp = 0; next = 0; near = 0 }
    here = get_or-set_same grown slot (record { serial = serial; before = before; stamp = 0; next = 0; near = 0 }) blank inside

    kept : (t : ℕ) → t ≢ slot → spot_at (set grown slot (record { serial = serial; before = before; stamp = 0; next = 0; near = 0 })) t ≡ spot_at spots t
    kept t differs = get_or-set_other grown slot t (record { serial = serial; before = before; stamp = 0; next = 0; near = 0 }) blank differs ∙ same t

-- the object in the slot is found on the way from the head, and a link on that way passes it by
pub spot_removed : (spots : List Spot) (heads : List ℕ) (made wanted newer at slot before : ℕ) → AreLinked spots heads made → IsReached (serial_at spots) (before_at spots) (length heads) (head_at heads) wanted newer at → at ≡ suc slot → newer ≡ 0 → before ≡ before_at spots slot →
    chain_by (length heads) wanted < length heads → AreLinked (set spots slot blank) (set heads (chain_by (length heads) wanted) before) made
spot_removed spots heads made wanted newer at slot before was reached e none is within =
    let inside = live_inside spots slot (reached.live slot e) in
    let there : serial_at spots slot ≡ wanted = reached.there slot e in
    let chain : chain_by (length heads) (serial_at spots slot) ≡ chain_by (length heads) wanted = ap (chain_by (length heads)) there in
    let new = set spots slot blank in
    subst (λ n. AreChained (serial_at new) (before_at new) n (head_at (set heads (chain_by (length heads) wanted) before)) made) (sym (length-set heads (chain_by (length heads) wanted) before))
    (unlinked_first (serial_at spots) (before_at spots) (serial_at new) (before_at new) (length heads) (head_at heads) (head_at (set heads (chain_by (length heads) wanted) before)) made slot was (reached.live slot e)
    (ap (head_at heads) chain ∙ reached.first slot e none ∙ e)
    (λ t differs. ap (λ (s : Spot). s.serial) (get_or-set_other spots slot t blank blank differs)) (ap (λ (s : Spot). s.serial) (get_or-set_same spots slot blank blank inside))
    (λ t differs. ap (λ (s : Spot). s.before) (get_or-set_other spots slot t blank blank differs))
    (ap (head_at (set heads (chain_by (length heads) wanted) before)) chain ∙ get_or-set_same heads (chain_by (length heads) wanted) before 0 within ∙ is)
    (λ c differs. get_or-set_other heads (chain_by (length heads) wanted) c before 0 (λ q. differs (q ∙ sym chain)))
    (subst (λ n. n < length heads) (sym chain) within))

pub spot_passed : (spots : List Spot) (heads : List ℕ) (made wanted newer at slot other before : ℕ) → AreLinked spots heads made → IsReached (serial_at spots) (before_at spots) (length heads) (head_at heads) wanted newer at → at ≡ suc slot → newer ≡ suc other → before ≡ before_at spots slot →
    AreLinked (with_before (set spots slot blank) other before) heads made
spot_passed spots heads made wanted newer at slot other before was reached e past is =
    unlinked_passed (serial_at spots) (before_at spots) (serial_at (with_before (set spots slot blank) other before)) (before_at (with_before (set spots slot blank) other before)) (length heads) (head_at heads) made slot other was (reached.live slot e)
    (on.0 ∙ e) (omega (arith, there, on.1)) (on.2 ∙ sym (ap (chain_by (length heads)) there))
    (λ t differs. kept_serial t ∙ ap (λ (s : Spot). s.serial) (get_or-set_other spots slot t blank blank differs)) (kept_serial slot ∙ ap (λ (s : Spot). s.serial) (get_or-set_same spots slot blank blank inside))
    (ap (λ (s : Spot). s.before) (get_or-set_same (set spots slot blank) other (record (spot_at (set spots slot blank) other) { before = before }) blank other_in) ∙ is)
    (λ t differs another. ap (λ (s : Spot). s.before) (get_or-set_other (set spots slot blank) other t (record (spot_at (set spots slot blank) other) { before = before }) blank another) ∙ ap (λ (s : Spot). s.before) (get_or-set_other spots slot t blank blank differs))
  where
    on : (before_at spots other ≡ at) × (wanted < serial_at spots other) × (chain_by (length heads) (serial_at spots other) ≡ chain_by (length heads) wanted)
    on = reached.passed slot other e past

    there : serial_at spots slot ≡ wanted
    there = reached.there slot e

    inside : slot < length spots
    inside = live_inside spots slot (reached.live slot e)

    other_in : other < length (set spots slot blank)
    other_in = let here = live_inside spots other (omega (arith, on.1)) in omega (arith, here, length-set spots slot blank)

    kept_serial : (t : ℕ) → serial_at (with_before (set spots slot blank) other before) t ≡ serial_at (set spots slot blank) t
    kept_serial t = before_only (set spots slot blank) other t before (λ (s : Spot). s.serial) (λ s n. refl)

-- the slot of that serial is free
pub removed_first : (spots : List Spot) (heads : List ℕ) (made wanted newer at slot : ℕ) → AreLinked spots heads made → IsReached (serial_at spots) (before_at spots) (length heads) (head_at heads) wanted newer at → at ≡ suc slot → IsRemoved spots (set spots slot blank) wanted
removed_first spots heads made wanted newer at slot was reached e = record {
  gone = λ t is.
      let one : t ≡ slot = was.apart t slot (is ∙ sym there) (omega (arith, is, there, live)) in
      ap (serial_at (set spots slot blank)) one ∙ ap (λ (s : Spot). s.serial) cut;
  serials = λ t differs. ap (λ (s : Spot). s.serial) (kept t differs);
  stamps = λ t differs. ap (λ (s : Spot). s.stamp) (kept t differs);
  nexts = λ t differs. ap (λ (s : Spot). s.next) (kept t differs);
  low = λ t.
      elim (cases_eq t slot) [
        | inl one ↦
            let none : (spot_at (set spots slot blank) t).stamp ≡ 0 = ap (λ n. (spot_at (set spots slot blank) n).stamp) one ∙ ap (λ (s : Spot). s.stamp) cut in
            omega (arith, none)
        | inr differs ↦
            let same : (spot_at (set spots slot blank) t).stamp ≡ (spot_at spots t).stamp = ap (λ (s : Spot). s.stamp) (get_or-set_other spots slot t blank blank differs) in
            omega (arith, same)
      ];
}
  where
    there : serial_at spots slot ≡ wanted
    there = reached.there slot e

    live : 0 < serial_at spots slot
    live = reached.live slot e

    cut : spot_at (set spots slot blank) slot ≡ blank
    cut = get_or-set_same spots slot blank blank (live_inside spots slot live)

    kept : (t : ℕ) → serial_at spots t ≢ wanted → spot_at (set spots slot blank) t ≡ spot_at spots t
    kept t differs = get_or-set_other spots slot t blank blank (λ q. differs (ap (serial_at spots) q ∙ there))

pub removed_passed : (spots cut : List Spot) (wanted other before : ℕ) → IsRemoved spots cut wanted → IsRemoved spots (with_before cut other before) wanted
removed_passed spots cut wanted other before was = record {
  gone = λ t is. before_only cut other t before (λ (s : Spot). s.serial) (λ s n. refl) ∙ was.gone t is;
  serials = λ t differs. before_only cut other t before (λ (s : Spot). s.serial) (λ s n. refl) ∙ was.serials t differs;
  stamps = λ t differs. before_only cut other t before (λ (s : Spot). s.stamp) (λ s n. refl) ∙ was.stamps t differs;
  nexts = λ t differs. before_only cut other t before (λ (s : Spot). s.next) (λ s n. refl) ∙ was.nexts t differs;
  low = λ t. let same = before_only cut other t before (λ (s : Spot). s.stamp) (λ s n. refl) in omega (arith, same, was.low t);
}
