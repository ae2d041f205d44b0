-- What the links of the chains say.
use Rattle.std.proofs.Common.{◌≡◌, ◌≢◌, ◌==◌, ℕ, suc, ◌<◌, ◌≤◌, ◌&&◌, not, true, false, refl, sym, ap, ap₂, ◌∙◌, inl, inr, List, length, eqb-true, eq-eqb, arith}
use Rattle.std.proofs.lemmas.Bool.{cases_eq, cases_lt, false≢true, and_from, and_parts, false_from_ne_true}
use Rattle.k_types.specs.declared.names.Name.{Name}
use Rattle.k_types.specs.Names.{name_eq}
use Rattle.k_exit.specs.declared.chains.Item.{Item}
use Rattle.k_lists.specs.Hash.{bucket}
use Rattle.k_exit.specs.Chains.{at, last, in_chain, IsChained}
use Rattle.k_exit.proofs.Last.{last_hit, last_skips, last_within}

-- tests of places in chains
pub in_from : (items : List Item) (room out b j : ℕ) → j ≢ out → bucket room (at items j).target ≡ b → in_chain items room out b j ≡ true
in_from items room out b j apart e =
    and_from (not (j == out)) (bucket room (at items j).target == b) (ap not (false_from_ne_true (j == out) (λ t. apart (eqb-true j out t)))) (eq-eqb (bucket room (at items j).target) b e)

pub in_bucket : (items : List Item) (room out b j : ℕ) → in_chain items room out b j ≡ true → bucket room (at items j).target ≡ b
in_bucket items room out b j e = eqb-true (bucket room (at items j).target) b (and_parts (not (j == out)) (bucket room (at items j).target == b) e).1

pub in_not : (items : List Item) (room out b j : ℕ) → (bucket room (at items j).target ≡ b → ⊥) → in_chain items room out b j ≡ false
in_not items room out b j apart = false_from_ne_true (in_chain items room out b j) (λ t. apart (in_bucket items room out b j t))

pub in_out : (items : List Item) (room out b : ℕ) → in_chain items room out b out ≡ false
in_out items room out b = ap (λ t. not t && (bucket room (at items out).target == b)) (eq-eqb out out refl)

-- a place that is false is in another chain
pub not_in : (items : List Item) (room out b j : ℕ) → j ≢ out → in_chain items room out b j ≡ false → bucket room (at items j).target ≢ b
not_in items room out b j apart off e = false≢true (sym off ∙ in_from items room out b j apart e)

-- which one is left out doesn't matter elsewhere
pub out_other : (items : List Item) (room out new b j : ℕ) → j ≢ out → j ≢ new → in_chain items room new b j ≡ in_chain items room out b j
out_other items room out new b j a c =
    ap₂ (λ s t. not s && (bucket room (at items j).target == t)) (false_from_ne_true (j == new) (λ t. c (eqb-true j new t)) ∙ sym (false_from_ne_true (j == out) (λ t. a (eqb-true j out t)))) refl

-- where the walk of a chain for a target is
pub record IsWalk (items : List Item) (heads : List ℕ) (target : Name) (next : ℕ) : Type 0 where
  pub within : next ≤ length items
  pub chained : (i : ℕ) → next ≡ suc i → bucket (length heads) (at items i).target ≡ bucket (length heads) target
  pub beyond : (j : ℕ) → next ≤ j → j < length items → (at items j).target ≢ target

pub walk_begins : (items : List Item) (heads : List ℕ) (target : Name) (next : ℕ) → next ≡ last (in_chain items (length heads) (length items) (bucket (length heads) target)) (length items) → IsWalk items heads target next
walk_begins items heads target next e =
    let p = in_chain items (length heads) (length items) (bucket (length heads) target) in
    record {
      within = omega (arith, e, last_within p (length items));
      chained = λ i is. in_bucket items (length heads) (length items) (bucket (length heads) target) i (last_hit p (length items) i (sym e ∙ is)).1;
      beyond = λ j low high same.
          not_in items (length heads) (length items) (bucket (length heads) target) j (λ s. omega (arith, high, s)) (last_skips p (length items) j (omega (arith, e, low)) high) (ap (bucket (length heads)) same);
    }

pub walk_goes : (items : List Item) (heads : List ℕ) (target : Name) (i next : ℕ) → IsChained items heads → IsWalk items heads target (suc i) → (at items i).target ≢ target → next ≡ (at items i).next → IsWalk items heads target next
walk_goes items heads target i next chained walk differs e =
    record {
      within = omega (arith, is, last_within (in_chain items (length heads) (length items) (bucket (length heads) target)) i, walk.within);
      chained = λ k is_k. in_bucket items (length heads) (length items) (bucket (length heads) target) k (last_hit (in_chain items (length heads) (length items) (bucket (length heads) target)) i k (sym is ∙ is_k)).1;
      beyond = λ j low high.
          elim (cases_eq j i) [
            | inl same ↦ λ t. differs (ap (λ k. (at items k).target) (sym same) ∙ t)
            | inr other ↦ by_side j low high other
          ];
    }
  where
    is : next ≡ last (in_chain items (length heads) (length items) (bucket (length heads) target)) i
    is = e ∙ chained.nexts i (omega (arith, walk.within)) (λ s. omega (arith, walk.within, s)) ∙ ap (λ b. last (in_chain items (length heads) (length items) b) i) (walk.chained i refl)

    by_side : (j : ℕ) → next ≤ j → j < length items → j ≢ i → (at items j).target ≢ target
    by_side j low high other = elim (cases_lt j i) [
      | inl below ↦ λ t.
          not_in items (length heads) (length items) (bucket (length heads) target) j (λ s. omega (arith, high, s))
          (last_skips (in_chain items (length heads) (length items) (bucket (length heads) target)) i j (omega (arith, is, low)) below) (ap (bucket (length heads)) t)
      | inr above ↦ walk.beyond j (omega (arith, above, other)) high
    ]

pub differs_of : (a b : Name) → name_eq a b ≡ false → a ≢ b
differs_of a b ne e = false≢true (sym ne ∙ ap (name_eq a) (sym e) ∙ and_from (a.seg.0 == a.seg.0) (a.serial.0 == a.serial.0) (eq-eqb a.seg.0 a.seg.0 refl) (eq-eqb a.serial.0 a.serial.0 refl))
