-- An item leaves its chain, or joins it.
use Rattle.std.proofs.Common.{◌≡◌, ◌≢◌, ◌==◌, ℕ, suc, ◌<◌, ◌≤◌, ◌⊎◌, ◌&&◌, not, Bool, true, false, refl, sym, ap, ap₂, subst, ◌∙◌, inl, inr, List, length, map, get_or, set, Option, Some, None, arith}
use Rattle.std.proofs.lemmas.Bool.{cases_eq, cases_lt}
use Rattle.std.proofs.Math.Seq.{map-set_same}
use Rattle.std.proofs.lemmas.List.{get_or-set_same, get_or-set_other, length-set, get_or_default}
use Rattle.k_exit.specs.declared.chains.Item.{Item}
use Rattle.k_lists.specs.Hash.{bucket}
use Rattle.k_exit.specs.Chains.{row_of, blank, at, with_next, last, top, in_chain, IsLinked, IsChained, IsLinkedAbove, IsNextAbove, HasNoneAbove, IsClimb}
use Rattle.k_exit.proofs.Last.{last_hit, last_skips, last_within, last_same, last_low, last_left_high, last_left_low, last_left_here, last_here}
use Rattle.k_exit.proofs.Links.{in_from, in_bucket, in_not, in_out, not_in, out_other}

-- the climb begins, goes on and ends
apart : (end i out j : ℕ) → (out ≡ i) ⊎ (end ≤ out) → i < j → j < end → j ≢ out
apart end i out j (inl same) above below s = omega (arith, same, above, s)
apart end i out j (inr past) above below s = omega (arith, past, below, s)

climbs : (items : List Item) (heads : List ℕ) (end chain i : ℕ) (found : Option ℕ) (next out : ℕ) → (out ≡ i) ⊎ (end ≤ out) → top found end ≤ end →
    ((p : ℕ) → found ≡ Some p → (i < p) × (p < end) × (bucket (length heads) (at items p).target ≡ chain)) →
    next ≡ last (in_chain items (length heads) out chain) (top found end) → IsClimb items heads end chain i found next
climbs items heads end chain i found next out side within in_it e =
    let p = in_chain items (length heads) out chain in
    record {
      within = within;
      in_it = in_it;
      leads = λ m is above.
          let hit = last_hit (in_chain items (length heads) out chain) (top found end) m (sym e ∙ is) in
          (hit.0, in_bucket items (length heads) out chain m hit.1);
      skips = λ j above low high.
          not_in items (length heads) out chain j (apart end i out j side above (omega (arith, high, within)))
          (last_skips (in_chain items (length heads) out chain) (top found end) j (omega (arith, e, low)) high);
    }

pub climb_begins : (items : List Item) (heads : List ℕ) (end chain i next : ℕ) → IsLinkedAbove items heads end i → chain < length heads → next ≡ get_or heads chain 0 → IsClimb items heads end chain i None next
climb_begins items heads end chain i next l within e =
    climbs items heads end chain i None next l.out l.side (omega arith) (λ p is. absurd (cc)) (e ∙ l.linked.firsts chain within)

pub climb_goes : (items : List Item) (heads : List ℕ) (end chain i : ℕ) (found : Option ℕ) (m next : ℕ) → IsLinkedAbove items heads end i → IsClimb items heads end chain i found (suc m) → i < m → next ≡ (at items m).next →
    IsClimb items heads end chain i (Some m) next × (next < suc m)
climb_goes items heads end chain i found m next l climb above e =
    let here = climb.leads m refl above in
    let below : m < end = omega (arith, here.0, climb.within) in
    let is : next ≡ last (in_chain items (length heads) l.out chain) m =
    e ∙ l.linked.nexts m below (apart end i l.out m l.side above below) ∙ ap (λ b. last (in_chain items (length heads) l.out b) m) here.1 in (
      climbs items heads end chain i (Some m) next l.out l.side (omega (arith, below)) (λ p some. found_is p some below here.1) is,
      omega (arith, is, last_within (in_chain items (length heads) l.out chain) m),
    )
  where
    found_is : (p : ℕ) → ◌≡◌ {A = Option ℕ} (Some m) (Some p) → m < end → bucket (length heads) (at items m).target ≡ chain → (i < p) × (p < end) × (bucket (length heads) (at items p).target ≡ chain)
    found_is p some below is =
        let same : m ≡ p = cc in
        (omega (arith, same, above), omega (arith, same, below), ap (λ k. bucket (length heads) (at items k).target) (sym same) ∙ is)

-- the chains after a change of links alone
pub record SameTargets (items other : List Item) (heads after : List ℕ) : Type 0 where
  pub len : length other ≡ length items
  pub room : length after ≡ length heads
  pub targets : (j : ℕ) → (at other j).target ≡ (at items j).target

-- the test of a place whose target stays
same_test : (items other : List Item) (heads after : List ℕ) (old new b j : ℕ) → SameTargets items other heads after → j ≢ old → j ≢ new → in_chain other (length after) new b j ≡ in_chain items (length heads) old b j
same_test items other heads after old new b j same a c =
    ap₂ (λ n t. not (j == new) && (bucket n t == b)) same.room (same.targets j) ∙ out_other items (length heads) old new b j a c

-- the item at i leaves
module _ (items other : List Item) (heads after : List ℕ) (i : ℕ) (same : SameTargets items other heads after) (chained : IsChained items heads) (inside : i < length items) where
  p : ℕ → ℕ → Bool
  p b = in_chain items (length heads) (length items) b

  q : ℕ → ℕ → Bool
  q b = in_chain other (length after) i b

  b0 : ℕ
  b0 = bucket (length heads) (at items i).target

  agree : (b k j : ℕ) → k ≤ length items → j < k → j ≢ i → in_chain other (length after) i b j ≡ in_chain items (length heads) (length items) b j
  agree b k j within below differs = same_test items other heads after (length items) i b j same (λ s. omega (arith, below, within, s)) differs

  -- another chain stays as it was
  elsewhere : (b k : ℕ) → k ≤ length items → b ≢ bucket (length heads) (at items i).target → last (in_chain other (length after) i b) k ≡ last (in_chain items (length heads) (length items) b) k
  elsewhere b k within differs =
      last_same (in_chain items (length heads) (length items) b) (in_chain other (length after) i b) k
      (λ j below. elim (cases_eq j i) [
        | inl is ↦
            ap (in_chain other (length after) i b) is ∙ in_out other (length after) i b
            ∙ sym (ap (in_chain items (length heads) (length items) b) is ∙ in_not items (length heads) (length items) b i (λ e. differs (sym e)))
        | inr other_one ↦ agree b k j within below other_one
      ])

  bucket_same : (j : ℕ) → bucket (length after) (at other j).target ≡ bucket (length heads) (at items j).target
  bucket_same j = ap₂ bucket same.room (same.targets j)

  next_of : (at items i).next ≡ last (in_chain items (length heads) (length items) (bucket (length heads) (at items i).target)) i
  next_of = chained.nexts i inside (λ s. omega (arith, inside, s))

  pub left_at : (r : ℕ) → IsNextAbove items heads (length items) (bucket (length heads) (at items i).target) i r →
      ((b : ℕ) → get_or after b 0 ≡ get_or heads b 0) → (at other r).next ≡ (at items i).next → ((j : ℕ) → j ≢ r → (at other j).next ≡ (at items j).next) → IsLinked other after (length items) i
  left_at r above firsts here others =
      record {
        end_in = omega (arith, same.len);
        room = omega (arith, same.len, same.room, chained.room);
        small = omega (arith, same.room, chained.small);
        firsts = λ b within.
            firsts b ∙ chained.firsts b (omega (arith, within, same.room))
            ∙ sym (elim (cases_eq b (bucket (length heads) (at items i).target)) [ inl is ↦ high b (length items) is above.below (omega arith) | inr differs ↦ elsewhere b (length items) (omega arith) differs ]);
        nexts = λ j below apart.
            let b = bucket (length after) (at other j).target in
            elim (cases_eq (bucket (length heads) (at items j).target) (bucket (length heads) (at items i).target)) [
              | inl is ↦ elim (cases_eq j r) [
                | inl at_r ↦
                    ap (λ k. (at other k).next) at_r ∙ here ∙ next_of
                    ∙ sym (last_left_here (in_chain items (length heads) (length items) (bucket (length heads) (at items i).target)) (in_chain other (length after) i (bucket (length heads) (at items i).target)) i r
                    (λ k low differs. agree (bucket (length heads) (at items i).target) r k (omega (arith, above.below)) low differs) (in_out other (length after) i (bucket (length heads) (at items i).target)) above.above
                    (λ k low high. in_not items (length heads) (length items) (bucket (length heads) (at items i).target) k (above.lowest k low high)))
                    ∙ ap₂ (λ c k. last (in_chain other (length after) i c) k) (sym (bucket_same j ∙ is)) (sym at_r)
                | inr differs ↦
                    others j differs ∙ chained.nexts j below (λ s. omega (arith, below, s))
                    ∙ sym (by_side j below apart is differs (cases_lt j i))
                    ∙ ap (λ c. last (in_chain other (length after) i c) j) (sym (bucket_same j))
              ]
              | inr differs ↦
                  others j (λ s. differs (ap (λ k. bucket (length heads) (at items k).target) s ∙ above.in_it)) ∙ chained.nexts j below (λ s. omega (arith, below, s))
                  ∙ sym (elsewhere (bucket (length heads) (at items j).target) j (omega (arith, below)) differs)
                  ∙ ap (λ c. last (in_chain other (length after) i c) j) (sym (bucket_same j))
            ];
      }
    where
      high : (b k : ℕ) → b ≡ bucket (length heads) (at items i).target → r < k → k ≤ length items → last (in_chain other (length after) i b) k ≡ last (in_chain items (length heads) (length items) b) k
      high b k is up within =
          last_left_high (in_chain items (length heads) (length items) b) (in_chain other (length after) i b) i r k
          (λ j low differs. agree b k j within low differs) above.above up
          (in_from items (length heads) (length items) b r (λ s. omega (arith, up, within, s)) (above.in_it ∙ sym is))

      by_side : (j : ℕ) → j < length items → j ≢ i → bucket (length heads) (at items j).target ≡ bucket (length heads) (at items i).target → j ≢ r → (j < i) ⊎ (i ≤ j) →
          last (in_chain other (length after) i (bucket (length heads) (at items j).target)) j ≡ last (in_chain items (length heads) (length items) (bucket (length heads) (at items j).target)) j
      by_side j below apart is differs (inl low) =
          last_left_low (in_chain items (length heads) (length items) (bucket (length heads) (at items j).target)) (in_chain other (length after) i (bucket (length heads) (at items j).target)) i j
          (λ k under other_one. agree (bucket (length heads) (at items j).target) j k (omega (arith, below)) under other_one) (omega (arith, low))
      by_side j below apart is differs (inr past) =
          high (bucket (length heads) (at items j).target) j is
          (elim (cases_lt j r) [ inl lower ↦ absurd (above.lowest j (omega (arith, past, apart)) lower is) | inr upper ↦ omega (arith, upper, differs) ]) (omega (arith, below))

  pub left_head : HasNoneAbove items heads (length items) (bucket (length heads) (at items i).target) i → get_or after (bucket (length heads) (at items i).target) 0 ≡ (at items i).next →
      ((b : ℕ) → b ≢ bucket (length heads) (at items i).target → get_or after b 0 ≡ get_or heads b 0) → ((j : ℕ) → (at other j).next ≡ (at items j).next) → IsLinked other after (length items) i
  left_head none here firsts nexts =
      record {
        end_in = omega (arith, same.len);
        room = omega (arith, same.len, same.room, chained.room);
        small = omega (arith, same.room, chained.small);
        firsts = λ b within.
            elim (cases_eq b (bucket (length heads) (at items i).target)) [
              | inl is ↦
                  ap (λ k. get_or after k 0) is ∙ here ∙ next_of
                  ∙ sym (last_left_here (in_chain items (length heads) (length items) (bucket (length heads) (at items i).target)) (in_chain other (length after) i (bucket (length heads) (at items i).target)) i (length items)
                  (λ k low differs. agree (bucket (length heads) (at items i).target) (length items) k (omega arith) low differs) (in_out other (length after) i (bucket (length heads) (at items i).target)) inside
                  (λ k low high. in_not items (length heads) (length items) (bucket (length heads) (at items i).target) k (none k low high)))
                  ∙ ap (λ c. last (in_chain other (length after) i c) (length items)) (sym is)
              | inr differs ↦ firsts b differs ∙ chained.firsts b (omega (arith, within, same.room)) ∙ sym (elsewhere b (length items) (omega arith) differs)
            ];
        nexts = λ j below apart.
            nexts j ∙ chained.nexts j below (λ s. omega (arith, below, s))
            ∙ sym (elim (cases_eq (bucket (length heads) (at items j).target) (bucket (length heads) (at items i).target)) [
              | inl is ↦
                  last_left_low (in_chain items (length heads) (length items) (bucket (length heads) (at items j).target)) (in_chain other (length after) i (bucket (length heads) (at items j).target)) i j
                  (λ k under other_one. agree (bucket (length heads) (at items j).target) j k (omega (arith, below)) under other_one)
                  (elim (cases_lt j i) [ inl low ↦ omega (arith, low) | inr past ↦ absurd (none j (omega (arith, past, apart)) below is) ])
              | inr differs ↦ elsewhere (bucket (length heads) (at items j).target) j (omega (arith, below)) differs
            ])
            ∙ ap (λ c. last (in_chain other (length after) i c) j) (sym (bucket_same j));
      }

-- the item at i joins
module _ (items other : List Item) (heads after : List ℕ) (end i : ℕ) (same : SameTargets items other heads after) (linked : IsLinked items heads end i) (inside : i < end) where
  stays : (b k j : ℕ) → k ≤ end → j < k → j ≢ i → in_chain other (length after) end b j ≡ in_chain items (length heads) i b j
  stays b k j within below differs = same_test items other heads after i end b j same differs (λ s. omega (arith, below, within, s))

  others_chain : (b k : ℕ) → k ≤ end → b ≢ bucket (length heads) (at items i).target → last (in_chain other (length after) end b) k ≡ last (in_chain items (length heads) i b) k
  others_chain b k within differs =
      last_same (in_chain items (length heads) i b) (in_chain other (length after) end b) k
      (λ j below. elim (cases_eq j i) [
        | inl is ↦
            ap (in_chain other (length after) end b) is
            ∙ in_not other (length after) end b i (λ e. differs (sym e ∙ ap₂ bucket same.room (same.targets i)))
            ∙ sym (ap (in_chain items (length heads) i b) is ∙ in_out items (length heads) i b)
        | inr other_one ↦ stays b k j within below other_one
      ])

  same_bucket : (j : ℕ) → bucket (length after) (at other j).target ≡ bucket (length heads) (at items j).target
  same_bucket j = ap₂ bucket same.room (same.targets j)

  is_in : (b : ℕ) → b ≡ bucket (length heads) (at items i).target → in_chain other (length after) end b i ≡ true
  is_in b is = in_from other (length after) end b i (λ s. omega (arith, inside, s)) (same_bucket i ∙ sym is)

  -- what lies between i and k in the new chain
  none_new : (b k : ℕ) → k ≤ end → ((j : ℕ) → i < j → j < k → bucket (length heads) (at items j).target ≡ b → ⊥) → (j : ℕ) → i < j → j < k → in_chain other (length after) end b j ≡ false
  none_new b k within none j low high = in_not other (length after) end b j (λ e. none j low high (sym (same_bucket j) ∙ e))

  -- and in the old one from i on
  none_old : (b k : ℕ) → k ≤ end → ((j : ℕ) → i < j → j < k → bucket (length heads) (at items j).target ≡ b → ⊥) → (j : ℕ) → i ≤ j → j < k → in_chain items (length heads) i b j ≡ false
  none_old b k within none j low high =
      elim (cases_eq j i) [
        | inl is ↦ ap (in_chain items (length heads) i b) is ∙ in_out items (length heads) i b
        | inr differs ↦ in_not items (length heads) i b j (none j (omega (arith, low, differs)) high)
      ]

  -- the last place below i is the same
  low_chain : (b k : ℕ) → k ≤ i → last (in_chain other (length after) end b) k ≡ last (in_chain items (length heads) i b) k
  low_chain b k low = last_left_low (in_chain items (length heads) i b) (in_chain other (length after) end b) i k (λ j below differs. stays b k j (omega (arith, low, inside)) below differs) low

  pub joined_at : (r : ℕ) → IsNextAbove items heads end (bucket (length heads) (at items i).target) i r → ((b : ℕ) → get_or after b 0 ≡ get_or heads b 0) →
      (at other r).next ≡ suc i → (at other i).next ≡ (at items r).next → ((j : ℕ) → j ≢ r → j ≢ i → (at other j).next ≡ (at items j).next) → IsLinked other after end end
  joined_at r above firsts here mine others =
      record {
        end_in = omega (arith, same.len, linked.end_in);
        room = omega (arith, same.len, same.room, linked.room);
        small = omega (arith, same.room, linked.small);
        firsts = λ b within.
            firsts b ∙ linked.firsts b (omega (arith, within, same.room))
            ∙ sym (elim (cases_eq b (bucket (length heads) (at items i).target)) [ inl is ↦ high b end is above.below (omega arith) | inr differs ↦ others_chain b end (omega arith) differs ]);
        nexts = λ j below apart.
            elim (cases_eq j i) [
              | inl at_i ↦
                  ap (λ k. (at other k).next) at_i ∙ mine ∙ linked.nexts r above.below (λ s. omega (arith, above.above, s))
                  ∙ ap (λ c. last (in_chain items (length heads) i c) r) above.in_it
                  ∙ last_low (in_chain items (length heads) i (bucket (length heads) (at items i).target)) i r (omega (arith, above.above))
                  (none_old (bucket (length heads) (at items i).target) r (omega (arith, above.below)) above.lowest)
                  ∙ sym (low_chain (bucket (length heads) (at items i).target) i (omega arith))
                  ∙ ap₂ (λ c k. last (in_chain other (length after) end c) k) (sym (ap (λ k. bucket (length after) (at other k).target) at_i ∙ same_bucket i)) (sym at_i)
              | inr not_i ↦ elim (cases_eq j r) [
                | inl at_r ↦
                    ap (λ k. (at other k).next) at_r ∙ here
                    ∙ sym (last_here (in_chain other (length after) end (bucket (length heads) (at items i).target)) i r (is_in (bucket (length heads) (at items i).target) refl) above.above
                    (none_new (bucket (length heads) (at items i).target) r (omega (arith, above.below)) above.lowest))
                    ∙ ap₂ (λ c k. last (in_chain other (length after) end c) k) (sym (ap (λ k. bucket (length after) (at other k).target) at_r ∙ same_bucket r ∙ above.in_it)) (sym at_r)
                | inr not_r ↦
                    others j not_r not_i ∙ linked.nexts j below not_i
                    ∙ sym (elim (cases_eq (bucket (length heads) (at items j).target) (bucket (length heads) (at items i).target)) [
                      | inl is ↦ by_side j below not_i not_r is (cases_lt j i)
                      | inr differs ↦ others_chain (bucket (length heads) (at items j).target) j (omega (arith, below)) differs
                    ])
                    ∙ ap (λ c. last (in_chain other (length after) end c) j) (sym (same_bucket j))
              ]
            ];
      }
    where
      high : (b k : ℕ) → b ≡ bucket (length heads) (at items i).target → r < k → k ≤ end → last (in_chain other (length after) end b) k ≡ last (in_chain items (length heads) i b) k
      high b k is up within =
          last_left_high (in_chain items (length heads) i b) (in_chain other (length after) end b) i r k
          (λ j low differs. stays b k j within low differs) above.above up
          (in_from items (length heads) i b r (λ s. omega (arith, above.above, s)) (above.in_it ∙ sym is))

      by_side : (j : ℕ) → j < end → j ≢ i → j ≢ r → bucket (length heads) (at items j).target ≡ bucket (length heads) (at items i).target → (j < i) ⊎ (i ≤ j) →
          last (in_chain other (length after) end (bucket (length heads) (at items j).target)) j ≡ last (in_chain items (length heads) i (bucket (length heads) (at items j).target)) j
      by_side j below not_i not_r is (inl low) = low_chain (bucket (length heads) (at items j).target) j (omega (arith, low))
      by_side j below not_i not_r is (inr past) =
          high (bucket (length heads) (at items j).target) j is
          (elim (cases_lt j r) [ inl lower ↦ absurd (above.lowest j (omega (arith, past, not_i)) lower is) | inr upper ↦ omega (arith, upper, not_r) ]) (omega (arith, below))

  pub joined_head : HasNoneAbove items heads end (bucket (length heads) (at items i).target) i → bucket (length heads) (at items i).target < length heads →
      get_or after (bucket (length heads) (at items i).target) 0 ≡ suc i → ((b : ℕ) → b ≢ bucket (length heads) (at items i).target → get_or after b 0 ≡ get_or heads b 0) →
      (at other i).next ≡ get_or heads (bucket (length heads) (at items i).target) 0 → ((j : ℕ) → j ≢ i → (at other j).next ≡ (at items j).next) → IsLinked other after end end
  joined_head none b_in here firsts mine others =
      record {
        end_in = omega (arith, same.len, linked.end_in);
        room = omega (arith, same.len, same.room, linked.room);
        small = omega (arith, same.room, linked.small);
        firsts = λ b within.
            elim (cases_eq b (bucket (length heads) (at items i).target)) [
              | inl is ↦
                  ap (λ k. get_or after k 0) is ∙ here
                  ∙ sym (last_here (in_chain other (length after) end (bucket (length heads) (at items i).target)) i end (is_in (bucket (length heads) (at items i).target) refl) inside
                  (none_new (bucket (length heads) (at items i).target) end (omega arith) none))
                  ∙ ap (λ c. last (in_chain other (length after) end c) end) (sym is)
              | inr differs ↦ firsts b differs ∙ linked.firsts b (omega (arith, within, same.room)) ∙ sym (others_chain b end (omega arith) differs)
            ];
        nexts = λ j below apart.
            elim (cases_eq j i) [
              | inl at_i ↦
                  ap (λ k. (at other k).next) at_i ∙ mine ∙ linked.firsts (bucket (length heads) (at items i).target) b_in
                  ∙ last_low (in_chain items (length heads) i (bucket (length heads) (at items i).target)) i end (omega (arith, inside))
                  (none_old (bucket (length heads) (at items i).target) end (omega arith) none)
                  ∙ sym (low_chain (bucket (length heads) (at items i).target) i (omega arith))
                  ∙ ap₂ (λ c k. last (in_chain other (length after) end c) k) (sym (ap (λ k. bucket (length after) (at other k).target) at_i ∙ same_bucket i)) (sym at_i)
              | inr not_i ↦
                  others j not_i ∙ linked.nexts j below not_i
                  ∙ sym (elim (cases_eq (bucket (length heads) (at items j).target) (bucket (length heads) (at items i).target)) [
                    | inl is ↦ low_chain (bucket (length heads) (at items j).target) j
                        (elim (cases_lt j i) [ inl low ↦ omega (arith, low) | inr past ↦ absurd (none j (omega (arith, past, not_i)) below is) ])
                    | inr differs ↦ others_chain (bucket (length heads) (at items j).target) j (omega (arith, below)) differs
                  ])
                  ∙ ap (λ c. last (in_chain other (length after) end c) j) (sym (same_bucket j))
            ];
      }

-- another link of one item
pub next_here : (items : List Item) (i n : ℕ) → i < length items → (at (with_next items i n) i).next ≡ n
next_here items i n inside = ap (λ (x : Item). x.next) (get_or-set_same items i (record (at items i) { next = n }) blank inside)

pub next_other : (items : List Item) (i n j : ℕ) → j ≢ i → at (with_next items i n) j ≡ at items j
next_other items i n j differs = get_or-set_other items i j (record (at items i) { next = n }) blank differs

pub next_target : (items : List Item) (i n j : ℕ) → i < length items → (at (with_next items i n) j).target ≡ (at items j).target
next_target items i n j inside =
    elim (cases_eq j i) [
      | inl is ↦
          ap (λ k. (at (with_next items i n) k).target) is ∙ ap (λ (x : Item). x.target) (get_or-set_same items i (record (at items i) { next = n }) blank inside) ∙ sym (ap (λ k. (at items k).target) is)
      | inr differs ↦ ap (λ (x : Item). x.target) (next_other items i n j differs)
    ]

pub next_len : (items : List Item) (i n : ℕ) → length (with_next items i n) ≡ length items
next_len items i n = length-set items i (record (at items i) { next = n })

pub next_rows : (items : List Item) (i n : ℕ) → map row_of (with_next items i n) ≡ map row_of items
next_rows items i n = map-set_same row_of items i (record (at items i) { next = n }) blank refl

-- the item leaves: by the link of a place above it, or by the head of its chain
pub unlinked_at : (items : List Item) (heads : List ℕ) (i r next chain : ℕ) → IsChained items heads → i < length items → chain ≡ bucket (length heads) (at items i).target → next ≡ (at items i).next → IsNextAbove items heads (length items) chain i r →
    IsLinked (with_next items r next) heads (length items) i
unlinked_at items heads i r next chain chained inside chain_is next_is above =
    left_at items (with_next items r next) heads heads i
    (record { len = next_len items r next; room = refl; targets = λ j. next_target items r next j above.below }) chained inside r
    (subst (λ c. IsNextAbove items heads (length items) c i r) chain_is above) (λ b. refl) (next_here items r next above.below ∙ next_is)
    (λ j differs. ap (λ (x : Item). x.next) (next_other items r next j differs))

pub unlinked_head : (items : List Item) (heads : List ℕ) (i next chain : ℕ) → IsChained items heads → i < length items → chain ≡ bucket (length heads) (at items i).target → chain < length heads → next ≡ (at items i).next → HasNoneAbove items heads (length items) chain i →
    IsLinked items (set heads chain next) (length items) i
unlinked_head items heads i next chain chained inside chain_is chain_in next_is none =
    left_head items items heads (set heads chain next) i
    (record { len = refl; room = length-set heads chain next; targets = λ j. refl }) chained inside
    (subst (λ c. HasNoneAbove items heads (length items) c i) chain_is none)
    (ap (λ c. get_or (set heads chain next) c 0) (sym chain_is) ∙ get_or-set_same heads chain next 0 chain_in ∙ next_is)
    (λ b differs. get_or-set_other heads chain b next 0 (λ s. differs (s ∙ chain_is))) (λ j. refl)

-- the item joins
pub linked_at : (items : List Item) (heads : List ℕ) (end i r next chain : ℕ) → IsLinked items heads end i → i < end → chain ≡ bucket (length heads) (at items i).target → next ≡ (at items r).next → IsNextAbove items heads end chain i r →
    IsLinked (with_next (with_next items i next) r (suc i)) heads end end
linked_at items heads end i r next chain linked inside chain_is next_is above =
    let i_in : i < length items = omega (arith, inside, linked.end_in) in
    let r_in : r < length items = omega (arith, above.below, linked.end_in) in
    let r_mid : r < length (with_next items i next) = omega (arith, r_in, next_len items i next) in
    joined_at items (with_next (with_next items i next) r (suc i)) heads heads end i
    (record {
      len = next_len (with_next items i next) r (suc i) ∙ next_len items i next;
      room = refl;
      targets = λ j. next_target (with_next items i next) r (suc i) j r_mid ∙ next_target items i next j i_in;
    }) linked inside r
    (subst (λ c. IsNextAbove items heads end c i r) chain_is above) (λ b. refl) (next_here (with_next items i next) r (suc i) r_mid)
    (ap (λ (x : Item). x.next) (next_other (with_next items i next) r (suc i) i (λ s. omega (arith, above.above, s))) ∙ next_here items i next i_in ∙ next_is)
    (λ j not_r not_i. ap (λ (x : Item). x.next) (next_other (with_next items i next) r (suc i) j not_r ∙ next_other items i next j not_i))

pub linked_head : (items : List Item) (heads : List ℕ) (end i next chain : ℕ) → IsLinked items heads end i → i < end → chain ≡ bucket (length heads) (at items i).target → chain < length heads → next ≡ get_or heads chain 0 → HasNoneAbove items heads end chain i →
    IsLinked (with_next items i next) (set heads chain (suc i)) end end
linked_head items heads end i next chain linked inside chain_is chain_in next_is none =
    let i_in : i < length items = omega (arith, inside, linked.end_in) in
    joined_head items (with_next items i next) heads (set heads chain (suc i)) end i
    (record { len = next_len items i next; room = length-set heads chain (suc i); targets = λ j. next_target items i next j i_in }) linked inside
    (subst (λ c. HasNoneAbove items heads end c i) chain_is none) (subst (λ c. c < length heads) chain_is chain_in)
    (ap (λ c. get_or (set heads chain (suc i)) c 0) (sym chain_is) ∙ get_or-set_same heads chain (suc i) 0 chain_in)
    (λ b differs. get_or-set_other heads chain b (suc i) 0 (λ s. differs (s ∙ chain_is)))
    (next_here items i next i_in ∙ next_is ∙ ap (λ c. get_or heads c 0) chain_is)
    (λ j differs. ap (λ (x : Item). x.next) (next_other items i next j differs))

-- an item that was read
pub read_at : (items : List Item) (i : ℕ) (x : Item) → i < length items → x ≡ get_or items i x → x ≡ at items i
read_at items i x within e = e ∙ get_or_default items i x blank within

-- the chain of an item that was read
pub chain_here : (items : List Item) (heads : List ℕ) (i room chain : ℕ) (x : Item) → i < length items → x ≡ get_or items i x → room ≡ length heads → chain ≡ bucket room x.target → chain ≡ bucket (length heads) (at items i).target
chain_here items heads i room chain x within read rooms e = e ∙ ap₂ (λ n (y : Item). bucket n y.target) rooms (read_at items i x within read)
