-- Slots with a count above 0 are in the chains of their objects.
use Rattle.std.proofs.Common.{◌≡◌, ◌≢◌, ℕ, ◌<◌, true, sym, ap, subst, ◌∙◌, List, [], length, set, count_by, ◌≤◌, length-set, get_or-set_same, get_or-set_other, arith}
use Rattle.k_types.specs.declared.names.Name.{Name}
use Rattle.k_types.specs.Names.{name_eq}
use Rattle.k_types.specs.Counted.{Counted}
use Rattle.k_lists.specs.Lists.{ListsValue, members, is_in}
use Rattle.k_entry.specs.declared.item.Item.{Item}
use Rattle.k_entry.specs.Slots.{at, blank, row_of, row_at, bucket, Parts, used, shown, AreKept, AreKnown}
use Rattle.k_lists.proofs.Apart.{apart_one}
use Rattle.k_entry.proofs.Joined.{map_same}
use Rattle.k_entry.proofs.Items.{used_is, IsFound}
use Rattle.k_entry.proofs.Changes.{same_or_not, put_old, put_new, out_other}
use Rattle.k_entry.proofs.More.{moved, IsMore}
use Rattle.k_entry.proofs.Less.{IsLess}
use Rattle.k_entry.proofs.Recounts.{IsRecount, recount_here, recount_there, with_slots}

-- a new table has no slot
pub known_none : (p : Parts) → p.slots ≡ [] → AreKnown p
known_none p none i some = absurd (let zero_count : (at p.slots i).count ≡ 0 = ap (λ (xs : List Item). (at xs i).count) none in omega (arith, zero_count, some))

pub known_recount : (p : Parts) (t : Name) (after : List Item) (i n : ℕ) → AreKept p → AreKnown p → IsFound p t i → IsRecount p.slots after i n → AreKnown (with_slots p after)
known_recount p t after i n k known f r j some =
    same_or_not j i (is_in (members p.chains (bucket p.room (at after j).target)) j ≡ true)
    (λ same. subst (λ x. is_in (members p.chains (bucket p.room (at after x).target)) x ≡ true) (sym same)
    (subst (λ (x : Item). is_in (members p.chains (bucket p.room x.target)) i ≡ true) (sym (recount_here p.slots after i n r)) (known i f.positive)))
    (λ ne.
    let there = recount_there p.slots after i n j r ne in
    subst (λ (x : Item). is_in (members p.chains (bucket p.room x.target)) j ≡ true) (sym there) (known j (subst (λ (x : Item). 0 < x.count) there some)))

pub known_more : (p : Parts) (v : ListsValue) (t : Name) (i : ℕ) (slots : List Item) (chains segments walks : ListsValue) → AreKnown p → IsMore p v t i slots chains segments walks → AreKnown (moved p slots chains segments walks)
known_more p v t i slots chains segments walks known m j some =
    same_or_not j i (is_in (members chains (bucket p.room (at slots j).target)) j ≡ true)
    (λ same. subst (λ x. is_in (members chains (bucket p.room (at slots x).target)) x ≡ true) (sym same)
    (subst (λ (x : Item). is_in (members chains (bucket p.room x.target)) i ≡ true) (sym m.given.here) (put_new p.chains chains (bucket p.room t) i m.chain_put)))
    (λ ne.
    let there = m.given.others j ne in
    put_old p.chains chains (bucket p.room t) i (bucket p.room (at slots j).target) j m.chain_put
    (subst (λ (x : Item). is_in (members p.chains (bucket p.room x.target)) j ≡ true) (sym there) (known j (subst (λ (x : Item). 0 < x.count) there some))))

-- the slot of an object that went has a count of 0
pub known_less : (p : Parts) (v : ListsValue) (t : Name) (i : ℕ) (x : Item) (chains segments walks : ListsValue) → AreKnown p → IsLess p v t i chains segments walks → x.count ≡ 0 → AreKnown (moved p (set p.slots i x) chains segments walks)
known_less p v t i x chains segments walks known m none j some =
    same_or_not j i (is_in (members chains (bucket p.room (at (set p.slots i x) j).target)) j ≡ true)
    (λ same. absurd (
    let here : (at (set p.slots i x) j).count ≡ 0 = ap (λ n. (at (set p.slots i x) n).count) same ∙ ap (λ (y : Item). y.count) (get_or-set_same p.slots i x blank m.found.within) ∙ none in
    omega (arith, here, some)))
    (λ ne.
    let there : at (set p.slots i x) j ≡ at p.slots j = get_or-set_other p.slots i j x blank ne in
    subst (λ (y : Item). is_in (members chains (bucket p.room y.target)) j ≡ true) (sym there)
    (out_other p.chains chains (bucket p.room t) i (bucket p.room (at p.slots j).target) j m.chain_out (known j (subst (λ (y : Item). 0 < y.count) there some)) ne))

-- the item of a free slot shows nowhere
module _ (p : Parts) (i : ℕ) (x : Item) (k : AreKept p) (free : is_in (members p.segments (length p.homes)) i ≡ true) where
  apart_free : (s j : ℕ) → s < length p.homes → is_in (members p.segments s) j ≡ true → j ≢ i
  apart_free s j within there same =
      let one = apart_one p.segments s (length p.homes) i k.segments_apart (subst (λ n. is_in (members p.segments s) n ≡ true) same there) free in
      omega (arith, within, one)

  stays : (s j : ℕ) → s < length p.homes → is_in (members p.segments s) j ≡ true → at (set p.slots i x) j ≡ at p.slots j
  stays s j within there = get_or-set_other p.slots i j x blank (apart_free s j within there)

  pub shows_cleared : (shown (with_slots p (set p.slots i x))).items ≡ (shown p).items
  shows_cleared = map_same (row_at (set p.slots i x)) (row_at p.slots) (used p) (λ j e. let u = used_is p j k e in ap row_of (stays (at p.slots j).target.seg.0 j u.homed u.there))

  pub kept_cleared : AreKept (with_slots p (set p.slots i x))
  kept_cleared = record {
    distinct = λ t. subst (λ (items : List Counted). count_by (λ item. name_eq item.object t) items ≤ 1) (sym shows_cleared) (k.distinct t);
    sizes = record {
      chains = k.sizes.chains;
      chains_room = k.sizes.chains_room;
      segments = k.sizes.segments;
      segments_room = k.sizes.segments_room;
      walks = k.sizes.walks;
      walks_room = k.sizes.walks_room;
      homes = k.sizes.homes;
      slots = omega (arith, length-set p.slots i x, k.sizes.slots);
    };
    segments_apart = k.segments_apart;
    walks_apart = k.walks_apart;
    below = λ list j e. omega (arith, length-set p.slots i x, k.below list j e);
    positive = λ s j within e. subst (λ (y : Item). 0 < y.count) (sym (stays s j within e)) (k.positive s j within e);
    placed = λ s j within e. ap (λ (y : Item). y.target.seg.0) (stays s j within e) ∙ k.placed s j within e;
    chained = λ s j within e. subst (λ (y : Item). is_in (members p.chains (bucket p.room y.target)) j ≡ true) (sym (stays s j within e)) (k.chained s j within e);
    listed = λ b j e.
        let l = k.listed b j e in
        let same = sym (stays (at p.slots j).target.seg.0 j l.homed l.there) in
        record {
          own = l.own ∙ ap (λ (y : Item). bucket p.room y.target) same;
          homed = subst (λ (y : Item). y.target.seg.0 < length p.homes) same l.homed;
          there = subst (λ (y : Item). is_in (members p.segments y.target.seg.0) j ≡ true) same l.there;
        };
    walked = k.walked;
    live = k.live;
    full = omega (arith, length-set p.slots i x, k.full);
  }
