-- A table where one item has another count.
use Rattle.std.proofs.Common.{◌≡◌, ◌≢◌, ℕ, ◌+◌, ◌<◌, true, refl, sym, ap, ap₂, subst, ◌∙◌, List, [], ◌∷◌, ◌++◌, length, map, set, get_or, length-set, get_or-set_same, get_or-set_other, arith}
use Rattle.std.proofs.lemmas.List.{map-append}
use Rattle.k_lists.proofs.Members.{in_differs}
use Rattle.k_types.specs.Totals.{total}
use Rattle.k_types.specs.declared.names.Name.{Name}
use Rattle.k_types.specs.Counted.{Counted}
use Rattle.k_lists.specs.Lists.{members, is_in}
use Rattle.k_entry.specs.declared.item.Item.{Item}
use Rattle.k_entry.specs.Entries.{HasMore, HasLess}
use Rattle.k_entry.specs.Slots.{at, row_of, row_at, blank, bucket, Parts, used, shown, AreKept}
use Rattle.k_entry.proofs.With.{IsWith, with_map}
use Rattle.k_entry.proofs.Joined.{map_same}
use Rattle.k_entry.proofs.Counts.{hits, hits_are, more_there, less_there}
use Rattle.k_entry.proofs.Items.{once_hit, read_at, entries_of, IsFound}
use Rattle.k_entry.proofs.Changes.{same_or_not}
use Rattle.k_entry.proofs.More.{moved}

abbrev pub recounted : Item → ℕ → Item
recounted x n = record { target = x.target; count = n }

abbrev pub with_slots : Parts → List Item → Parts
with_slots p slots = moved p slots p.chains p.segments p.walks

-- the slots where one has another count
pub record IsRecount (slots after : List Item) (i n : ℕ) : Type 0 where
  pub is : after ≡ set slots i (recounted (at slots i) n)
  pub within : i < length slots

-- what the calls tell: the item that was read, and the one that was written
pub recount_by : (slots : List Item) (i n : ℕ) (x y : Item) → i < length slots → x ≡ get_or slots i x → y ≡ recounted x n → IsRecount slots (set slots i y) i n
recount_by slots i n x y within read written = record { is = ap (λ (z : Item). set slots i z) (written ∙ ap (λ (z : Item). recounted z n) (read_at slots i x within read)); within = within }

pub recount_here : (slots after : List Item) (i n : ℕ) → IsRecount slots after i n → at after i ≡ recounted (at slots i) n
recount_here slots after i n r = ap (λ xs. at xs i) r.is ∙ get_or-set_same slots i (recounted (at slots i) n) blank r.within

pub recount_there : (slots after : List Item) (i n j : ℕ) → IsRecount slots after i n → (j ≢ i) → at after j ≡ at slots j
recount_there slots after i n j r ne = ap (λ xs. at xs j) r.is ∙ get_or-set_other slots i j (recounted (at slots i) n) blank ne

targets : (slots after : List Item) (i n j : ℕ) → IsRecount slots after i n → (at after j).target ≡ (at slots j).target
targets slots after i n j r = same_or_not j i ((at after j).target ≡ (at slots j).target)
    (λ same. subst (λ x. (at after x).target ≡ (at slots x).target) (sym same) (ap (λ (x : Item). x.target) (recount_here slots after i n r)))
    (λ ne. ap (λ (x : Item). x.target) (recount_there slots after i n j r ne))

hits_same : (slots after : List Item) (i n : ℕ) (xs : List ℕ) (t : Name) → IsRecount slots after i n → total (hits t) (map (row_at after) xs) ≡ total (hits t) (map (row_at slots) xs)
hits_same slots after i n [] t r = refl
hits_same slots after i n (x ∷ xs) t r =
    let here : hits t (row_at after x) ≡ hits t (row_at slots x) = ap (λ (k : Name). hits t (record { object = k; count = 0 })) (targets slots after i n x r) in
    omega (arith, here, hits_same slots after i n xs t r)

pub kept_recount : (p : Parts) (after : List Item) (i n : ℕ) → AreKept p → IsRecount p.slots after i n → 0 < n → AreKept (with_slots p after)
kept_recount p after i n k r some =
    let len : length after ≡ length p.slots = ap (λ (xs : List Item). length xs) r.is ∙ length-set p.slots i (recounted (at p.slots i) n) in
    record {
      distinct = λ t. omega (arith, k.distinct t, hits_are (shown p).items t, hits_are (shown (with_slots p after)).items t, hits_same p.slots after i n (used p) t r);
      sizes = record {
        chains = k.sizes.chains;
        chains_room = k.sizes.chains_room;
        segments = k.sizes.segments;
        segments_room = k.sizes.segments_room;
        walks = k.sizes.walks;
        walks_room = k.sizes.walks_room;
        homes = k.sizes.homes;
        slots = omega (arith, len, k.sizes.slots);
      };
      segments_apart = k.segments_apart;
      walks_apart = k.walks_apart;
      below = λ s j e. omega (arith, len, k.below s j e);
      positive = λ s j within e. same_or_not j i (0 < (at after j).count)
          (λ same. subst (λ x. 0 < (at after x).count) (sym same) (subst (λ (x : Item). 0 < x.count) (sym (recount_here p.slots after i n r)) some))
          (λ ne. subst (λ (x : Item). 0 < x.count) (sym (recount_there p.slots after i n j r ne)) (k.positive s j within e));
      placed = λ s j within e. ap (λ (t : Name). t.seg.0) (targets p.slots after i n j r) ∙ k.placed s j within e;
      chained = λ s j within e. subst (λ (t : Name). is_in (members p.chains (bucket p.room t)) j ≡ true) (sym (targets p.slots after i n j r)) (k.chained s j within e);
      listed = λ b j e.
          let l = k.listed b j e in
          let same = sym (targets p.slots after i n j r) in
          record {
            own = l.own ∙ ap (λ (t : Name). bucket p.room t) same;
            homed = subst (λ (t : Name). t.seg.0 < length p.homes) same l.homed;
            there = subst (λ (t : Name). is_in (members p.segments t.seg.0) j ≡ true) same l.there;
          };
      walked = k.walked;
      live = k.live;
      full = omega (arith, len, k.full);
    }

-- the items but for that one
pub record AreRecounted (p : Parts) (after : List Item) (i n : ℕ) : Type 0 where
  pub rest : List Counted
  pub was : IsWith (row_at p.slots i) rest (shown p).items
  pub is : IsWith (record { object = (at p.slots i).target; count = n }) rest (shown (with_slots p after)).items

pub items_recount : (p : Parts) (t : Name) (after : List Item) (i n : ℕ) → IsFound p t i → IsRecount p.slots after i n → AreRecounted p after i n
items_recount p t after i n f r =
    let s = f.single in
    let w : IsWith i (s.before ++ s.after) (used p) = record { before = s.before; after = s.after; less = refl; more = s.whole } in
    let front : map (row_at after) s.before ≡ map (row_at p.slots) s.before = map_same (row_at after) (row_at p.slots) s.before (λ j e. ap row_of (recount_there p.slots after i n j r (in_differs s.before i j s.absent e))) in
    let back : map (row_at after) s.after ≡ map (row_at p.slots) s.after = map_same (row_at after) (row_at p.slots) s.after (λ j e. ap row_of (recount_there p.slots after i n j r (in_differs s.after i j s.gone e))) in
    let rest : map (row_at after) (s.before ++ s.after) ≡ map (row_at p.slots) (s.before ++ s.after) =
    map-append (row_at after) s.before s.after ∙ ap₂ (λ xs ys. xs ++ ys) front back ∙ sym (map-append (row_at p.slots) s.before s.after) in
    record {
      rest = map (row_at p.slots) (s.before ++ s.after);
      was = with_map (row_at p.slots) i (s.before ++ s.after) (used p) w;
      is = subst (λ (c : Counted). IsWith c (map (row_at p.slots) (s.before ++ s.after)) (shown (with_slots p after)).items) (ap row_of (recount_here p.slots after i n r))
          (subst (λ (cs : List Counted). IsWith (row_at after i) cs (shown (with_slots p after)).items) rest (with_map (row_at after) i (s.before ++ s.after) (used p) w));
    }

pub more_recount : (p : Parts) (t : Name) (after : List Item) (i n : ℕ) → AreKept p → IsFound p t i → IsRecount p.slots after i n → n ≡ (at p.slots i).count + 1 → HasMore (shown p) (shown (with_slots p after)) t
more_recount p t after i n k f r more =
    let a = items_recount p t after i n f r in
    more_there (row_at p.slots i) (record { object = (at p.slots i).target; count = n }) a.rest (shown p) (shown (with_slots p after)) t a.was a.is (once_hit p t k) f.positive f.target f.hit refl more refl refl (entries_of (with_slots p after) (kept_recount p after i n k r (omega (arith, more))))

pub less_recount : (p : Parts) (t : Name) (after : List Item) (i n : ℕ) → AreKept p → IsFound p t i → IsRecount p.slots after i n → (at p.slots i).count ≢ 1 → n + 1 ≡ (at p.slots i).count → HasLess (shown p) (shown (with_slots p after)) t
less_recount p t after i n k f r some less =
    let a = items_recount p t after i n f r in
    less_there (row_at p.slots i) (record { object = (at p.slots i).target; count = n }) a.rest (shown p) (shown (with_slots p after)) t a.was a.is (once_hit p t k) (λ e. some e) f.target f.hit refl less refl refl (entries_of (with_slots p after) (kept_recount p after i n k r (let more = f.positive in omega (arith, less, more, some))))
