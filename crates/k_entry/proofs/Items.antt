-- The items of a table, by the slots in which they stand.
use Rattle.std.proofs.Common.{◌≡◌, ℕ, zero, suc, ◌+◌, ◌<◌, ◌≤◌, true, false, refl, sym, ap, ap₂, subst, ◌∙◌, List, [], ◌∷◌, ◌++◌, length, map, slice_get, get_or, replicate, count_by, ◌^◌, Some, None, arith}
use Rattle.std.proofs.lemmas.Bool.{false_from_ne_true}
use Rattle.std.proofs.lemmas.List.{length-map, get_or_default}
use Rattle.std.specs.List.{concat}
use Rattle.k_types.specs.Totals.{total}
use Rattle.k_types.specs.declared.names.Name.{Name}
use Rattle.k_types.specs.declared.names.Heap.{Heap}
use Rattle.k_types.specs.declared.names.Heap.TheVariants.{Kernel}
use Rattle.k_types.specs.Names.{name_eq}
use Rattle.k_types.specs.Counted.{Counted, counted}
use Rattle.k_types.proofs.NameTests.{name_eq-true, name_eq_refl}
use Rattle.k_lists.specs.Lists.{ListsValue, AreApart, members, is_in}
use Rattle.k_entry.specs.declared.item.Item.{Item}
use Rattle.k_entry.specs.Entries.{AreEntries, home_of}
use Rattle.k_entry.specs.Slots.{at, blank, row_at, buckets, bucket, walk_of, Parts, order, used, shown, AreKept}
use Rattle.k_lists.proofs.Apart.{apart_in, apart_one}
use Rattle.k_lists.proofs.Members.{in_head}
use Rattle.k_entry.proofs.Members.{cons_in, once_of}
use Rattle.k_entry.proofs.With.{with_map}
use Rattle.k_entry.proofs.Joined.{Single, joined, in_concat, concat_in, in_joined, joined_in, single_concat}
use Rattle.k_entry.proofs.Counts.{hits, hits_are, none_at, single_slot, counted_with}

pub order_below : (p : Parts) (s : ℕ) → AreKept p → is_in (order p) s ≡ true → s < length p.homes
order_below p s k e = let w = in_concat p.walks.lists s e in omega (arith, apart_in p.walks w.0 s k.walks_apart w.1, k.sizes.walks_room)

-- a segment with a slot is on the walks, and there once
pub order_has : (p : Parts) (s j : ℕ) → AreKept p → s < length p.homes → is_in (members p.segments s) j ≡ true → is_in (order p) s ≡ true
order_has p s j k within there = concat_in p.walks.lists (walk_of (length p.homes) (home_of p.homes s)) s (k.walked s j within there)

pub order_single : (p : Parts) (s j : ℕ) → AreKept p → s < length p.homes → is_in (members p.segments s) j ≡ true → Single (order p) s
order_single p s j k within there =
    single_concat p.walks.lists (walk_of (length p.homes) (home_of p.homes s)) s (λ a b x y. apart_one p.walks a b s k.walks_apart x y) (λ a. once_of p.walks a k.walks_apart) (k.walked s j within there)

pub used_of : (p : Parts) (s j : ℕ) → AreKept p → s < length p.homes → is_in (members p.segments s) j ≡ true → is_in (used p) j ≡ true
used_of p s j k within there = joined_in (members p.segments) (order p) s j (order_has p s j k within there) there

-- a slot that is used is an item's
pub record IsUsed (p : Parts) (j : ℕ) : Type 0 where
  pub homed : (at p.slots j).target.seg.0 < length p.homes
  pub there : is_in (members p.segments (at p.slots j).target.seg.0) j ≡ true

pub used_is : (p : Parts) (j : ℕ) → AreKept p → is_in (used p) j ≡ true → IsUsed p j
used_is p j k e =
    let f = in_joined (members p.segments) (order p) j e in
    let below = order_below p f.list k f.listed in
    let seg : (at p.slots j).target.seg.0 ≡ f.list = k.placed f.list j below f.there in
    record { homed = omega (arith, seg, below); there = subst (λ s. is_in (members p.segments s) j ≡ true) (sym seg) f.there }

-- a row is a slot's
pub record IsRow (slots : List Item) (xs : List ℕ) (item : Counted) : Type 0 where
  pub slot : ℕ
  pub there : is_in xs slot ≡ true
  pub is : row_at slots slot ≡ item

pub row_from : (slots : List Item) (xs : List ℕ) (i : ℕ) (item : Counted) → slice_get (map (row_at slots) xs) i ≡ Some item → IsRow slots xs item
row_from slots [] i item e = absurd (cc)
row_from slots (x ∷ xs) zero item e = record { slot = x; there = in_head x xs; is = cc }
row_from slots (x ∷ xs) (suc i) item e = let r = row_from slots xs i item e in record { slot = r.slot; there = cons_in x r.slot xs r.there; is = r.is }

pub entries_of : (p : Parts) → AreKept p → AreEntries (shown p)
entries_of p k = record {
  distinct = k.distinct;
  some = λ i item e.
      let r = row_from p.slots (used p) i item e in
      let u = used_is p r.slot k r.there in
      subst (λ (c : Counted). 0 < c.count) r.is (k.positive (at p.slots r.slot).target.seg.0 r.slot u.homed u.there);
  homed = λ i item e.
      let r = row_from p.slots (used p) i item e in
      subst (λ (c : Counted). c.object.seg.0 < length p.homes) r.is (used_is p r.slot k r.there).homed;
  within = omega (arith, length-map (used p) (row_at p.slots), k.full, k.sizes.slots);
}

pub once_hit : (p : Parts) (t : Name) → AreKept p → total (hits t) (shown p).items ≤ 1
once_hit p t k = omega (arith, hits_are (shown p).items t, k.distinct t)

-- an object that no slot of its chain has is not counted
pub none_hit : (p : Parts) (t : Name) → AreKept p → ((i : ℕ) → is_in (members p.chains (bucket p.room t)) i ≡ true → name_eq (at p.slots i).target t ≡ false) → total (hits t) (shown p).items ≡ 0
none_hit p t k none = none_at p.slots (used p) t (λ j e.
    let u = used_is p j k e in
    false_from_ne_true (name_eq (at p.slots j).target t) (λ is.
    let chained : is_in (members p.chains (bucket p.room t)) j ≡ true = subst (λ (n : Name). is_in (members p.chains (bucket p.room n)) j ≡ true) (name_eq-true (at p.slots j).target t is) (k.chained (at p.slots j).target.seg.0 j u.homed u.there) in
    let bad : true ≡ false = sym is ∙ none j chained in absurd (cc)))

-- the slot of an object that was found
pub record IsFound (p : Parts) (t : Name) (i : ℕ) : Type 0 where
  pub target : (at p.slots i).target ≡ t
  pub hit : name_eq (at p.slots i).target t ≡ true
  pub homed : t.seg.0 < length p.homes
  pub there : is_in (members p.segments t.seg.0) i ≡ true
  pub in_use : is_in (used p) i ≡ true
  pub within : i < length p.slots
  pub single : Single (used p) i
  pub count : counted (shown p).items t ≡ (at p.slots i).count
  pub positive : 0 < (at p.slots i).count

pub found : (p : Parts) (t : Name) (i : ℕ) → AreKept p → is_in (members p.chains (bucket p.room t)) i ≡ true → (at p.slots i).target ≡ t → IsFound p t i
found p t i k there target =
    let l = k.listed (bucket p.room t) i there in
    let hit : name_eq (at p.slots i).target t ≡ true = ap (λ (n : Name). name_eq n t) target ∙ name_eq_refl t in
    let in_use = used_of p (at p.slots i).target.seg.0 i k l.homed l.there in
    let single = single_slot p.slots (used p) t i (once_hit p t k) in_use hit in
    record {
      target = target;
      hit = hit;
      homed = subst (λ (n : Name). n.seg.0 < length p.homes) target l.homed;
      there = subst (λ (n : Name). is_in (members p.segments n.seg.0) i ≡ true) target l.there;
      in_use = in_use;
      within = k.below (at p.slots i).target.seg.0 i l.there;
      single = single;
      count = counted_with (row_at p.slots i) (map (row_at p.slots) (single.before ++ single.after)) (shown p).items t
          (with_map (row_at p.slots) i (single.before ++ single.after) (used p) (record { before = single.before; after = single.after; less = refl; more = single.whole })) (once_hit p t k) hit;
      positive = k.positive (at p.slots i).target.seg.0 i l.homed l.there;
    }

-- what a search of a chain tells, of the slots that it was given
pub found_by : (p : Parts) (t : Name) (looked : List Item) (chain i : ℕ) → AreKept p → looked ≡ p.slots → chain ≡ bucket p.room t → is_in (members p.chains chain) i ≡ true → (at looked i).target ≡ t → IsFound p t i
found_by p t looked chain i k same its there target =
    found p t i k (subst (λ b. is_in (members p.chains b) i ≡ true) its there) (sym (ap (λ (xs : List Item). (at xs i).target) same) ∙ target)

pub none_by : (p : Parts) (t : Name) (looked : List Item) (chain : ℕ) → AreKept p → looked ≡ p.slots → chain ≡ bucket p.room t → ((i : ℕ) → is_in (members p.chains chain) i ≡ true → name_eq (at looked i).target t ≡ false) → total (hits t) (shown p).items ≡ 0
none_by p t looked chain k same its none =
    none_hit p t k (λ i e. sym (ap (λ (xs : List Item). name_eq (at xs i).target t) same) ∙ none i (subst (λ b. is_in (members p.chains b) i ≡ true) (sym its) e))

-- an item that was read is the slot's
pub read_at : (slots : List Item) (i : ℕ) (x : Item) → i < length slots → x ≡ get_or slots i x → x ≡ at slots i
read_at slots i x within read = read ∙ get_or_default slots i x blank within

-- and so a home
pub read_home : (homes : List Heap) (s : ℕ) (h : Heap) → s < length homes → h ≡ get_or homes s h → h ≡ home_of homes s
read_home homes s h within read = read ∙ get_or_default homes s h Kernel within

-- the number of a walk, by what the calls tell
pub walk_read : (homes : List Heap) (s n walk : ℕ) (h : Heap) → s < length homes → h ≡ get_or homes s h → n ≡ length homes → walk ≡ walk_of n h → walk ≡ walk_of (length homes) (home_of homes s)
walk_read homes s n walk h within read len is = is ∙ ap₂ (λ m g. walk_of m g) len (read_home homes s h within read)

-- a table with no item
pub empty_members : (m room list : ℕ) → members (record { lists = replicate m []; room = room }) list ≡ []
empty_members m room list = by_place m list
  where
    by_place : (n k : ℕ) → get_or (replicate {A = List ℕ} n []) k [] ≡ []
    by_place zero k = refl
    by_place (suc n) zero = refl
    by_place (suc n) (suc k) = by_place n k

empty_joined : (m : ℕ) → concat (replicate m []) ≡ []
empty_joined zero = refl
empty_joined (suc m) = empty_joined m

pub empty_size : (m : ℕ) → length (replicate {A = List ℕ} m []) ≡ m
empty_size zero = refl
empty_size (suc m) = ap suc (empty_size m)

empty_apart : (m room : ℕ) → AreApart (record { lists = replicate m []; room = room })
empty_apart m room = record {
  below = λ list place i e. absurd (none list place i e);
  once = λ a b j k i x y. absurd (none a j i x);
}
  where
    none : (list place i : ℕ) → slice_get (members (record { lists = replicate m []; room = room }) list) place ≡ Some i → ⊥
    none list place i e = let bad : None ≡ Some i = sym (ap (λ xs. slice_get xs place) (empty_members m room list)) ∙ e in absurd (cc)

pub kept_empty : (homes : List Heap) (room : ℕ) → length homes < 2 ^ 32 → AreKept (record { slots = []; chains = record { lists = replicate (buckets room) []; room = room }; segments = record { lists = replicate (length homes + 1) []; room = room }; walks = record { lists = replicate (length homes + 1) []; room = length homes }; homes = homes; room = room })
kept_empty homes room small = record {
  distinct = λ t. omega (arith, ap (λ (xs : List Counted). count_by (λ (item : Counted). name_eq item.object t) xs) rows);
  sizes = record {
    chains = empty_size (buckets room);
    chains_room = refl;
    segments = empty_size (length homes + 1);
    segments_room = refl;
    walks = empty_size (length homes + 1);
    walks_room = refl;
    homes = small;
    slots = omega arith;
  };
  segments_apart = empty_apart (length homes + 1) room;
  walks_apart = empty_apart (length homes + 1) (length homes);
  below = λ list i e. absurd (none (length homes + 1) room list i e);
  positive = λ s i within e. absurd (none (length homes + 1) room s i e);
  placed = λ s i within e. absurd (none (length homes + 1) room s i e);
  chained = λ s i within e. absurd (none (length homes + 1) room s i e);
  listed = λ chain i e. absurd (none (buckets room) room chain i e);
  walked = λ s i within e. absurd (none (length homes + 1) room s i e);
  live = λ walk s e. absurd (none (length homes + 1) (length homes) walk s e);
  full = omega (arith, ap (λ xs. length xs) slots, ap (λ xs. length xs) (empty_members (length homes + 1) room (length homes)));
}
  where
    none : (m r list i : ℕ) → is_in (members (record { lists = replicate m []; room = r }) list) i ≡ true → ⊥
    none m r list i e = let bad : false ≡ true = sym (ap (λ xs. is_in xs i) (empty_members m r list)) ∙ e in absurd (cc)

    slots : joined (members (record { lists = replicate (length homes + 1) []; room = room })) (concat (replicate (length homes + 1) [])) ≡ []
    slots = ap (λ xs. joined (members (record { lists = replicate (length homes + 1) []; room = room })) xs) (empty_joined (length homes + 1))

    rows : map (row_at []) (joined (members (record { lists = replicate (length homes + 1) []; room = room })) (concat (replicate (length homes + 1) []))) ≡ []
    rows = ap (λ xs. map (row_at []) xs) slots

-- and what it shows
pub shows_none : (slots : List Item) (segments : ListsValue) (n : ℕ) → map (row_at slots) (joined (members segments) (concat (replicate n []))) ≡ []
shows_none slots segments n = ap (λ xs. map (row_at slots) (joined (members segments) xs)) (empty_joined n)

-- what the calls tell of a new table
pub kept_made : (slots : List Item) (chains segments walks : ListsValue) (homes : List Heap) (room b n m k : ℕ) → slots ≡ [] → chains ≡ record { lists = replicate b []; room = room } → segments ≡ record { lists = replicate n []; room = room } → walks ≡ record { lists = replicate m []; room = k } → b ≡ buckets room → n ≡ length homes + 1 → m ≡ length homes + 1 → k ≡ length homes → length homes < 2 ^ 32 → AreKept (record { slots = slots; chains = chains; segments = segments; walks = walks; homes = homes; room = room })
kept_made slots chains segments walks homes room b n m k slots_is chains_is segments_is walks_is b_is n_is m_is k_is small =
    subst (λ (xs : List Item). AreKept (record { slots = xs; chains = chains; segments = segments; walks = walks; homes = homes; room = room })) (sym slots_is)
    (subst (λ (v : ListsValue). AreKept (record { slots = []; chains = v; segments = segments; walks = walks; homes = homes; room = room })) (sym (chains_is ∙ ap (λ x. record { lists = replicate x []; room = room }) b_is))
    (subst (λ (v : ListsValue). AreKept (record { slots = []; chains = record { lists = replicate (buckets room) []; room = room }; segments = v; walks = walks; homes = homes; room = room })) (sym (segments_is ∙ ap (λ x. record { lists = replicate x []; room = room }) n_is))
    (subst (λ (v : ListsValue). AreKept (record { slots = []; chains = record { lists = replicate (buckets room) []; room = room }; segments = record { lists = replicate (length homes + 1) []; room = room }; walks = v; homes = homes; room = room })) (sym (walks_is ∙ ap₂ (λ x y. record { lists = replicate x []; room = y }) m_is k_is))
    (kept_empty homes room small))))

pub shows_made : (slots : List Item) (segments walks : ListsValue) (m k : ℕ) → walks ≡ record { lists = replicate m []; room = k } → map (row_at slots) (joined (members segments) (concat walks.lists)) ≡ []
shows_made slots segments walks m k is = ap (λ (v : ListsValue). map (row_at slots) (joined (members segments) (concat v.lists))) is ∙ shows_none slots segments m

pub counted_made : (slots : List Item) (segments walks : ListsValue) (m k : ℕ) → walks ≡ record { lists = replicate m []; room = k } → 0 ≡ length (joined (members segments) (concat walks.lists))
counted_made slots segments walks m k is =
    sym (sym (length-map (joined (members segments) (concat walks.lists)) (row_at slots)) ∙ ap (λ (xs : List Counted). length xs) (shows_made slots segments walks m k is))
