-- A table with an item more.
use Rattle.std.proofs.Common.{◌≡◌, ◌+◌, ◌≢◌, ℕ, zero, suc, ◌<◌, ◌≤◌, Bool, count_by, true, false, refl, sym, ap, subst, ◌∙◌, List, ◌∷◌, length, map, set, arith}
use Rattle.std.proofs.lemmas.Bool.{false_from_ne_true}
use Rattle.std.proofs.lemmas.List.{length-map}
use Rattle.std.specs.List.{concat}
use Rattle.k_types.specs.Totals.{total}
use Rattle.k_types.specs.declared.names.Name.{Name}
use Rattle.k_types.specs.Names.{name_eq}
use Rattle.k_types.specs.Counted.{Counted}
use Rattle.k_types.proofs.NameTests.{name_eq-true}
use Rattle.k_lists.specs.Lists.{ListsValue, AreApart, members, is_in}
use Rattle.k_entry.specs.declared.item.Item.{Item}
use Rattle.k_entry.specs.Entries.{HasMore, home_of}
use Rattle.k_entry.specs.Slots.{at, row_at, bucket, buckets, walk_of, entered, Parts, order, used, shown, AreKept, HaveSizes, IsListed, GivesSlot}
use Rattle.k_lists.proofs.Apart.{apart_in}
use Rattle.k_entry.proofs.With.{IsWith, with_front, with_map, with_total, with_length}
use Rattle.k_entry.proofs.Joined.{joined, joined_same, joined_with, map_same}
use Rattle.k_entry.proofs.Counts.{bit, hits, hits_are, no_hits, more_new}
use Rattle.k_entry.proofs.Items.{order_below, used_is, entries_of}
use Rattle.k_entry.proofs.Changes.{same_or_not, IsPut, put_here, put_there, put_old, put_new, put_cases, put_size}
use Rattle.k_entry.proofs.Entered.{IsEntered, entered_of}

abbrev pub moved : Parts → List Item → ListsValue → ListsValue → ListsValue → Parts
moved p slots chains segments walks = record { slots = slots; chains = chains; segments = segments; walks = walks; homes = p.homes; room = p.room }

abbrev pub fresh : Name → Item
fresh t = record { target = t; count = 1 }

-- a slot was taken for the object, and put into its lists
pub record IsMore (p : Parts) (v : ListsValue) (t : Name) (i : ℕ) (slots : List Item) (chains segments walks : ListsValue) : Type 0 where
  pub given : GivesSlot p.slots slots p.segments v (length p.homes) i (fresh t)
  pub chain_put : IsPut p.chains chains (bucket p.room t) i
  pub segment_put : IsPut v segments t.seg.0 i
  pub walk_in : IsEntered p.walks walks (walk_of (length p.homes) (home_of p.homes t.seg.0)) t.seg.0 (members v t.seg.0)
  pub segments_apart : AreApart segments
  pub walks_apart : AreApart walks
  pub homed : t.seg.0 < length p.homes
  pub room : length (shown p).items < p.room
  pub none : total (hits t) (shown p).items ≡ 0

-- a slot of an item is another one
pub other_slot : (p : Parts) (v : ListsValue) (slots : List Item) (item : Item) (i s j : ℕ) → GivesSlot p.slots slots p.segments v (length p.homes) i item → s < length p.homes → is_in (members p.segments s) j ≡ true → j ≢ i
other_slot p v slots item i s j g within there same =
    let ne : s ≢ length p.homes = λ e. omega (arith, e, within) in
    let in_v : is_in (members v s) i ≡ true = ap (λ xs. is_in xs i) (g.same s ne) ∙ subst (λ n. is_in (members p.segments s) n ≡ true) same there in
    let bad : true ≡ false = sym in_v ∙ g.unlisted s in absurd (cc)

used_more : (p : Parts) (v : ListsValue) (t : Name) (i : ℕ) (slots : List Item) (chains segments walks : ListsValue) → AreKept p → IsMore p v t i slots chains segments walks → IsWith i (used p) (used (moved p slots chains segments walks))
used_more p v t i slots chains segments walks k m =
    let s = t.seg.0 in
    let old : joined (members v) (order p) ≡ used p = joined_same (members v) (members p.segments) (order p) (λ x e. let below = order_below p x k e in m.given.same x (λ same. omega (arith, below, same))) in
    let empty : joined (members v) (concat walks.lists) ≡ joined (members v) (order p) = m.walk_in.same (members v) refl in
    subst (λ ys. IsWith i ys (used (moved p slots chains segments walks))) (empty ∙ old)
    (joined_with (members v) (members segments) (concat walks.lists) s i m.walk_in.single
    (λ x ne. sym (put_there v segments s i x m.segment_put ne))
    (subst (λ ys. IsWith i (members v s) ys) (sym (put_here v segments s i m.segment_put)) (with_front i (members v s))))

-- there is one item more
pub one_more : (p : Parts) (v : ListsValue) (t : Name) (i : ℕ) (slots : List Item) (chains segments walks : ListsValue) → AreKept p → IsMore p v t i slots chains segments walks → length (used (moved p slots chains segments walks)) ≡ length (used p) + 1
one_more p v t i slots chains segments walks k m = with_length i (used p) (used (moved p slots chains segments walks)) (used_more p v t i slots chains segments walks k m)

-- what stays of another slot
stays : (p : Parts) (v : ListsValue) (t : Name) (i : ℕ) (slots : List Item) (s j : ℕ) → AreKept p → GivesSlot p.slots slots p.segments v (length p.homes) i (fresh t) → s < length p.homes → is_in (members p.segments s) j ≡ true → at slots j ≡ at p.slots j
stays p v t i slots s j k g within there = g.others j (other_slot p v slots (fresh t) i s j g within there)

pub items_more : (p : Parts) (v : ListsValue) (t : Name) (i : ℕ) (slots : List Item) (chains segments walks : ListsValue) → AreKept p → IsMore p v t i slots chains segments walks → IsWith (record { object = t; count = 1 }) (shown p).items (shown (moved p slots chains segments walks)).items
items_more p v t i slots chains segments walks k m =
    let q = moved p slots chains segments walks in
    let rows : map (row_at slots) (used p) ≡ map (row_at p.slots) (used p) = map_same (row_at slots) (row_at p.slots) (used p) (λ j e.
    let u = used_is p j k e in
    ap (λ (x : Item). record { object = x.target; count = x.count }) (stays p v t i slots (at p.slots j).target.seg.0 j k m.given u.homed u.there)) in
    let here : row_at slots i ≡ record { object = t; count = 1 } = ap (λ (x : Item). record { object = x.target; count = x.count }) m.given.here in
    subst (λ (c : Counted). IsWith c (map (row_at p.slots) (used p)) (map (row_at slots) (used q))) here
    (subst (λ (cs : List Counted). IsWith (row_at slots i) cs (map (row_at slots) (used q))) rows
    (with_map (row_at slots) i (used p) (used q) (used_more p v t i slots chains segments walks k m)))

-- in the lists of segments
in_segments : (p : Parts) (v : ListsValue) (t : Name) (i : ℕ) (slots : List Item) (chains segments walks : ListsValue) (s j : ℕ) (P : Type 0) → IsMore p v t i slots chains segments walks → s < length p.homes → is_in (members segments s) j ≡ true → (is_in (members p.segments s) j ≡ true → P) → (s ≡ t.seg.0 → j ≡ i → P) → P
in_segments p v t i slots chains segments walks s j P m within e old new =
    put_cases v segments t.seg.0 i s j P m.segment_put e
    (λ in_v. old (sym (ap (λ xs. is_in xs j) (m.given.same s (λ same. omega (arith, within, same)))) ∙ in_v))
    new

to_segments : (p : Parts) (v : ListsValue) (t : Name) (i : ℕ) (slots : List Item) (chains segments walks : ListsValue) (s j : ℕ) → IsMore p v t i slots chains segments walks → s < length p.homes → is_in (members p.segments s) j ≡ true → is_in (members segments s) j ≡ true
to_segments p v t i slots chains segments walks s j m within e =
    put_old v segments t.seg.0 i s j m.segment_put (ap (λ xs. is_in xs j) (m.given.same s (λ same. omega (arith, within, same))) ∙ e)

-- the slots are within the room
pub slots_fit : (p : Parts) (v : ListsValue) (slots : List Item) (item : Item) (i : ℕ) → AreKept p → GivesSlot p.slots slots p.segments v (length p.homes) i item → length (shown p).items < p.room → length slots ≤ p.room
slots_fit p v slots item i k g room = by_free (length (members p.segments (length p.homes))) refl
  where
    by_free : (f : ℕ) → length (members p.segments (length p.homes)) ≡ f → length slots ≤ p.room
    by_free zero e = omega (arith, e, k.full, length-map (used p) (row_at p.slots), room, g.by_one)
    by_free (suc f) e = omega (arith, g.again (omega (arith, e)), k.sizes.slots)

sizes_more : (p : Parts) (v : ListsValue) (t : Name) (i : ℕ) (slots : List Item) (chains segments walks : ListsValue) → AreKept p → IsMore p v t i slots chains segments walks → HaveSizes (moved p slots chains segments walks)
sizes_more p v t i slots chains segments walks k m =
    let c = put_size p.chains chains (bucket p.room t) i m.chain_put in
    let s = put_size v segments t.seg.0 i m.segment_put in
    record {
      chains = c.0 ∙ k.sizes.chains;
      chains_room = c.1 ∙ k.sizes.chains_room;
      segments = s.0 ∙ m.given.size ∙ k.sizes.segments;
      segments_room = s.1 ∙ m.given.room ∙ k.sizes.segments_room;
      walks = m.walk_in.size ∙ k.sizes.walks;
      walks_room = m.walk_in.room ∙ k.sizes.walks_room;
      homes = k.sizes.homes;
      slots = slots_fit p v slots (fresh t) i k m.given m.room;
    }

pub kept_more : (p : Parts) (v : ListsValue) (t : Name) (i : ℕ) (slots : List Item) (chains segments walks : ListsValue) → AreKept p → IsMore p v t i slots chains segments walks → AreKept (moved p slots chains segments walks)
kept_more p v t i slots chains segments walks k m =
    record {
      distinct = λ n. by_test n (name_eq t n) refl;
      sizes = sizes_more p v t i slots chains segments walks k m;
      segments_apart = m.segments_apart;
      walks_apart = m.walks_apart;
      below = λ s j e. put_cases v segments t.seg.0 i s j (j < length slots) m.segment_put e
          (λ in_v. same_or_not s (length p.homes) (j < length slots)
          (λ free. omega (arith, m.given.grows, k.below (length p.homes) j (m.given.rest j (subst (λ l. is_in (members v l) j ≡ true) free in_v))))
          (λ ne. omega (arith, m.given.grows, k.below s j (sym (ap (λ xs. is_in xs j) (m.given.same s ne)) ∙ in_v))))
          (λ list is. subst (λ n. n < length slots) (sym is) m.given.within);
      positive = λ s j within e. in_segments p v t i slots chains segments walks s j (0 < (at slots j).count) m within e
          (λ old. subst (λ (x : Item). 0 < x.count) (sym (stays p v t i slots s j k m.given within old)) (k.positive s j within old))
          (λ list is. subst (λ n. 0 < (at slots n).count) (sym is) (subst (λ (x : Item). 0 < x.count) (sym m.given.here) (omega arith)));
      placed = λ s j within e. in_segments p v t i slots chains segments walks s j ((at slots j).target.seg.0 ≡ s) m within e
          (λ old. ap (λ (x : Item). x.target.seg.0) (stays p v t i slots s j k m.given within old) ∙ k.placed s j within old)
          (λ list is. ap (λ n. (at slots n).target.seg.0) is ∙ ap (λ (x : Item). x.target.seg.0) m.given.here ∙ sym list);
      chained = λ s j within e. in_segments p v t i slots chains segments walks s j (is_in (members chains (bucket p.room (at slots j).target)) j ≡ true) m within e
          (λ old. subst (λ (x : Item). is_in (members chains (bucket p.room x.target)) j ≡ true) (sym (stays p v t i slots s j k m.given within old))
          (put_old p.chains chains (bucket p.room t) i (bucket p.room (at p.slots j).target) j m.chain_put (k.chained s j within old)))
          (λ list is. subst (λ n. is_in (members chains (bucket p.room (at slots n).target)) n ≡ true) (sym is)
          (subst (λ (x : Item). is_in (members chains (bucket p.room x.target)) i ≡ true) (sym m.given.here) (put_new p.chains chains (bucket p.room t) i m.chain_put)));
      listed = λ b j e. put_cases p.chains chains (bucket p.room t) i b j (IsListed (moved p slots chains segments walks) b j) m.chain_put e
          (λ old.
          let l = k.listed b j old in
          let same = stays p v t i slots (at p.slots j).target.seg.0 j k m.given l.homed l.there in
          record {
            own = l.own ∙ sym (ap (λ (x : Item). bucket p.room x.target) same);
            homed = subst (λ (x : Item). x.target.seg.0 < length p.homes) (sym same) l.homed;
            there = subst (λ (x : Item). is_in (members segments x.target.seg.0) j ≡ true) (sym same) (to_segments p v t i slots chains segments walks (at p.slots j).target.seg.0 j m l.homed l.there);
          })
          (λ list is. subst (λ n. IsListed (moved p slots chains segments walks) b n) (sym is) (record {
            own = list ∙ sym (ap (λ (x : Item). bucket p.room x.target) m.given.here);
            homed = subst (λ (x : Item). x.target.seg.0 < length p.homes) (sym m.given.here) m.homed;
            there = subst (λ (x : Item). is_in (members segments x.target.seg.0) i ≡ true) (sym m.given.here) (put_new v segments t.seg.0 i m.segment_put);
          }));
      walked = λ s j within e. in_segments p v t i slots chains segments walks s j (is_in (members walks (walk_of (length p.homes) (home_of p.homes s))) s ≡ true) m within e
          (λ old. m.walk_in.old (walk_of (length p.homes) (home_of p.homes s)) s (k.walked s j within old))
          (λ list is. subst (λ l. is_in (members walks (walk_of (length p.homes) (home_of p.homes l))) l ≡ true) (sym list) m.walk_in.there);
      live = λ a s e. same_or_not s t.seg.0 ((a ≡ walk_of (length p.homes) (home_of p.homes s)) × (0 < length (members segments s)))
          (λ same. (
            m.walk_in.only a (subst (λ l. is_in (members walks a) l ≡ true) same e) ∙ ap (λ l. walk_of (length p.homes) (home_of p.homes l)) (sym same),
            subst (λ l. 0 < length (members segments l)) (sym same) (omega (arith, ap (λ xs. length xs) (put_here v segments t.seg.0 i m.segment_put))),
          ))
          (λ ne.
          let was = k.live a s (m.walk_in.others a s e ne) in
          let below = on_walk s a (m.walk_in.others a s e ne) in
          (was.0, omega (arith, was.1, ap (λ xs. length xs) (put_there v segments t.seg.0 i s m.segment_put ne), ap (λ xs. length xs) (m.given.same s (λ same. omega (arith, below, same))))));
      full =
          omega (
            arith,
            k.full,
            m.given.count,
            one_more p v t i slots chains segments walks k m,
            ap (λ xs. length xs) (put_there v segments t.seg.0 i (length p.homes) m.segment_put (λ same. omega (arith, m.homed, same))),
          );
    }
  where
    on_walk : (s a : ℕ) → is_in (members p.walks a) s ≡ true → s < length p.homes
    on_walk s a e = omega (arith, apart_in p.walks a s k.walks_apart e, k.sizes.walks_room)

    by_test : (n : Name) (b : Bool) → name_eq t n ≡ b → count_by (λ (item : Counted). name_eq item.object n) (shown (moved p slots chains segments walks)).items ≤ 1
    by_test n true is =
        let none : total (hits n) (shown p).items ≡ 0 = ap (λ (x : Name). total (hits x) (shown p).items) (sym (name_eq-true t n is)) ∙ m.none in
        let one : hits n (record { object = t; count = 1 }) ≡ 1 = ap bit is in
        omega (arith, one, none, hits_are (shown (moved p slots chains segments walks)).items n, with_total (hits n) (record { object = t; count = 1 }) (shown p).items (shown (moved p slots chains segments walks)).items (items_more p v t i slots chains segments walks k m))
    by_test n false off =
        let none : hits n (record { object = t; count = 1 }) ≡ 0 = ap bit off in
        omega (arith, none, k.distinct n, hits_are (shown p).items n, hits_are (shown (moved p slots chains segments walks)).items n, with_total (hits n) (record { object = t; count = 1 }) (shown p).items (shown (moved p slots chains segments walks)).items (items_more p v t i slots chains segments walks k m))

pub has_more : (p : Parts) (v : ListsValue) (t : Name) (i : ℕ) (slots : List Item) (chains segments walks : ListsValue) → AreKept p → IsMore p v t i slots chains segments walks → HasMore (shown p) (shown (moved p slots chains segments walks)) t
has_more p v t i slots chains segments walks k m =
    more_new (record { object = t; count = 1 }) (shown p) (shown (moved p slots chains segments walks)) t (items_more p v t i slots chains segments walks k m) refl refl (no_hits (shown p).items t m.none) refl refl (entries_of (moved p slots chains segments walks) (kept_more p v t i slots chains segments walks k m))

-- what the calls tell
pub more_by : (p : Parts) (v : ListsValue) (t : Name) (i free chain walk : ℕ) (slots : List Item) (chains segments walks : ListsValue) → AreKept p → t.seg.0 < length p.homes → length (shown p).items < p.room → total (hits t) (shown p).items ≡ 0 → free ≡ length p.homes → chain ≡ bucket p.room t → chain < buckets p.room → walk ≡ walk_of (length p.homes) (home_of p.homes t.seg.0) → walk ≤ length p.homes → GivesSlot p.slots slots p.segments v free i (fresh t) → chains ≡ record p.chains { lists = set p.chains.lists chain (i ∷ members p.chains chain) } → segments ≡ record v { lists = set v.lists t.seg.0 (i ∷ members v t.seg.0) } → walks ≡ entered p.walks walk t.seg.0 (members v t.seg.0) → AreApart segments → AreApart walks → IsMore p v t i slots chains segments walks
more_by p v t i free chain walk slots chains segments walks k homed room none free_is chain_is chain_in walk_is walk_in given put_chain put_segment put_walk segments_apart walks_apart =
    let g : GivesSlot p.slots slots p.segments v (length p.homes) i (fresh t) = subst (λ n. GivesSlot p.slots slots p.segments v n i (fresh t)) free_is given in
    let same : members v t.seg.0 ≡ members p.segments t.seg.0 = g.same t.seg.0 (λ e. omega (arith, homed, e)) in
    record {
      given = g;
      chain_put = subst (λ b. IsPut p.chains chains b i) chain_is (record { within = omega (arith, chain_in, k.sizes.chains); is = put_chain });
      segment_put = record { within = omega (arith, homed, g.size, k.sizes.segments); is = put_segment };
      walk_in = subst (λ w. IsEntered p.walks walks w t.seg.0 (members v t.seg.0)) walk_is
          (entered_of p.walks walks walk t.seg.0 (members v t.seg.0) (omega (arith, walk_in, k.sizes.walks)) k.walks_apart put_walk
          (λ empty a. false_from_ne_true (is_in (members p.walks a) t.seg.0) (λ e. absurd (omega (arith, (k.live a t.seg.0 e).1, ap (λ xs. length xs) same, ap (λ xs. length xs) empty))))
          (λ j e. subst (λ w. is_in (members p.walks w) t.seg.0 ≡ true) (sym walk_is) (k.walked t.seg.0 j homed (sym (ap (λ xs. is_in xs j) same) ∙ e))));
      segments_apart = segments_apart;
      walks_apart = walks_apart;
      homed = homed;
      room = room;
      none = none;
    }
