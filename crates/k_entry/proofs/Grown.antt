-- A table with more room.
use Rattle.std.proofs.Common.{◌≡◌, ◌≢◌, ◌⊎◌, ℕ, zero, suc, ◌+◌, ◌<◌, ◌≤◌, Bool, true, false, refl, sym, ap, subst, ◌∙◌, inl, inr, List, [], length, replicate, arith}
use Rattle.std.proofs.lemmas.Bool.{cases_lt, false_from_ne_true}
use Rattle.std.proofs.lemmas.List.{get_or_past}
use Rattle.k_lists.specs.Lists.{ListsValue, AreApart, IsFree, members, is_in}
use Rattle.k_entry.specs.declared.item.Item.{Item}
use Rattle.k_entry.specs.Entries.{EntryValue}
use Rattle.k_entry.specs.Slots.{at, blank, bucket, buckets, AreChained, AreKept, AreKnown, Parts, shown}
use Rattle.k_entry.proofs.Changes.{same_or_not, IsPut, put_old, put_new, put_cases, put_size}
use Rattle.k_entry.proofs.Items.{empty_members, empty_size}

-- no slot was looked at
pub chained_none : (slots : List Item) (room : ℕ) (chains : ListsValue) → chains ≡ record { lists = replicate (buckets room) []; room = room } → AreChained slots room 0 chains
chained_none slots room chains is = record {
  lists = ap (λ (v : ListsValue). length v.lists) is ∙ empty_size (buckets room);
  over = ap (λ (v : ListsValue). v.room) is;
  there = λ i below some. absurd (omega (arith, below));
  only = λ chain i e. absurd (
      let bad : false ≡ true = sym (ap (λ (v : ListsValue). is_in (members v chain) i) is ∙ ap (λ xs. is_in xs i) (empty_members (buckets room) room chain)) ∙ e in
      absurd (cc));
}

-- the next slot has no item
pub chained_skip : (slots : List Item) (room i : ℕ) (chains : ListsValue) → AreChained slots room i chains → (at slots i).count ≡ 0 → AreChained slots room (i + 1) chains
chained_skip slots room i chains was none = record {
  lists = was.lists;
  over = was.over;
  there = λ j below some. same_or_not j i (is_in (members chains (bucket room (at slots j).target)) j ≡ true)
      (λ same. absurd (omega (arith, none, some, ap (λ n. (at slots n).count) same)))
      (λ ne. was.there j (lower j below ne) some);
  only = λ chain j e. let here = was.only chain j e in (omega (arith, here.0), here.1, here.2);
}
  where
    lower : (j : ℕ) → j < i + 1 → j ≢ i → j < i
    lower j below ne = elim (cases_lt j i) [
      | inl less ↦ less
      | inr more ↦ absurd (ne (let same : j ≡ i = omega (arith, below, more) in same))
    ]

-- it has one, which came to its chain
pub chained_more : (slots : List Item) (room i : ℕ) (old new : ListsValue) → AreChained slots room i old → 0 < (at slots i).count → IsPut old new (bucket room (at slots i).target) i → AreChained slots room (i + 1) new
chained_more slots room i old new was some put = record {
  lists = (put_size old new own i put).0 ∙ was.lists;
  over = (put_size old new own i put).1 ∙ was.over;
  there = λ j below more. same_or_not j i (is_in (members new (bucket room (at slots j).target)) j ≡ true)
      (λ same. subst (λ n. is_in (members new (bucket room (at slots n).target)) n ≡ true) (sym same) (put_new old new own i put))
      (λ ne. put_old old new own i (bucket room (at slots j).target) j put (was.there j (lower j below ne) more));
  only = λ chain j e. put_cases old new own i chain j ((j < i + 1) × (0 < (at slots j).count) × (chain ≡ bucket room (at slots j).target)) put e
      (λ in_old. let here = was.only chain j in_old in (omega (arith, here.0), here.1, here.2))
      (λ list same. subst (λ n. (n < i + 1) × (0 < (at slots n).count) × (chain ≡ bucket room (at slots n).target)) (sym same) (omega arith, some, list));
}
  where
    own : ℕ
    own = bucket room (at slots i).target

    lower : (j : ℕ) → j < i + 1 → j ≢ i → j < i
    lower j below ne = elim (cases_lt j i) [
      | inl less ↦ less
      | inr more ↦ absurd (ne (let same : j ≡ i = omega (arith, below, more) in same))
    ]

-- it is in no chain yet
pub unchained : (slots : List Item) (room i : ℕ) (chains : ListsValue) → AreChained slots room i chains → IsFree chains i
unchained slots room i chains was list = false_from_ne_true (is_in (members chains list) i) (λ e. omega (arith, (was.only list i e).0))

-- the parts with another room
abbrev pub roomier : Parts → List Item → ListsValue → ListsValue → ℕ → Parts
roomier p slots chains segments room = record { slots = slots; chains = chains; segments = segments; walks = p.walks; homes = p.homes; room = room }

-- a slot past the last has no item
some_within : (slots : List Item) (i : ℕ) → 0 < (at slots i).count → i < length slots
some_within slots i some = elim (cases_lt i (length slots)) [
  | inl within ↦ within
  | inr past ↦ absurd (omega (arith, some, ap (λ (x : Item). x.count) (get_or_past slots i blank past)))
]

pub known_roomier : (p : Parts) (slots : List Item) (chains segments : ListsValue) (room : ℕ) → AreChained slots room (length slots) chains → AreKnown (roomier p slots chains segments room)
known_roomier p slots chains segments room c i some = c.there i (some_within slots i some) some

kept_same : (p : Parts) (chains : ListsValue) (room : ℕ) → AreKept p → AreKnown p → p.room ≤ room → AreApart (record p.segments { room = room }) →
    AreChained p.slots room (length p.slots) chains → AreKept (roomier p p.slots chains (record p.segments { room = room }) room)
kept_same p chains room k known more apart c = record {
  distinct = k.distinct;
  sizes = record {
    chains = c.lists;
    chains_room = c.over;
    segments = k.sizes.segments;
    segments_room = refl;
    walks = k.sizes.walks;
    walks_room = k.sizes.walks_room;
    homes = k.sizes.homes;
    slots = omega (arith, k.sizes.slots, more);
  };
  segments_apart = apart;
  walks_apart = k.walks_apart;
  below = k.below;
  positive = k.positive;
  placed = k.placed;
  chained = λ s i within e. c.there i (k.below s i e) (k.positive s i within e);
  listed = λ chain i e.
      let here = c.only chain i e in
      let was = k.listed (bucket p.room (at p.slots i).target) i (known i here.1) in
      record { own = here.2; homed = was.homed; there = was.there };
  walked = k.walked;
  live = k.live;
  full = k.full;
}

-- what the calls tell
pub kept_roomier : (p : Parts) (slots : List Item) (chains segments : ListsValue) (room : ℕ) → AreKept p → AreKnown p → p.room ≤ room → slots ≡ p.slots → segments ≡ record p.segments { room = room } → AreApart segments →
    AreChained slots room (length slots) chains → AreKept (roomier p slots chains segments room)
kept_roomier p slots chains segments room k known more same is apart c =
    subst (λ (xs : List Item). AreKept (roomier p xs chains segments room)) (sym same)
    (subst (λ (v : ListsValue). AreKept (roomier p p.slots chains v room)) (sym is)
    (kept_same p chains room k known more (subst AreApart is apart) (subst (λ (xs : List Item). AreChained xs room (length xs) chains) same c)))

-- it shows the same items
pub shown_roomier : (p : Parts) (slots : List Item) (chains segments : ListsValue) (room : ℕ) → slots ≡ p.slots → segments ≡ record p.segments { room = room } → shown (roomier p slots chains segments room) ≡ record (shown p) { room = room }
shown_roomier p slots chains segments room same is =
    ap (λ (xs : List Item). shown (roomier p xs chains segments room)) same ∙ ap (λ (v : ListsValue). shown (roomier p p.slots chains v room)) is
