-- What the calls of the places leave, and what is seen of it.
use Rattle.std.proofs.Common.{◌≡◌, ◌≢◌, ◌==◌, ℕ, zero, suc, ◌+◌, ◌-◌, ◌<◌, ◌^◌, cond, refl, sym, ap, ap₂, subst, ◌∙◌, inl, inr, List, [], ◌∷◌, ◌++◌, length, map, replicate, get_or, set, arith}
use Rattle.std.proofs.Math.ListN.{get_or-map}
use Rattle.std.proofs.lemmas.Bool.{cases_eq, ne_eqb}
use Rattle.std.proofs.lemmas.List.{get_or-set_same, get_or-set_other, length-replicate, set-get_or}
use Rattle.k_types.proofs.Lists.{get_or-set_cases}
use Rattle.k_space.specs.declared.marks.Place.{Place}
use Rattle.k_space.specs.declared.marks.Place.TheVariants.{Empty, At}
use Rattle.k_space.specs.declared.marks.Mark.{Mark}
use Rattle.k_space.specs.declared.marks.Mark.TheVariants.{White, Gray, Black}
use Rattle.k_space.specs.declared.chains.Spot.{Spot}
use Rattle.k_space.specs.Places.{black_place, white_place}
use Rattle.k_space.specs.Chains.{AreLinked, IsInserted, IsReached, IsRemoved, before_at, blank, head_at, linked, serial_at, spot_at}
use Rattle.k_space.specs.Stamps.{AreKept, IsHeld, PlacesValue, kept_places, mark_at, mark_of, plain}
use Rattle.k_space.proofs.GrayLists.{At_inside}
use Rattle.k_space.proofs.ChainSteps.{same_chains}
use Rattle.k_space.proofs.ChainWalks.{live_inside}
use Rattle.k_space.proofs.SpotPlaces.{ArePlaces, IsPlaceOf, one_place, places_added, places_are, places_kept, places_marked, places_removed, places_whitened, vacant}

-- the places that are seen, and the spots
pub places_seen : (spots : List Spot) (epoch made capacity : ℕ) (p : PlacesValue) → record { items = kept_places spots epoch made; capacity = capacity } ≡ p → ArePlaces (serial_at spots) (mark_at epoch spots) made p.items
unfolding kept_places
places_seen spots epoch made capacity p is =
    subst (ArePlaces (serial_at spots) (mark_at epoch spots) made) (ap (λ (x : PlacesValue). x.items) is) (places_kept (serial_at spots) (mark_at epoch spots) (length spots) made (live_inside spots))

seen_as : (spots : List Spot) (heads : List ℕ) (epoch made : ℕ) (items : List Place) → AreLinked spots heads made → ArePlaces (serial_at spots) (mark_at epoch spots) made items → kept_places spots epoch made ≡ items
unfolding kept_places
seen_as spots heads epoch made items linked are = places_are (serial_at spots) (mark_at epoch spots) (length spots) made items linked.apart (live_inside spots) are

-- the value where other spots keep other places
view_is : (spots after : List Spot) (heads : List ℕ) (epoch epoch' made made' capacity capacity' : ℕ) (items : List Place) (p : PlacesValue) → record { items = kept_places spots epoch made; capacity = capacity } ≡ p → AreLinked after heads made' → capacity' ≡ capacity →
    ArePlaces (serial_at after) (mark_at epoch' after) made' items → record { items = kept_places after epoch' made'; capacity = capacity' } ≡ record p { items = items }
view_is spots after heads epoch epoch' made made' capacity capacity' items p is linked room are =
    ap₂ (λ (xs : List Place) (n : ℕ). record { items = xs; capacity = n }) (seen_as after heads epoch' made' items linked are) (room ∙ ap (λ (x : PlacesValue). x.capacity) is)

-- what a walk says of the place
pub place_none : (spots : List Spot) (heads : List ℕ) (epoch made capacity wanted newer at : ℕ) (p : PlacesValue) → record { items = kept_places spots epoch made; capacity = capacity } ≡ p → AreLinked spots heads made → wanted < made →
    IsReached (serial_at spots) (before_at spots) (length heads) (head_at heads) wanted newer at → at ≡ 0 → get_or p.items wanted Empty ≡ Empty
place_none spots heads epoch made capacity wanted newer at p is linked given reached e =
    one_place (serial_at spots) (mark_at epoch spots) wanted (get_or p.items wanted Empty) Empty linked.apart ((places_seen spots epoch made capacity p is).each wanted given) (reached.none e)

pub place_there : (spots : List Spot) (heads : List ℕ) (epoch made capacity wanted newer at slot : ℕ) (p : PlacesValue) → record { items = kept_places spots epoch made; capacity = capacity } ≡ p → AreLinked spots heads made → wanted < made →
    IsReached (serial_at spots) (before_at spots) (length heads) (head_at heads) wanted newer at → at ≡ suc slot → get_or p.items wanted Empty ≡ At slot (mark_at epoch spots slot)
place_there spots heads epoch made capacity wanted newer at slot p is linked given reached e =
    let there = reached.there slot e in
    one_place (serial_at spots) (mark_at epoch spots) wanted (get_or p.items wanted Empty) (At slot (mark_at epoch spots slot)) linked.apart ((places_seen spots epoch made capacity p is).each wanted given)
    (omega (arith, there, reached.live slot e), there, refl)

-- a spot with the serial is its place
pub place_hinted : (spots : List Spot) (heads : List ℕ) (epoch made capacity wanted slot : ℕ) (spot : Spot) (p : PlacesValue) → record { items = kept_places spots epoch made; capacity = capacity } ≡ p → AreLinked spots heads made → wanted < made →
    spot ≡ spot_at spots slot → spot.serial ≡ wanted → 0 < wanted → get_or p.items wanted Empty ≡ At slot (mark_of epoch spot)
place_hinted spots heads epoch made capacity wanted slot spot p is linked given read same some =
    one_place (serial_at spots) (mark_at epoch spots) wanted (get_or p.items wanted Empty) (At slot (mark_of epoch spot)) linked.apart ((places_seen spots epoch made capacity p is).each wanted given)
    (some, sym (ap (λ (s : Spot). s.serial) read) ∙ same, sym (ap (mark_of epoch) read))

-- a part of a spot that is written as it was
pub part_kept : (spots : List Spot) (slot t : ℕ) (spot : Spot) (part : Spot → ℕ) → part spot ≡ part (spot_at spots slot) → part (spot_at (set spots slot spot) t) ≡ part (spot_at spots t)
part_kept spots slot t spot part same =
    elim (get_or-set_cases spots slot t spot blank) [
      | inl other ↦ ap part other
      | inr both ↦ ap part both.1 ∙ same ∙ ap (λ n. part (spot_at spots n)) (sym both.0)
    ]

-- a spot with another mark
pub marked_kept : (spots : List Spot) (heads : List ℕ) (made epoch capacity slot : ℕ) (spot : Spot) → AreKept spots heads made epoch capacity → slot < length spots → spot.serial ≡ serial_at spots slot → spot.before ≡ before_at spots slot → spot.stamp < epoch + 2 →
    AreKept (set spots slot spot) heads made epoch capacity
marked_kept spots heads made epoch capacity slot spot was inside serial before stamp = record {
  linked =
      same_chains (serial_at spots) (before_at spots) (serial_at (set spots slot spot)) (before_at (set spots slot spot)) (length heads) (head_at heads) made
      (λ t. part_kept spots slot t spot (λ (s : Spot). s.serial) serial) (λ t. part_kept spots slot t spot (λ (s : Spot). s.before) before) was.linked;
  stamped = record {
    begun = was.stamped.begun;
    small = was.stamped.small;
    past = λ t.
        elim (get_or-set_cases spots slot t spot blank) [
          | inl other ↦ let same : (spot_at (set spots slot spot) t).stamp ≡ (spot_at spots t).stamp = ap (λ (s : Spot). s.stamp) other in omega (arith, same, was.stamped.past t)
          | inr both ↦ let same : (spot_at (set spots slot spot) t).stamp ≡ spot.stamp = ap (λ (s : Spot). s.stamp) both.1 in omega (arith, same, stamp)
        ];
  };
  few = was.few;
  small = was.small;
}

-- a place says which serial its slot has
pub slot_serial : (spots : List Spot) (epoch made capacity wanted slot : ℕ) (was : Mark) (p : PlacesValue) → record { items = kept_places spots epoch made; capacity = capacity } ≡ p → get_or p.items wanted Empty ≡ At slot was → (0 < wanted) × (serial_at spots slot ≡ wanted) × (mark_at epoch spots slot ≡ was)
slot_serial spots epoch made capacity wanted slot was p is here =
    let seen = places_seen spots epoch made capacity p is in
    subst (IsPlaceOf (serial_at spots) (mark_at epoch spots) wanted) here (seen.each wanted (omega (arith, At_inside p.items wanted slot was here, seen.len)))

pub held_inside : (spots : List Spot) (epoch made capacity slot : ℕ) (p : PlacesValue) → record { items = kept_places spots epoch made; capacity = capacity } ≡ p → IsHeld p.items slot → slot < length spots
held_inside spots epoch made capacity slot p is held =
    let serial = slot_serial spots epoch made capacity held.serial slot held.was p is held.there in
    live_inside spots slot (omega (arith, serial.0, serial.1))

pub marked_seen : (spots : List Spot) (heads : List ℕ) (epoch made capacity wanted slot : ℕ) (spot : Spot) (was m : Mark) (p : PlacesValue) → record { items = kept_places spots epoch made; capacity = capacity } ≡ p → AreLinked (set spots slot spot) heads made →
    slot < length spots → spot.serial ≡ serial_at spots slot → mark_of epoch spot ≡ m → get_or p.items wanted Empty ≡ At slot was → record { items = kept_places (set spots slot spot) epoch made; capacity = capacity } ≡ record p { items = set p.items wanted (At slot m) }
marked_seen spots heads epoch made capacity wanted slot spot was m p is after inside serial mark here =
    view_is spots (set spots slot spot) heads epoch epoch made made capacity capacity (set p.items wanted (At slot m)) p is after refl
    (places_marked (serial_at spots) (serial_at (set spots slot spot)) (mark_at epoch spots) (mark_at epoch (set spots slot spot)) made p.items wanted slot was m (places_seen spots epoch made capacity p is) here
    (λ t. part_kept spots slot t spot (λ (s : Spot). s.serial) serial)
    (ap (mark_of epoch) (get_or-set_same spots slot spot blank inside) ∙ mark)
    (λ t differs. ap (mark_of epoch) (get_or-set_other spots slot t spot blank differs)))

-- the object that was marked is black now
pub blackened : (wanted : ℕ) (p now : PlacesValue) → ((slot : ℕ) (was : Mark) → get_or p.items wanted Empty ≡ At slot was → now ≡ record p { items = set p.items wanted (At slot Black) }) → (get_or p.items wanted Empty ≡ Empty → now ≡ p) →
    now ≡ record p { items = set p.items wanted (black_place (get_or p.items wanted Empty)) }
blackened wanted p now there none = by_place (get_or p.items wanted Empty) refl
  where
    by_place : (place : Place) → get_or p.items wanted Empty ≡ place → now ≡ record p { items = set p.items wanted (black_place place) }
    by_place (At slot was) e = there slot was e
    by_place Empty e = none e ∙ ap (λ (xs : List Place). record p { items = xs }) (sym (ap (set p.items wanted) (sym e) ∙ set-get_or p.items wanted Empty))

-- one object more
white_of : (epoch : ℕ) (spot : Spot) → spot.stamp ≡ 0 → 0 < epoch → mark_of epoch spot ≡ White
white_of epoch spot none begun =
    ap₂ (λ b d. cond b (Gray spot.next) (cond d Black White)) (ne_eqb spot.stamp epoch (λ e. omega (arith, none, e, begun))) (ne_eqb spot.stamp (epoch + 1) (λ e. omega (arith, none, e)))

pub put_kept : (spots after : List Spot) (heads heads' : List ℕ) (made epoch capacity capacity' slot : ℕ) → AreKept spots heads made epoch capacity → capacity' ≡ capacity → AreLinked after heads' (made + 1) → IsInserted spots after slot made → made + 1 < 2 ^ 32 →
    AreKept after heads' (made + 1) epoch capacity'
put_kept spots after heads heads' made epoch capacity capacity' slot was room linked new few = record {
  linked = linked;
  stamped = record {
    begun = was.stamped.begun;
    small = was.stamped.small;
    past = λ t.
        elim (cases_eq t slot) [
          | inl e ↦ let none : (spot_at after t).stamp ≡ 0 = ap (λ n. (spot_at after n).stamp) e ∙ new.plain in omega (arith, none)
          | inr differs ↦ let same : (spot_at after t).stamp ≡ (spot_at spots t).stamp = ap (λ (s : Spot). s.stamp) (new.others t differs) in omega (arith, same, was.stamped.past t)
        ];
  };
  few = few;
  small = subst (λ n. n < 2 ^ 32 - 1) (sym room) was.small;
}

pub slot_free : (spots : List Spot) (heads : List ℕ) (epoch made capacity slot : ℕ) (p : PlacesValue) → record { items = kept_places spots epoch made; capacity = capacity } ≡ p → AreLinked spots heads made → ((i : ℕ) (m : Mark) → get_or p.items i Empty ≢ At slot m) → serial_at spots slot ≡ 0
slot_free spots heads epoch made capacity slot p is linked free = vacant (serial_at spots) (mark_at epoch spots) made p.items slot linked.apart (places_seen spots epoch made capacity p is) linked.below free

pub put_seen : (spots after : List Spot) (heads heads' : List ℕ) (epoch made capacity capacity' slot : ℕ) (p : PlacesValue) → record { items = kept_places spots epoch made; capacity = capacity } ≡ p → AreKept spots heads made epoch capacity → capacity' ≡ capacity →
    AreLinked after heads' (made + 1) → IsInserted spots after slot made → ((i : ℕ) (m : Mark) → get_or p.items i Empty ≢ At slot m) →
    record { items = kept_places after epoch (made + 1); capacity = capacity' } ≡ record p { items = p.items ++ At slot White ∷ [] }
put_seen spots after heads heads' epoch made capacity capacity' slot p is was room linked new free =
    view_is spots after heads' epoch epoch made (made + 1) capacity capacity' (p.items ++ At slot White ∷ []) p is linked room
    (places_added (serial_at spots) (serial_at after) (mark_at epoch spots) (mark_at epoch after) made p.items slot (places_seen spots epoch made capacity p is) begun
    (slot_free spots heads epoch made capacity slot p is was.linked free) new.there (white_of epoch (spot_at after slot) new.plain was.stamped.begun) was.linked.below
    (λ t differs. (ap (λ (s : Spot). s.serial) (new.others t differs), ap (mark_of epoch) (new.others t differs))))
  where
    begun : 0 < made
    begun = let some = was.linked.below 0 in omega (arith, some)

-- an object that is gone
mark_by : (epoch : ℕ) (one other : Spot) → one.stamp ≡ other.stamp → one.next ≡ other.next → mark_of epoch one ≡ mark_of epoch other
mark_by epoch one other stamp next = ap₂ (λ (s n : ℕ). cond (s == epoch) (Gray n) (cond (s == epoch + 1) Black White)) stamp next

pub take_kept : (spots after : List Spot) (heads heads' : List ℕ) (made epoch capacity capacity' wanted : ℕ) → AreKept spots heads made epoch capacity → capacity' ≡ capacity → AreLinked after heads' made → IsRemoved spots after wanted → AreKept after heads' made epoch capacity'
take_kept spots after heads heads' made epoch capacity capacity' wanted was room linked gone = record {
  linked = linked;
  stamped = record { begun = was.stamped.begun; small = was.stamped.small; past = λ t. omega (arith, gone.low t, was.stamped.past t) };
  few = was.few;
  small = subst (λ n. n < 2 ^ 32 - 1) (sym room) was.small;
}

pub take_seen : (spots after : List Spot) (heads' : List ℕ) (epoch made capacity capacity' wanted : ℕ) (p : PlacesValue) → record { items = kept_places spots epoch made; capacity = capacity } ≡ p → capacity' ≡ capacity → AreLinked after heads' made → IsRemoved spots after wanted → wanted < made →
    record { items = kept_places after epoch made; capacity = capacity' } ≡ record p { items = set p.items wanted Empty }
take_seen spots after heads' epoch made capacity capacity' wanted p is room linked gone given =
    view_is spots after heads' epoch epoch made made capacity capacity' (set p.items wanted Empty) p is linked room
    (places_removed (serial_at spots) (serial_at after) (mark_at epoch spots) (mark_at epoch after) made p.items wanted (places_seen spots epoch made capacity p is) given gone.gone
    (λ t differs. (gone.serials t differs, mark_by epoch (spot_at after t) (spot_at spots t) (gone.stamps t differs) (gone.nexts t differs))))

-- a later epoch
pub later_kept : (spots : List Spot) (heads : List ℕ) (made epoch capacity : ℕ) → AreKept spots heads made epoch capacity → epoch + 3 < 2 ^ 32 → AreKept spots heads made (epoch + 2) capacity
later_kept spots heads made epoch capacity was room = record {
  linked = was.linked;
  stamped = record { begun = omega arith; small = omega (arith, room); past = λ t. omega (arith, was.stamped.past t) };
  few = was.few;
  small = was.small;
}

pub later_seen : (spots : List Spot) (heads : List ℕ) (epoch made capacity : ℕ) (p : PlacesValue) → record { items = kept_places spots epoch made; capacity = capacity } ≡ p → AreKept spots heads made epoch capacity →
    record { items = kept_places spots (epoch + 2) made; capacity = capacity } ≡ record p { items = map white_place p.items }
later_seen spots heads epoch made capacity p is was =
    view_is spots spots heads epoch (epoch + 2) made made capacity capacity (map white_place p.items) p is was.linked refl
    (places_whitened (serial_at spots) (serial_at spots) (mark_at epoch spots) (mark_at (epoch + 2) spots) made p.items (places_seen spots epoch made capacity p is) (λ t. refl)
    (λ t.
    let past = was.stamped.past t in
    ap₂ (λ b d. cond b (Gray (spot_at spots t).next) (cond d Black White)) (ne_eqb (spot_at spots t).stamp (epoch + 2) (λ e. omega (arith, e, past))) (ne_eqb (spot_at spots t).stamp (epoch + 2 + 1) (λ e. omega (arith, e, past)))))

-- all stamps taken away
plain_at : (spots : List Spot) (slot : ℕ) → spot_at (map plain spots) slot ≡ plain (spot_at spots slot)
plain_at spots slot = get_or-map plain spots slot blank

plain_linked : (spots : List Spot) (heads : List ℕ) (made : ℕ) → AreLinked spots heads made → AreLinked (map plain spots) heads made
plain_linked spots heads made was =
    same_chains (serial_at spots) (before_at spots) (serial_at (map plain spots)) (before_at (map plain spots)) (length heads) (head_at heads) made
    (λ t. ap (λ (s : Spot). s.serial) (plain_at spots t)) (λ t. ap (λ (s : Spot). s.before) (plain_at spots t)) was

pub plain_kept : (spots after : List Spot) (heads : List ℕ) (made epoch capacity : ℕ) → AreKept spots heads made epoch capacity → after ≡ map plain spots → AreKept after heads made 1 capacity
plain_kept spots after heads made epoch capacity was e = subst (λ (xs : List Spot). AreKept xs heads made 1 capacity) (sym e) (record {
  linked = plain_linked spots heads made was.linked;
  stamped = record {
    begun = omega arith;
    small = omega arith;
    past = λ t. let none : (spot_at (map plain spots) t).stamp ≡ 0 = ap (λ (s : Spot). s.stamp) (plain_at spots t) in omega (arith, none);
  };
  few = was.few;
  small = was.small;
})

pub plain_seen : (spots after : List Spot) (heads : List ℕ) (epoch made capacity : ℕ) (p : PlacesValue) → record { items = kept_places spots epoch made; capacity = capacity } ≡ p → AreKept spots heads made epoch capacity → after ≡ map plain spots →
    record { items = kept_places after 1 made; capacity = capacity } ≡ record p { items = map white_place p.items }
plain_seen spots after heads epoch made capacity p is was e =
    subst (λ (xs : List Spot). record { items = kept_places xs 1 made; capacity = capacity } ≡ record p { items = map white_place p.items }) (sym e)
    (view_is spots (map plain spots) heads epoch 1 made made capacity capacity (map white_place p.items) p is (plain_linked spots heads made was.linked) refl
    (places_whitened (serial_at spots) (serial_at (map plain spots)) (mark_at epoch spots) (mark_at 1 (map plain spots)) made p.items (places_seen spots epoch made capacity p is)
    (λ t. ap (λ (s : Spot). s.serial) (plain_at spots t)) (λ t. white_of 1 (spot_at (map plain spots) t) (ap (λ (s : Spot). s.stamp) (plain_at spots t)) (omega arith))))

-- no object yet
all_zero : (n i : ℕ) → get_or (replicate {A = ℕ} n 0) i 0 ≡ 0
all_zero zero i = refl
all_zero (suc n) zero = refl
all_zero (suc n) (suc i) = all_zero n i

pub first_kept : (spots : List Spot) (heads : List ℕ) (chains capacity : ℕ) → spots ≡ [] → heads ≡ replicate {A = ℕ} chains 0 → 0 < chains → capacity < 2 ^ 32 - 1 → AreKept spots heads 1 1 capacity
first_kept spots heads chains capacity none zeros some small = record {
  linked = record {
    filled = omega (arith, some, len);
    apart = λ s t e live. absurd (omega (arith, free s, live));
    below = λ t. omega (arith, free t);
    firsts = λ c within. record {
      live = λ t e. absurd (omega (arith, head c, e));
      in_it = λ t e. absurd (omega (arith, head c, e));
      low = subst (λ n. linked (serial_at spots) n < 1) (sym (head c)) (omega arith);
      skips = λ t above below is. omega (arith, free t, above);
    };
    befores = λ t live. absurd (omega (arith, free t, live));
  };
  stamped = record { begun = omega arith; small = omega arith; past = λ t. let e : (spot_at spots t).stamp ≡ 0 = ap (λ (xs : List Spot). (spot_at xs t).stamp) none in omega (arith, e) };
  few = omega arith;
  small = small;
}
  where
    free : (t : ℕ) → serial_at spots t ≡ 0
    free t = ap (λ (xs : List Spot). serial_at xs t) none

    len : length heads ≡ chains
    len = ap (λ (xs : List ℕ). length xs) zeros ∙ length-replicate chains 0

    head : (c : ℕ) → head_at heads c ≡ 0
    head c = ap (λ (xs : List ℕ). head_at xs c) zeros ∙ all_zero chains c

pub first_seen : (spots : List Spot) → spots ≡ [] → kept_places spots 1 1 ≡ Empty ∷ []
unfolding kept_places
first_seen spots none = ap (λ (xs : List Spot). kept_places xs 1 1) none
