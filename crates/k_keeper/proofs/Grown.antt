-- A host with larger rooms is kept as before, with as many events more left.
use Rattle.std.proofs.Common.{◌≡◌, ◌≤◌, ◌+◌, ◌-◌, ◌*◌, ◌<◌, ◌^◌, ℕ, zero, suc, nat_lt, refl, sym, ap, ◌∙◌, subst, List, [], ◌∷◌, length, map, Some, slice_get, inl, inr, arith}
use Rattle.std.proofs.Math.Nat.{mul-le-mul_left}
use Rattle.k_types.specs.Totals.{total}
use Rattle.k_types.specs.Trace.{segment_count}
use Rattle.k_types.proofs.Lists.{same_value}
use Rattle.k_types.proofs.Sums.{total_map}
use Rattle.k_host.specs.Growing.{HasGrown, with_rooms}
use Rattle.k_host.specs.Hosts.{HostServes, HostValue}
use Rattle.k_host.specs.k_guests.declared.guest.Guest.{Guest}
use Rattle.k_host.specs.k_guests.declared.rooms.Rooms.{Rooms}
use Rattle.k_host.specs.k_guests.Enough.{lesser}
use Rattle.k_host.specs.k_guests.Growing.{guest_with_rooms}
use Rattle.k_host.specs.k_guests.Serving.{Basis}
use Rattle.k_keeper.specs.Keeping.{IsIdle, IsKept, IsSpelledBy, KeeperValue, most_objects, most_with, objects_in, owed_by, spent}
use Rattle.k_keeper.specs.Kept.{HasGrownIn}

-- an item of a list that was changed throughout was an item before
mapped : {A B : Type 0} (f : A → B) (xs : List A) (k : ℕ) (y : B) → slice_get (map f xs) k ≡ Some y → (x : A) × (slice_get xs k ≡ Some x) × (f x ≡ y)
mapped f [] k y at = absurd (cc at)
mapped f (x ∷ xs) zero y at = (x, refl, same_value at)
mapped f (x ∷ xs) (suc k) y at = mapped f xs k y at

lesser_grows : (a b c : ℕ) → a ≤ b → lesser a c ≤ lesser b c
lesser_grows a b c more = grind (arith, more)

module _ (h n : HostValue) (rooms : Rooms) (kept : ℕ) (grown : HasGrown h n rooms kept) where
  -- the machine has the same objects
  pub grown_objects : objects_in n ≡ objects_in h
  grown_objects = ap objects_in grown.host_is

  pub grown_most : (most : ℕ) → most ≡ most_with h rooms.objects → most ≡ most_objects n
  grown_most most is = is ∙ sym (ap most_objects grown.host_is)

  pub more_objects : (most now : ℕ) → most ≡ most_objects h → now ≡ most_with h rooms.objects → most ≤ now
  more_objects most now is now_is =
      let more = lesser_grows _ _ (2 ^ 32 - 1) (mul-le-mul_left (segment_count h.basis.trace) grown.larger.no_less.objects) in
      omega (arith, is, now_is, more)

  module _ (left : ℕ) (before : IsKept h left) (serves : HostServes n) where
    spent_same : spent (with_rooms rooms kept h) ≡ spent h
    spent_same = ap (λ k. length h.book.journal.list + k) (total_map owed_by (guest_with_rooms rooms) h.guests)

    pub grown_kept : IsKept n (left + (rooms.events - h.basis.rooms.events))
    grown_kept = subst (λ (x : HostValue). IsKept x (left + (rooms.events - h.basis.rooms.events))) (sym grown.host_is) (record {
      serves = subst HostServes grown.host_is serves;
      fit = record { is_trace = before.fit.is_trace; second = before.fit.second };
      spelled = record {
        journal = before.spelled.journal;
        tails = λ k g at. let was = mapped (guest_with_rooms rooms) h.guests k g at in subst IsSpelledBy was.2 (before.spelled.tails k was.0 was.1);
      };
      idle = λ k g at. let was = mapped (guest_with_rooms rooms) h.guests k g at in subst IsIdle was.2 (before.idle k was.0 was.1);
      kernel_idle = before.kernel_idle;
      room = let same = spent_same in let room = before.room in let more = grown.larger.no_less.events in omega (arith, same, room, more);
    })

    -- what is left can be counted
    pub left_small : left + (rooms.events - h.basis.rooms.events) < 2 ^ 55
    left_small = let room = before.room in let few = grown.larger.few.events in let more = grown.larger.no_less.events in omega (arith, room, few, more)
