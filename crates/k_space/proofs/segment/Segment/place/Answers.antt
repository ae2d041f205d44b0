use Rattle.std.proofs.Common.{◌≡◌, ◌+◌, ◌≤◌, List, sym, ap, subst, length, arith}
use Rattle.k_types.specs.Types.{object_size}
use Rattle.k_space.specs.declared.marks.Place.{Place}
use Rattle.k_space.specs.Segments.{SegmentValue}
use Rattle.k_space.specs.Places.{AreBytes}
use Rattle.k_space.specs.Listed.{serials}
use Rattle.k_space.specs.Stamps.{PlacesValue}
use Rattle.k_space.proofs.Bytes.{bytes_pushed}
use Rattle.k_space.proofs.Entries.{length_serials, serials_pushed}
use Rattle.k_space.proofs.GrayQueue.{last_pushed}
use Rattle.k_space.proofs.ListedLemmas.{listed_pushed}
use Rattle.k_space.proofs.Pushed.{no_place, pushed, pushed_view, rows_kept}
use Rattle.k_space.proofs.Soundness.{living_is, rows_shown}
use Rattle.k_space.proofs.segment.Segment.place.Goals as goal

pub overflow_add-self : goal.overflow_add-self
overflow_add-self c =
    let most : c.bytes.result ≤ 144 = c.bytes.ensures.most in
    omega (arith, c.self.invariant.bytes.small, c.self.invariant.sound.sized.given, most)

pub put-slot-requires : goal.put-slot-requires
put-slot-requires c =
    let lives = living_is _ _ _ _ _ _ _ c.self.invariant.sound c.self.invariant.bytes c.args.self.now c.self.view_is in
    let room : c.args.self.now.room ≡ c.self.inside.room = ap (λ (s : SegmentValue). s.room) (sym c.self.view_is) in
    omega (arith, lives, room, c.requires.few, c.self.invariant.sound.sized.fits)

pub put-requires-clause-slot : goal.put-requires-clause-slot
put-requires-clause-slot c = omega (arith, c.put-slot.ensures.within, c.self.invariant.sound.sized.slots)

pub put-requires-clause-free : goal.put-requires-clause-free
put-requires-clause-free c = no_place c.self.inside.places.items c.self.inside.cells _ _ _ c.put-slot.result c.self.invariant.sound c.put-slot.ensures.vacant

pub put-requires-clause-few : goal.put-requires-clause-few
put-requires-clause-few c =
    let rows = rows_shown c.self.inside.places.items c.self.inside.cells c.args.self.now c.self.view_is in
    omega (arith, rows, c.requires.left, c.self.invariant.sound.begun)

pub push_reserved-requires : goal.push_reserved-requires
push_reserved-requires c =
    let lives = living_is _ _ _ _ _ _ _ c.self.invariant.sound c.self.invariant.bytes c.args.self.now c.self.view_is in
    let room : c.args.self.now.room ≡ c.self.inside.room = ap (λ (s : SegmentValue). s.room) (sym c.self.view_is) in
    omega (arith, c.self.inside.live.ok.0, length_serials c.self.inside.live.items, c.self.invariant.listed.counted, c.self.invariant.sound.sized.counted, lives, room, c.requires.few, c.self.invariant.reserved)

pub invariant_of-self : goal.invariant_of-self
invariant_of-self c =
    let places = c.self.inside.places.items in
    let rows = rows_shown places c.self.inside.cells c.args.self.now c.self.view_is in
    let lives = living_is _ _ _ _ _ _ _ c.self.invariant.sound c.self.invariant.bytes c.args.self.now c.self.view_is in
    let room : c.args.self.now.room ≡ c.self.inside.room = ap (λ (s : SegmentValue). s.room) (sym c.self.view_is) in
    let serial : c.len-serial.result ≡ length places = omega (arith, c.len-serial.ensures.value) in
    let updates = c.put-slot.ensures.changed in
    let few : length c.args.body.fields ≤ 16 = omega (arith, c.bytes.ensures.size, c.bytes.ensures.most) in
    let sound = pushed places c.self.inside.cells c.put-slot.new.self c.self.inside.room _ c.self.inside.gray c.put-slot.result _ c.self.invariant.sound (omega (arith, lives, room, c.requires.few))
    (omega (arith, rows, c.requires.left, c.self.invariant.sound.begun)) c.put-slot.ensures.vacant updates c.put-slot.ensures.count c.put-slot.ensures.capacity serial few in
    let old = rows_kept places c.self.inside.cells c.put-slot.new.self c.self.inside.room _ c.self.inside.gray c.put-slot.result _ c.self.invariant.sound c.put-slot.ensures.vacant updates in
    let most = subst (λ n. n ≤ 144) c.bytes.ensures.size c.bytes.ensures.most in
    let bytes = bytes_pushed places c.self.inside.cells c.put-slot.new.self c.self.inside.bytes c.put-slot.result _ c.self.invariant.bytes old updates.there most in
    let items = sym (ap (λ (p : PlacesValue). p.items) c.put.ensures) in
    record {
      sound = rw c.put.ensures sound;
      bytes =
          subst (λ n. AreBytes c.put.new.self.items c.put-slot.new.self (c.self.inside.bytes + n)) (sym c.bytes.ensures.size)
          (subst (λ (ps : List Place). AreBytes ps c.put-slot.new.self (c.self.inside.bytes + object_size (length c.args.body.fields))) items bytes);
      listed = rw (c.put.ensures, c.push_reserved.ensures.items, serials_pushed c.self.inside.live.items c.len-serial.result c.put-slot.result) (listed_pushed places (serials c.self.inside.live.items) _ c.put-slot.result c.len-serial.result c.self.invariant.listed serial);
      reserved = omega (arith, c.push_reserved.ensures.capacity, c.self.invariant.reserved);
      last = rw c.put.ensures (last_pushed places c.self.inside.last c.put-slot.result c.self.invariant.last);
    }

pub returns-clause-placed : goal.returns-clause-placed
returns-clause-placed c =
    rw c.put.ensures
    (pushed_view _ _ _ c.self.inside.places.items c.self.inside.cells c.put-slot.new.self c.self.inside.gray c.args.self.now c.put-slot.result _ c.self.invariant.sound c.self.view_is
    c.put-slot.ensures.vacant c.put-slot.ensures.changed)
