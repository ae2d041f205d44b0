use Rattle.std.proofs.Common.{ℕ, List, Option, length, map, sym, ap, subst, ◌∙◌}
use Rattle.k_space.specs.declared.marks.Place.{Place}
use Rattle.k_space.specs.declared.live.Entry.{Entry}
use Rattle.k_space.specs.Segments.{Row, SegmentValue, blackened_segment}
use Rattle.k_space.specs.Places.{AreBytes, IsLastGray, IsSound, black_places, row_of}
use Rattle.k_space.specs.Listed.{AreBlackened, AreInFront, IsListed, serials}
use Rattle.k_space.proofs.Blackened.{blackened_is, blackened_shown, blackened_sound, bytes_blackened, last_blackened, listed_blackened, places_plain}
use Rattle.k_space.proofs.Entries.{length_serials}
use Rattle.k_space.proofs.segment.Segment.blacken_below.Goals as goal

pub invariant_of-self : goal.invariant_of-self
invariant_of-self c =
    let places = c.self.inside.places.items in
    let live = serials c.self.inside.live.items in
    let cells = c.self.inside.cells in
    let black : AreBlackened live c.args.below (length live) places c.blacken-front.new.places.items =
    subst (λ n. AreBlackened live c.args.below n places c.blacken-front.new.places.items) (sym (length_serials c.self.inside.live.items))
    (subst (λ (xs : List Entry). AreBlackened (serials xs) c.args.below (length xs) places c.blacken-front.new.places.items) c.deref.ensures.value c.blacken-front.ensures.black) in
    let front : AreInFront live c.args.below c.blacken-front.result = subst (λ (xs : List Entry). AreInFront (serials xs) c.args.below c.blacken-front.result) c.deref.ensures.value c.blacken-front.ensures.front in
    let is = blackened_is live c.args.below _ places c.blacken-front.new.places.items c.self.invariant.listed black in
    let plain = places_plain c.self.inside.number.0 c.self.inside.room _ places cells c.self.inside.gray c.args.self.now c.self.invariant.sound c.self.view_is c.requires in
    record {
      sound =
          subst (λ (ps : List Place). IsSound ps cells c.self.inside.room c.blacken-front.new.places.capacity 0) (sym is)
          (subst (λ (n : ℕ). IsSound (black_places c.args.below places) cells c.self.inside.room n 0) (sym c.blacken-front.ensures.capacity) (blackened_sound c.args.below places cells c.self.inside.room _ c.self.inside.gray c.self.invariant.sound plain));
      last = subst (λ (ps : List Place). IsLastGray ps c.self.inside.last) (sym is) (last_blackened c.args.below places c.self.inside.last plain);
      bytes = subst (λ (ps : List Place). AreBytes ps cells c.self.inside.bytes) (sym is) (bytes_blackened c.args.below places cells c.self.inside.bytes c.self.invariant.bytes);
      listed =
          subst (λ (ps : List Place). IsListed ps live c.blacken-front.result) (sym is)
          (listed_blackened c.args.below places c.blacken-front.new.places.items live _ c.blacken-front.result c.self.invariant.listed black is front);
      reserved = c.self.invariant.reserved;
    }

pub returns : goal.returns
returns c =
    let places = c.self.inside.places.items in
    let live = serials c.self.inside.live.items in
    let black : AreBlackened live c.args.below (length live) places c.blacken-front.new.places.items =
    subst (λ n. AreBlackened live c.args.below n places c.blacken-front.new.places.items) (sym (length_serials c.self.inside.live.items))
    (subst (λ (xs : List Entry). AreBlackened (serials xs) c.args.below (length xs) places c.blacken-front.new.places.items) c.deref.ensures.value c.blacken-front.ensures.black) in
    let is = blackened_is live c.args.below _ places c.blacken-front.new.places.items c.self.invariant.listed black in
    ap (λ (rows : List (Option Row)). record { number = c.self.inside.number.0; room = c.self.inside.room; rows = rows }) (ap (map (row_of c.self.inside.cells)) is ∙ blackened_shown c.args.below c.self.inside.cells places)
    ∙ ap (λ (s : SegmentValue). blackened_segment c.args.below s) c.self.view_is
