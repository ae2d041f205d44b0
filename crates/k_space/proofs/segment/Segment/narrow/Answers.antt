use Rattle.std.proofs.Common.{◌≡◌, sym, ap, arith}
use Rattle.k_space.specs.Segments.{SegmentValue}
use Rattle.k_space.proofs.Soundness.{living_is}
use Rattle.k_space.proofs.segment.Segment.narrow.Goals as goal

pub invariant_of-self : goal.invariant_of-self
invariant_of-self c =
    let was = c.self.invariant.sound in
    let lives = living_is _ _ _ _ _ _ _ was c.self.invariant.bytes c.args.self.now c.self.view_is in
    let room : c.args.self.now.room ≡ c.self.inside.room = ap (λ (s : SegmentValue). s.room) (sym c.self.view_is) in
    record {
      sound = record {
        first = was.first;
        begun = was.begun;
        sized = record {
          given = was.sized.given;
          counted = was.sized.counted;
          within = omega (arith, lives, c.requires.enough);
          fits = omega (arith, was.sized.fits, room, c.requires.less);
          slots = was.sized.slots;
          keys = was.sized.keys;
        };
        placed = was.placed;
        kept = was.kept;
        grays = was.grays;
      };
      last = c.self.invariant.last;
      bytes = c.self.invariant.bytes;
      listed = c.self.invariant.listed;
      reserved = omega (arith, c.self.invariant.reserved, room, c.requires.less);
    }
