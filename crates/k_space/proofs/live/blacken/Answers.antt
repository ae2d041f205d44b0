use Rattle.std.proofs.Common.{◌≡◌, ◌<◌, ◌+◌, length, get_or, sym, ap, subst, ◌∙◌, arith}
use Rattle.k_space.specs.Stamps.{PlacesValue}
use Rattle.k_space.specs.Listed.{AreBlackened, serials}
use Rattle.k_space.proofs.Blackened.{one_blackened, passed_blackened, one_in_front}
use Rattle.k_space.proofs.Entries.{length_serials, serial_there}
use Rattle.k_space.proofs.live.blacken.Goals.{then-from-below+then-front-i, then-from-below+else-front-i, else-from-below}
use Rattle.k_space.proofs.live.blacken.Goals as goal

pub blacken-requires : goal.blacken-requires
blacken-requires c = let len = c.loop-i.invariant.black.len in omega (arith, len, c.requires c.loop-i.i (omega (arith, c.loop-i-test.true)), serial_there c.args.live.now c.loop-i.i 0 0)

pub loop-i-preserved : goal.loop-i-preserved
loop-i-preserved c =
    let was = c.loop-i.invariant in
    let live = serials c.args.live.now in
    let old = c.args.places.now.items in
    let now = c.loop-i.places.items in
    let within : c.loop-i.i < length live = omega (arith, c.loop-i-test.true, length_serials c.args.live.now) in
    let entry = get_or c.args.live.now c.loop-i.i (record { serial = 0; slot = 0 }) in
    let there : get_or live c.loop-i.i 0 ≡ entry.serial = serial_there c.args.live.now c.loop-i.i 0 0 in
    let inside : entry.serial < length now = let len = was.black.len in omega (arith, len, c.requires c.loop-i.i (omega (arith, c.loop-i-test.true)), there) in
    elim c.if-from-below.branch [
      | then-from-below+then-front-i w ↦
          let low : entry.serial < c.args.below = omega (arith, c.from.ensures, w.if-from-below.true) in
          rw (w.places-is, w.front-is) (record {
            black = subst (λ (p : PlacesValue). AreBlackened live c.args.below (c.loop-i.i + 1) old p.items) (sym w.blacken.ensures) (one_blackened live c.args.below c.loop-i.i entry.serial old now was.black (sym there) low inside);
            capacity = ap (λ (p : PlacesValue). p.capacity) w.blacken.ensures ∙ was.capacity;
            front = one_in_front live c.args.below c.loop-i.front c.loop-i.i was.front w.if-front-i.true within (omega (arith, low, there));
            passed = omega (arith, w.if-front-i.true);
          })
      | then-from-below+else-front-i w ↦
          let low : entry.serial < c.args.below = omega (arith, c.from.ensures, w.if-from-below.true) in
          rw (w.places-is, w.front-is) (record {
            black = subst (λ (p : PlacesValue). AreBlackened live c.args.below (c.loop-i.i + 1) old p.items) (sym w.blacken.ensures) (one_blackened live c.args.below c.loop-i.i entry.serial old now was.black (sym there) low inside);
            capacity = ap (λ (p : PlacesValue). p.capacity) w.blacken.ensures ∙ was.capacity;
            front = was.front;
            passed = omega (arith, was.passed);
          })
      | else-from-below w ↦
          rw (w.places-is, w.front-is) (record {
            black = passed_blackened live c.args.below c.loop-i.i old now was.black (omega (arith, c.from.ensures, w.if-from-below.false, there));
            capacity = was.capacity;
            front = was.front;
            passed = omega (arith, was.passed);
          })
    ]
