use Rattle.std.proofs.Common.{◌≡◌, ◌<◌, IsTrue, ltb, ℕ, sym, ap, arith}
use Rattle.std.proofs.lemmas.Bool.Decides.{nat_tests}
use Rattle.k_space.specs.Segments.{SegmentValue}
use Rattle.k_space.proofs.Soundness.{living_is, rows_shown}
use Rattle.k_space.proofs.segment.Segment.has_room.Goals as goal

below_test : (a b : ℕ) → IsTrue (ltb a b) → a < b
below_test a b e = grind (arith, nat_tests)

test_below : (a b : ℕ) → a < b → IsTrue (ltb a b)
test_below a b e = grind (arith, nat_tests)

pub returns-then-len-self : goal.returns-then-len-self
returns-then-len-self c =
    let lives = living_is _ _ _ _ _ _ _ c.self.invariant.sound c.self.invariant.bytes c.args.self.now c.self.view_is in
    let rows = rows_shown c.self.inside.places.items c.self.inside.cells c.args.self.now c.self.view_is in
    let room : c.args.self.now.room ≡ c.self.inside.room = ap (λ (s : SegmentValue). s.room) (sym c.self.view_is) in (
      λ yes. record {
        few = omega (arith, lives, room, c.len.ensures, c.if-len-self.true);
        left = let low = below_test c.len-then-len-self.result 4294967295 yes in omega (arith, rows, c.len-then-len-self.ensures.value, low, c.self.invariant.sound.begun);
      },
      λ has. test_below c.len-then-len-self.result 4294967295 (omega (arith, rows, c.len-then-len-self.ensures.value, has.left, c.self.invariant.sound.begun)),
    )

pub returns-else-len-self : goal.returns-else-len-self
returns-else-len-self c =
    let lives = living_is _ _ _ _ _ _ _ c.self.invariant.sound c.self.invariant.bytes c.args.self.now c.self.view_is in
    let room : c.args.self.now.room ≡ c.self.inside.room = ap (λ (s : SegmentValue). s.room) (sym c.self.view_is) in (
      λ yes. absurd (let low = below_test c.len.result c.self.inside.room yes in omega (arith, low, c.if-len-self.false)),
      λ has. absurd (omega (arith, lives, room, c.len.ensures, has.few, c.if-len-self.false)),
    )
