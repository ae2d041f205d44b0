use Rattle.std.proofs.Common.{◌≡◌, ℕ, List, length, slice_get, Some, ap, ◌∙◌, arith}
use Rattle.std.proofs.lemmas.List.{length-set}
use Rattle.k_space.proofs.Hinted.{number_inside, got, renewed, passed}
use Rattle.k_space.proofs.area.renew.Goals as goal
use Rattle.k_space.proofs.area.renew.Goals.{then-number-hints, else-number-hints}

pub loop-i-preserved : goal.loop-i-preserved
loop-i-preserved c =
    let at : slice_get c.args.segments.now c.loop-i.i ≡ Some c.index-segments-i.result = got c.args.segments.now c.loop-i.i c.index-segments-i.result _ (omega (arith, c.loop-i-test.true)) c.index-segments-i.is in
    elim c.if-number-hints.branch [
      | then-number-hints w ↦
          record {
            len = ap (λ (hs : List ℕ). length hs) w.hints-is ∙ length-set c.loop-i.hints c.number-number.result.0 c.loop-i.i ∙ c.loop-i.invariant.len;
            found = renewed c.args.segments.now c.loop-i.hints c.if-number-hints.hints c.loop-i.i c.number-number.result.0 c.index-segments-i.result at c.number-number.ensures.value (omega (arith, w.if-number-hints.true)) w.hints-is c.loop-i.invariant.found;
          }
      | else-number-hints w ↦
          record {
            len = ap (λ (hs : List ℕ). length hs) w.hints-is ∙ c.loop-i.invariant.len;
            found = passed c.args.segments.now c.loop-i.hints c.if-number-hints.hints c.loop-i.i c.number-number.result.0 c.index-segments-i.result at c.number-number.ensures.value (omega (arith, w.if-number-hints.false)) w.hints-is c.loop-i.invariant.found;
          }
    ]

pub returns-clause-exact : goal.returns-clause-exact
returns-clause-exact c = λ i number there within.
    c.loop-i.invariant.found i number (omega (arith, number_inside c.args.segments.now i number there, c.loop-i-test.false)) there within
