use Rattle.std.proofs.Common.{◌≡◌, ◌∙◌, false, arith, sym, true}
use Rattle.k_history.proofs.Compared.{told_same, told_other}
use Rattle.k_history.proofs.matching.MatchSink.first_difference.Goals.{else-self-via-then-self+else-self-2, else-self-via-else-self}
use Rattle.k_history.proofs.matching.MatchSink.first_difference.Goals as goal

pub returns-then-self-2 : goal.returns-then-self-2
returns-then-self-2 c given xs h =
    told_same c.self.inside.bytes.now c.self.inside.at c.self.inside.line c.self.inside.same given xs (rw (← c.self.view_is) at h) c.if-self.true (omega (arith, c.if-self-2.true))

pub returns-else-self : goal.returns-else-self
returns-else-self c given xs h =
    told_other c.self.inside.bytes.now c.self.inside.at c.self.inside.line c.self.inside.same given xs (rw (← c.self.view_is) at h) (λ same. elim c.else-self.branch [
      | else-self-via-then-self+else-self-2 w ↦ omega (arith, w.if-self-2.false, c.self.invariant)
      | else-self-via-else-self w ↦ absurd (let f : true ≡ false = sym same ∙ w.if-self.false in cc)
    ])
