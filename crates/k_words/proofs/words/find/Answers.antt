use Rattle.std.proofs.Common.{eq-eqb, arith, eqb, sym, length}
use Rattle.std.proofs.lemmas.List.Sums.{position_or_len_is}
use Rattle.k_words.proofs.words.find.Goals as goal

pub returns-then-b-wanted : goal.returns-then-b-wanted
returns-then-b-wanted c = sym (position_or_len_is (λ b. eqb b c.args.wanted) c.args.bytes.now c.loop-i.i 0 (omega arith) c.loop-i.invariant (λ lt. eq-eqb _ _ c.if-b-wanted.true))

pub returns : goal.returns
returns c = sym (position_or_len_is (λ b. eqb b c.args.wanted) c.args.bytes.now (length c.args.bytes.now) 0 (omega arith) (λ k lt. c.loop-i.invariant k (omega arith)) (λ lt. absurd (omega arith)))
