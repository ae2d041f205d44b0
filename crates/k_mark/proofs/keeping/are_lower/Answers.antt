use Rattle.std.proofs.Common.{arith}
use Rattle.k_mark.proofs.Lower.{all_lower}
use Rattle.k_mark.proofs.keeping.are_lower.Goals as goal

pub returns : goal.returns
returns c = λ t. all_lower c.args.held.now c.args.count c.args.next (λ k low. c.loop-field.invariant k (omega (arith, low, c.loop-field-test.false)))
