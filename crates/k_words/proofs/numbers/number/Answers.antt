use Rattle.std.proofs.Common.{arith}
use Rattle.k_words.proofs.Digits.{value_more, too_great}
use Rattle.k_words.proofs.numbers.number.Goals as goal

pub loop-b-preserved : goal.loop-b-preserved
loop-b-preserved c = record { so_far = omega (arith, value_more c.args.word.now c.loop-b.b-index c.loop-b-test.true, c.digit.ensures, c.from.ensures); fits = omega arith }

pub returns-then-number-limit : goal.returns-then-number-limit
returns-then-number-limit c = too_great c.args.word.now c.loop-b.b-index c.args.limit c.loop-b-test.true (omega (arith, c.digit.ensures, c.from.ensures))
