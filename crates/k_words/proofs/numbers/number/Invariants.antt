use Rattle.std.proofs.Common.{◌≡◌, ◌<◌, take}
use Rattle.k_words.specs.Numbers.{value}
use Rattle.k_words.proofs.numbers.number.Given as goal

abbrev pub invariant-loop-b : goal.invariant-loop-b
invariant-loop-b l = record { so_far : l.number ≡ value (take l.b-index l.word); fits : l.number < l.limit }
