use Rattle.std.proofs.Common.{Bool, false}
use Rattle.std.proofs.lemmas.List.{get_or-replicate}
use Rattle.k_scan.proofs.leading.led_into.Goals as goal

pub loop-at-init : goal.loop-at-init
loop-at-init c = λ s low. get_or-replicate {A = Bool} 64 s false false low
