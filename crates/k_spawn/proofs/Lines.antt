-- Lines of one word.
use Rattle.std.proofs.Common.{◌≡◌, List, [], ◌∷◌, Err, refl}
use Rattle.k_trace.specs.Words.{Text}
use Rattle.k_trace.specs.Demands.{demands as asks}
use Rattle.k_trace.specs.Forms.{op_in, op_of, register_op, bare_op, sharing_op, governing_op}
use Rattle.k_trace.specs.declared.reasons.Reason.TheVariants.{NoForm}
use Rattle.k_spawn.specs.declared.reasons.ScriptReason.TheVariants.{OfTrace}
use Rattle.k_spawn.specs.Scripts.{Script}
use Rattle.k_spawn.specs.Judgement.{deed_of, operation_line}

pub no_deed : (s : Script) (ws : List Text) (w : Text) → ws ≡ w ∷ [] → operation_line s ws ≡ Err (OfTrace NoForm)
unfolding operation_line deed_of op_in op_of register_op bare_op sharing_op governing_op asks
no_deed s ws w e = rw e refl
