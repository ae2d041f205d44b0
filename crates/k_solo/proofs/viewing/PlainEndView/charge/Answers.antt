use Rattle.std.proofs.Common.{◌≡◌, ◌<◌, subst, sym, ap, ◌∙◌, arith}
use Rattle.k_types.specs.Limits.{limits_in, max_of}
use Rattle.k_types.specs.Trace.{limit_of, process_count}
use Rattle.k_solo.specs.Runs.{Run}
use Rattle.k_solo.proofs.viewing.PlainEndView.charge.Goals as goal
use Rattle.k_types.proofs.Charges.{charge_at_most}

pub returns : goal.returns
returns c =
    let m = c.self.inside.lists in
    let p = c.args.pid.0 in
    let known = subst (λ (r : Run). p < process_count r.machine.setup) (sym c.self.view_is) c.requires in
    let sound = c.self.invariant.shown.machine in
    let most = charge_at_most m.setup m.state p known sound.limits in
    let uses = sound.sound.uses (limit_of m.setup p) (sound.limits.limited p known) in
    let max : c.max_of.result ≡ max_of (limits_in m.setup m.state) (limit_of m.setup p)
    = c.max_of.ensures.max ∙ ap (max_of (limits_in m.setup m.state)) c.limit_of-limit.ensures.limit in
    rw (← c.self.view_is) (omega (arith, most, uses, max, c.charge.ensures, c.min.ensures, c.max_of.type_inv))
