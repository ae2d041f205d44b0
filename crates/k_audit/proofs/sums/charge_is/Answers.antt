use Rattle.std.proofs.Common.{◌==◌, ap, ◌∙◌, ◌<◌, ◌^◌, subst, ℕ, le_trans}
use Rattle.k_types.specs.Limits.{limits_in, max_of}
use Rattle.k_types.specs.Owners.{charge_of}
use Rattle.k_types.specs.Trace.{limit_of}
use Rattle.k_audit.proofs.ClaimsLaw.{not_cut}
use Rattle.k_audit.proofs.sums.charge_is.Goals as goal
use Rattle.k_types.proofs.Charges.{charge_at_most}

pub returns : goal.returns
returns c =
    let m = c.args.lists.now in
    let p = c.args.pid.0 in
    let rules = c.setup-shape.ensures.shape.setup.limits in
    ap (λ n. c.args.claimed == n)
    (not_cut (charge_of m.setup m.state p) c.charge.result (max_of (limits_in m.setup m.state) (limit_of m.setup p))
    (le_trans (charge_at_most m.setup m.state p c.requires.process rules) (c.requires.fit (limit_of m.setup p) (rules.limited p c.requires.process)))
    (subst (λ (n : ℕ). n < 2 ^ 40) (c.max_of-max.ensures.max ∙ ap (max_of (limits_in m.setup m.state)) c.limit_of.ensures.limit) c.max_of-max.ensures.small) c.charge.ensures)
