use Rattle.std.proofs.Common.{◌==◌, ap, ◌<◌, ◌^◌, subst, ℕ}
use Rattle.k_types.specs.Limits.{limits_in, max_of, use_of}
use Rattle.k_audit.proofs.ClaimsLaw.{not_cut}
use Rattle.k_audit.proofs.sums.use_is.Goals as goal

pub returns : goal.returns
returns c =
    let m = c.args.lists.now in
    ap (λ n. c.args.claimed == n)
    (not_cut (use_of m.setup m.state c.args.limit.0) c.use_of.result (max_of (limits_in m.setup m.state) c.args.limit.0) (c.requires.fit c.args.limit.0 c.requires.limit)
    (subst (λ (n : ℕ). n < 2 ^ 40) c.max_of-max.ensures.max c.max_of-max.ensures.small) c.use_of.ensures)
