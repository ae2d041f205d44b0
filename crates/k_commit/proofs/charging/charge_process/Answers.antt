use Rattle.std.proofs.Common.{◌≡◌, ◌<◌, ap, length, subst, sym, ◌∙◌, List}
use Rattle.k_types.specs.declared.names.LimitId.{LimitId}
use Rattle.k_types.specs.Trace.{limit_of}
use Rattle.k_commit.proofs.Charges.{if_charged, if_full, limit_inside, limit_is}
use Rattle.k_commit.proofs.charging.charge_process.Goals as goal

pub limit_of-limit-requires : goal.limit_of-limit-requires
limit_of-limit-requires g c = subst (λ (procs : List LimitId). c.args.pid.0 < length procs) (sym c.requires.stands.of_trace.procs) c.requires.known

pub charge-requires : goal.charge-requires
charge-requires g c =
    subst (λ n. n < length c.args.book.now.rows) (sym (ap (λ (l : LimitId). l.0) c.limit_of-limit.ensures ∙ limit_is g.trace c.args.book.now c.args.pid.0 c.requires))
    (limit_inside g.trace c.args.book.now c.args.pid.0 c.requires)

pub returns : goal.returns
returns g c =
    let at : c.limit_of-limit.result.0 ≡ limit_of g.trace c.args.pid.0 = ap (λ (l : LimitId). l.0) c.limit_of-limit.ensures ∙ limit_is g.trace c.args.book.now c.args.pid.0 c.requires in
    record {
      charged = if_charged g.trace c.args.book.now c.args.pid.0 c.requires c.charge.new.self c.args.bytes c.limit_of-limit.result.0 at c.charge.result c.charge.ensures.charged;
      full = if_full g.trace c.args.book.now c.args.pid.0 c.requires c.charge.new.self c.args.bytes c.limit_of-limit.result.0 at c.charge.result c.charge.ensures.full;
    }
