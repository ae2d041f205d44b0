use Rattle.std.proofs.Common.{◌<◌, ◌∙◌, length, sym, ap, subst, List}
use Rattle.k_types.specs.declared.names.LimitId.{LimitId}
use Rattle.k_types.specs.Replies.{may_resize}
use Rattle.k_commit.proofs.Resizing.{other_limit}
use Rattle.k_commit.proofs.limits.is_above.Goals as goal

pub limit_of-requires : goal.limit_of-requires
limit_of-requires g c = subst (λ (procs : List LimitId). c.args.other.0 < length procs) (sym c.requires.0.procs) c.requires.1.1.1

pub is_below-requires : goal.is_below-requires
is_below-requires g c = record {
  of_trace = c.requires.0;
  known = c.requires.1.1.0;
  limit = subst (λ n. n < length g.trace.limits) (sym (other_limit g.trace c.args.book.now c.args.other.0 c.requires.0 c.limit_of.result c.limit_of.ensures)) (c.requires.1.0.limited c.args.other.0 c.requires.1.1.1);
}

pub returns : goal.returns
returns g c = c.is_below.ensures ∙ ap (may_resize g.trace c.args.pid.0) (other_limit g.trace c.args.book.now c.args.other.0 c.requires.0 c.limit_of.result c.limit_of.ensures)
