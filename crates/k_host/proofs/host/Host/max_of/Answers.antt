use Rattle.std.proofs.Common.{◌<◌, ◌≤◌, ◌∙◌, subst, length}
use Rattle.k_ends.specs.k_guests.Serving.{basis_of}
use Rattle.k_host.specs.Hosts.{HostValue}
use Rattle.k_host.proofs.Hosts.{limit_not_there, limit_there}
use Rattle.k_host.proofs.host.Host.max_of.Goals as goal

pub max_of-requires : goal.max_of-requires
max_of-requires c = limit_there (basis_of c.self.inside.terms) c.self.inside.book c.self.invariant.rest.book c.args.limit.0 (subst (λ n. c.args.limit.0 < n) (c.len.ensures ∙ c.self.inside.terms.setup.limits.ok.0) c.if-limit-len.false)

pub returns-clause-there : goal.returns-clause-there
returns-clause-there c =
    subst (λ (h : HostValue). c.args.limit.0 < length h.book.rows) c.self.view_is
    (limit_there (basis_of c.self.inside.terms) c.self.inside.book c.self.invariant.rest.book c.args.limit.0 (subst (λ n. c.args.limit.0 < n) (c.len.ensures ∙ c.self.inside.terms.setup.limits.ok.0) c.if-limit-len.false))

pub returns-then-limit-len-clause-none : goal.returns-then-limit-len-clause-none
returns-then-limit-len-clause-none c =
    subst (λ (h : HostValue). length h.book.rows ≤ c.args.limit.0) c.self.view_is
    (limit_not_there (basis_of c.self.inside.terms) c.self.inside.book c.self.invariant.rest.book c.args.limit.0 (subst (λ n. n ≤ c.args.limit.0) (c.len.ensures ∙ c.self.inside.terms.setup.limits.ok.0) c.if-limit-len.true))
