use Rattle.std.proofs.Common.{◌≡◌, ℕ, ◌<◌, ◌≤◌, ◌∙◌, ap, subst, length}
use Rattle.std.specs.Arc.{arc_value}
use Rattle.k_ends.specs.k_guests.Serving.{basis_of}
use Rattle.k_host.proofs.Hosts.{limit_not_there, limit_there}
use Rattle.k_parts.specs.declared.head.Head.{Head}
use Rattle.k_parts.specs.Parts.{BookPartValue}
use Rattle.k_parts.proofs.parts.BookPart.max_of.Goals as goal

abbrev limits_in : Head → ℕ
limits_in head = length (basis_of head.terms).trace.limits

pub max_of-requires : goal.max_of-requires
max_of-requires g c =
    let head : Head = arc_value c.self.inside.head in
    let count = c.len.ensures ∙ c.deref.result.now.terms.setup.limits.ok.0 ∙ ap limits_in c.deref.ensures in
    limit_there (basis_of head.terms) c.self.inside.book c.self.invariant.serves.serves c.args.limit.0 (subst (λ n. c.args.limit.0 < n) count c.if-limit-len.false)

pub returns-clause-there : goal.returns-clause-there
returns-clause-there g c =
    let head : Head = arc_value c.self.inside.head in
    let count = c.len.ensures ∙ c.deref.result.now.terms.setup.limits.ok.0 ∙ ap limits_in c.deref.ensures in
    subst (λ (v : BookPartValue). c.args.limit.0 < length v.book.rows) c.self.view_is
    (limit_there (basis_of head.terms) c.self.inside.book c.self.invariant.serves.serves c.args.limit.0 (subst (λ n. c.args.limit.0 < n) count c.if-limit-len.false))

pub returns-then-limit-len-clause-none : goal.returns-then-limit-len-clause-none
returns-then-limit-len-clause-none g c =
    let head : Head = arc_value c.self.inside.head in
    let count = c.len.ensures ∙ c.deref.result.now.terms.setup.limits.ok.0 ∙ ap limits_in c.deref.ensures in
    subst (λ (v : BookPartValue). length v.book.rows ≤ c.args.limit.0) c.self.view_is
    (limit_not_there (basis_of head.terms) c.self.inside.book c.self.invariant.serves.serves c.args.limit.0 (subst (λ n. n ≤ c.args.limit.0) count c.if-limit-len.true))
