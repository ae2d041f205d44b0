use Rattle.std.proofs.Common.{◌∙◌, ap, length, arith}
use Rattle.k_ends.specs.k_guests.Serving.{basis_of}
use Rattle.k_host.specs.Hosts.{HostValue}
use Rattle.k_host.proofs.Hosts.{few_heaps}
use Rattle.k_host.proofs.host.Host.shared_heaps.Goals as goal

pub overflow_cast-result : goal.overflow_cast-result
overflow_cast-result c =
    let few = few_heaps (basis_of c.self.inside.terms) c.self.inside.guests.items c.self.inside.kernel c.self.inside.shared.items c.self.inside.book c.self.invariant in
    let all = c.len.ensures ∙ c.self.inside.shared.ok.0 in
    omega (arith, few, all)

pub returns : goal.returns
returns c = c.len.ensures ∙ c.self.inside.shared.ok.0 ∙ ap (λ (h : HostValue). length h.shared) c.self.view_is
