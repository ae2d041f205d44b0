use Rattle.std.proofs.Common.{ap}
use Rattle.k_host.specs.Hosts.{HostValue}
use Rattle.k_host.proofs.host.Host.setup.Goals as goal

pub returns : goal.returns
returns c = ap (λ (h : HostValue). h.basis.trace) c.self.view_is
