use Rattle.std.proofs.Common.{subst}
use Rattle.k_host.specs.Hosts.{HostServes}
use Rattle.k_host.proofs.host.Host.serves.Goals as goal

pub returns : goal.returns
returns c = subst HostServes c.self.view_is c.self.invariant
