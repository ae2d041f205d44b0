use Rattle.std.proofs.Common.{◌≡◌, subst}
use Rattle.std.specs.Prelude.{IfOk}
use Rattle.k_solo.proofs.Lines.{setup_rules}
use Rattle.k_host.specs.Hosts.{HostValue}
use Rattle.k_ends.specs.k_guests.Serving.{open_trace}
use Rattle.k_host.specs.Twins.{first_twin}
use Rattle.k_host.proofs.host.Host.twin.Goals as goal

pub make-requires : goal.make-requires
make-requires c = setup_rules (open_trace c.self.inside.terms.setup) c.self.invariant.rest.book.stands.keeps

pub returns : goal.returns
returns c = subst (λ (h : HostValue). IfOk c.make.result (λ twin. twin ≡ first_twin h.basis.trace)) c.self.view_is c.make.ensures
