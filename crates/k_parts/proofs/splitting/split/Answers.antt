use Rattle.std.proofs.Common.{sym, subst, IfOk}
use Rattle.k_host.specs.Hosts.{HostValue}
use Rattle.k_parts.specs.Parts.{IsOf}
use Rattle.k_parts.specs.Splitting.{AreSplit, home_of}
use Rattle.k_parts.proofs.splitting.split.Goals as goal

pub split_parts-requires-clause-named : goal.split_parts-requires-clause-named
split_parts-requires-clause-named g c = subst (λ (h : HostValue). IsOf g.H.HostName.home (home_of h c.args.number)) (sym c.into_parts-terms.ensures.parts) c.requires.named

pub returns : goal.returns
returns g c =
    subst (λ (h : HostValue). IfOk c.split_parts.result (λ made. AreSplit h c.args.number c.args.most_freed made.guests.items made.kernel made.shared.items made.book)) c.into_parts-terms.ensures.parts c.split_parts.ensures
