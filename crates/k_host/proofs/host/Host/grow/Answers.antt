use Rattle.std.proofs.Common.{◌≡◌, sym, subst, length}
use Rattle.k_ends.specs.k_guests.Growing.{AreLarger, basis_with_rooms}
use Rattle.k_ends.specs.k_guests.Serving.{basis_of}
use Rattle.k_host.specs.Growing.{HasGrown}
use Rattle.k_host.specs.Hosts.{HostValue}
use Rattle.k_host.proofs.Called.{host_of}
use Rattle.k_host.proofs.Grown.{can_grow_parts, has_grown, host_serves}
use Rattle.k_host.proofs.host.Host.grow.Goals as goal

pub grow_parts-requires : goal.grow_parts-requires
grow_parts-requires c =
    let larger : AreLarger (length c.self.inside.guests.items) c.self.inside.terms.rooms c.args.rooms =
    subst (λ (h : HostValue). AreLarger (length h.guests) h.basis.rooms c.args.rooms) (sym c.self.view_is) (c.can_grow.ensures.0 c.if-not-can_grow.false) in
    can_grow_parts c.self.inside.terms c.args.rooms c.self.inside.guests.items c.self.inside.kernel c.self.inside.shared.items c.self.inside.book c.self.invariant larger

pub returns-clause-grown : goal.returns-clause-grown
returns-clause-grown c =
    let larger : AreLarger (length c.self.inside.guests.items) c.self.inside.terms.rooms c.args.rooms =
    subst (λ (h : HostValue). AreLarger (length h.guests) h.basis.rooms c.args.rooms) (sym c.self.view_is) (c.can_grow.ensures.0 c.if-not-can_grow.false) in
    subst (λ (h : HostValue). HasGrown h
    (host_of (basis_with_rooms (basis_of c.self.inside.terms) c.args.rooms c.in_ok-kept.kept) c.grow_parts.new.guests.items c.grow_parts.new.kernel c.grow_parts.new.shared.items c.grow_parts.new.book)
    c.args.rooms c.in_ok-kept.kept) c.self.view_is
    (has_grown c.self.inside.terms c.args.rooms c.self.inside.guests.items c.self.inside.kernel c.self.inside.shared.items c.self.inside.book c.self.invariant larger
    c.in_ok-kept.kept c.grow_parts.new.guests.items c.grow_parts.new.kernel c.grow_parts.new.shared.items c.grow_parts.new.book c.in_ok-kept.ensures.ok c.in_ok-kept.ensures.kept)

pub invariant_of-self-2 : goal.invariant_of-self-2
invariant_of-self-2 c =
    let larger : AreLarger (length c.self.inside.guests.items) c.self.inside.terms.rooms c.args.rooms =
    subst (λ (h : HostValue). AreLarger (length h.guests) h.basis.rooms c.args.rooms) (sym c.self.view_is) (c.can_grow.ensures.0 c.if-not-can_grow.false) in
    host_serves c.self.inside.terms c.args.rooms c.self.inside.guests.items c.self.inside.kernel c.self.inside.shared.items c.self.inside.book c.self.invariant larger
    c.in_ok-kept.kept c.grow_parts.new.guests.items c.grow_parts.new.kernel c.grow_parts.new.shared.items c.grow_parts.new.book c.in_ok-kept.ensures.ok
