use Rattle.std.proofs.Common.{◌≡◌, ◌∙◌, refl, sym, ap, subst, get_or, List, Some, slice_get}
use Rattle.std.specs.Prelude.{option_map}
use Rattle.k_ends.specs.k_guests.declared.guest.Guest.{Guest}
use Rattle.k_ends.specs.k_guests.Serving.{basis_of}
use Rattle.k_host.specs.Asked.{charge_told}
use Rattle.k_host.specs.Hosts.{HostValue}
use Rattle.k_host.proofs.Called.{found_there, host_of}
use Rattle.k_host.proofs.host.Host.charge.Goals as goal

pub charge_by-requires-clause-guest : goal.charge_by-requires-clause-guest
charge_by-requires-clause-guest c =
    let read = c.in_ok-guest.ensures.lookup.3.1 c.in_ok-guest.guest.now ∙ ap (λ (gs : List Guest). get_or gs c.args.pid.0 c.in_ok-guest.guest.now) c.deref.ensures.value in
    let there = found_there c.self.inside.guests.items c.deref.result.now c.args.pid.0 c.args.pid.0 c.in_ok-guest.guest.now c.deref.ensures.value (refl, c.in_ok-guest.ensures.lookup.3.0) read in
    c.self.invariant.all.each c.args.pid.0 c.in_ok-guest.guest.now there

pub charge_by-requires-clause-book : goal.charge_by-requires-clause-book
charge_by-requires-clause-book c = c.self.invariant.rest.book

pub returns : goal.returns
returns c =
    let h = host_of (basis_of c.self.inside.terms) c.self.inside.guests.items c.self.inside.kernel c.self.inside.shared.items c.self.inside.book in
    let read = c.in_ok-guest.ensures.lookup.3.1 c.in_ok-guest.guest.now ∙ ap (λ (gs : List Guest). get_or gs c.args.pid.0 c.in_ok-guest.guest.now) c.deref.ensures.value in
    let there = found_there c.self.inside.guests.items c.deref.result.now c.args.pid.0 c.args.pid.0 c.in_ok-guest.guest.now c.deref.ensures.value (refl, c.in_ok-guest.ensures.lookup.3.0) read in
    subst (λ (now : HostValue). Some c.charge_by.result ≡ option_map (charge_told now) (slice_get now.guests c.args.pid.0)) c.self.view_is
    (ap Some c.charge_by.ensures ∙ sym (ap (option_map (charge_told h)) there))
