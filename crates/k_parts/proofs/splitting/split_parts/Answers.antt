use Rattle.std.proofs.Common.{◌∙◌, ap}
use Rattle.std.specs.Arc.{arc_value}
use Rattle.k_mark.specs.Listening.{FreedNames}
use Rattle.k_ends.specs.k_guests.Serving.{basis_of}
use Rattle.k_host.specs.Hosts.{host_of_parts}
use Rattle.k_parts.specs.declared.head.Head.{Head}
use Rattle.k_parts.specs.Parts.{book_seen}
use Rattle.k_parts.proofs.Splits.{book_is_seen, first_guests, first_heaps, guests_seen, heaps_seen, kernel_is_seen}
use Rattle.k_parts.proofs.splitting.split_parts.Goals as goal

pub split_guests-requires : goal.split_guests-requires
split_guests-requires g c =
    first_guests g.H.HostName.home (host_of_parts c.args.terms c.args.parts) c.args.number c.requires.serves c.requires.named (arc_value c.in_ok-head.head) (ap (λ (x : Head). basis_of x.terms) c.in_ok-head.ensures.ok) (ap (λ (x : Head). x.number) c.in_ok-head.ensures.ok)

pub split_heaps-requires : goal.split_heaps-requires
split_heaps-requires g c =
    first_heaps g.H.HostName.home (host_of_parts c.args.terms c.args.parts) c.args.number c.requires.serves c.requires.named (arc_value c.in_ok-head.head) (ap (λ (x : Head). basis_of x.terms) c.in_ok-head.ensures.ok) (ap (λ (x : Head). x.number) c.in_ok-head.ensures.ok)

pub returns : goal.returns
returns g c =
    let host = host_of_parts c.args.terms c.args.parts in
    let head = arc_value c.in_ok-head.head in
    let basis = ap (λ (x : Head). basis_of x.terms) c.in_ok-head.ensures.ok in
    let number = ap (λ (x : Head). x.number) c.in_ok-head.ensures.ok in
    record {
      guests_are = c.in_ok-split_guests.ensures ∙ guests_seen g.H.HostName.home host c.args.number c.requires.serves c.requires.named head basis number;
      kernel_is = c.in_ok-of.ensures ∙ kernel_is_seen g.H.HostName.home host c.args.number c.requires.serves c.requires.named head basis number;
      heaps_are = c.in_ok-split_heaps.ensures ∙ heaps_seen g.H.HostName.home host c.args.number c.requires.serves c.requires.named head basis number;
      book_is =
          c.in_ok-of-2.ensures ∙ ap (λ (n : FreedNames). book_seen head c.args.parts.book n 0) c.in_ok-freed.ensures
          ∙ book_is_seen g.H.HostName.home host c.args.number c.requires.serves c.requires.named head basis number c.args.most_freed;
    }
