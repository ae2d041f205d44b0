use Rattle.std.proofs.Common.{rules}
use Rattle.k_parts.specs.Splitting.{IsAtRest}
use Rattle.four_guests.proofs.events.Goals as goal

pub driven-requires : goal.driven-requires
driven-requires g c =
    let read = c.in-Ok.ensures.read in
    let rests : IsAtRest c.in-Ok.host = record { guests = λ k x at. (read.fresh.guests k x at).idle; kernel = read.fresh.kernel } in
    (search rules, rests)
