use Rattle.std.proofs.Common.{◌≡◌, ◌∙◌, ◌<◌, ◌||◌, not, true, sym, arith, length}
use Rattle.k_trace.specs.Grown.{fits}
use Rattle.k_reader.proofs.Reservations.{limit_reserved, is_small}
use Rattle.k_reader.proofs.reader.Reader.limit_line.Goals as goal

pub add_limit-requires-clause-reserved : goal.add_limit-requires-clause-reserved
add_limit-requires-clause-reserved c =
    let known : c.in-Some-limit_named.parent.0 < length c.self.inside.limits.items = omega (arith, c.in-Some-limit_named.ensures.declared, c.self.invariant.named) in
    let room : (not c.is-hard.result || fits c.self.inside.limits.items c.in-Some-limit_named.parent.0 c.in-Some.max) ≡ true
    = rw (← c.deref.ensures.value) (sym c.in_ok-has_room.ensures ∙ c.if-not-branch.false) in
    rw (← c.self.view_is)
    (limit_reserved c.self.inside.limits.items c.in-Some-limit_named.parent.0 c.is-hard.result c.in-Some.max c.self.invariant.reserved known (is_small _ _ c.word-2.result.now c.in-Some.ensures) room)
