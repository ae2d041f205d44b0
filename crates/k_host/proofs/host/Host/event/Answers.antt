use Rattle.std.proofs.Common.{arith}
use Rattle.k_host.proofs.host.Host.event.Goals as goal

pub event-requires-clause-kept : goal.event-requires-clause-kept
event-requires-clause-kept c =
    let counted = c.len-count.ensures in
    let kept = c.self.invariant.rest.book.kept in
    omega (arith, counted, kept, c.if-count-number.false)
