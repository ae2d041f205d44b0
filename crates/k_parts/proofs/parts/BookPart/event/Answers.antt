use Rattle.std.proofs.Common.{◌∙◌, ap, arith}
use Rattle.k_parts.specs.declared.head.Head.{Head}
use Rattle.k_parts.proofs.parts.BookPart.event.Goals as goal

pub event-requires-clause-kept : goal.event-requires-clause-kept
event-requires-clause-kept g c =
    let counted = c.len-count.ensures.length in
    let kept = c.self.invariant.serves.serves.kept in
    let room = c.from.ensures ∙ ap (λ (h : Head). h.terms.rooms.kept) c.deref.ensures in
    omega (arith, counted, kept, room, c.if-count-number.false)
