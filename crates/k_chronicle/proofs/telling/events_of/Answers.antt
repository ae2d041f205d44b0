use Rattle.std.proofs.Common.{◌≡◌, ◌+◌, ◌∙◌, [], List, ◌∷◌, ◌++◌, ap, sym, take}
use Rattle.std.proofs.lemmas.List.{take_more}
use Rattle.std.proofs.lemmas.Option.{get_or_from_slice_get, slice_get_within}
use Rattle.k_types.specs.declared.event.Event.{Event}
use Rattle.k_chronicle.proofs.telling.events_of.Goals as goal

pub loop-number-preserved : goal.loop-number-preserved
loop-number-preserved c =
    let list : List Event = c.args.host.now.book.journal.list in
    let number = c.loop-number.number in
    let event : Event = c.event_at.result in
    let next : take (number + 1) list ≡ take number list ++ event ∷ [] =
    take_more list number event (slice_get_within list number event c.event_at.ensures) ∙ ap (λ (e : Event). take number list ++ e ∷ []) (get_or_from_slice_get list number event event c.event_at.ensures) in
    c.in_ok-push.ensures.items ∙ ap (λ (es : List Event). es ++ event ∷ []) c.loop-number.invariant ∙ sym next
