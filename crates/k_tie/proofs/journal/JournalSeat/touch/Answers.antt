use Rattle.std.proofs.Common.{[], sym, ap, ◌∙◌}
use Rattle.k_tie.proofs.Seats.{has_word, of_journal, of_note}
use Rattle.k_tie.proofs.RuleKept.{takes, load_allows, touches_it}
use Rattle.k_tie.proofs.journal.JournalSeat.touch.Goals as goal

pub join_seat-requires : goal.join_seat-requires
join_seat-requires c =
    let at = c.tie.view_is in (
      of_journal _ _ _ _ c.self.view_is (c.requires.0 ∙ sym at),
      of_note _ _ _ _ c.note.view_is (c.requires.1 ∙ sym at),
      ap (λ m. m.1) c.note.invariant,
      has_word _ c.tie.invariant,
      takes _ _ _ _ _ _ [] (ap (λ m. m.0) c.self.invariant),
    )

pub load-requires : goal.load-requires
load-requires c =
    let at = of_journal _ _ _ _ c.self.view_is (c.requires.0 ∙ sym c.tie.view_is) in
    (c.join_seat.ensures.0 ∙ at, has_word _ c.tie.invariant, load_allows _ _ _)

pub split_seat-given-requires : goal.split_seat-given-requires
split_seat-given-requires c =
    let at = of_journal _ _ _ _ c.self.view_is (c.requires.0 ∙ sym c.tie.view_is) in
    (c.load.ensures.0 ∙ (c.join_seat.ensures.0 ∙ at), has_word _ c.tie.invariant, touches_it 1 _ _)
