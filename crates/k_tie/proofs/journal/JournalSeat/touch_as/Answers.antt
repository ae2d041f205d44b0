use Rattle.std.proofs.Common.{[], sym, ap, ◌∙◌}
use Rattle.k_tie.specs.Steps.{after_give}
use Rattle.k_tie.proofs.Seats.{has_word, of_journal, of_note}
use Rattle.k_tie.proofs.RuleKept.{takes, load_allows, gives, touches_it}
use Rattle.k_tie.proofs.journal.JournalSeat.touch_as.Goals as goal

pub split_seat-spare-requires : goal.split_seat-spare-requires
split_seat-spare-requires g c =
    (of_journal _ _ _ _ c.self.view_is (c.requires.table.0 ∙ sym c.tie.view_is), has_word _ c.tie.invariant, gives _ _)

pub join_seat-requires : goal.join_seat-requires
join_seat-requires g c =
    let at = c.tie.view_is in
    let was = c.replace-seat.ensures.value in (
      c.split_seat-spare.ensures.0 ∙ of_journal _ _ _ _ c.self.view_is (c.requires.table.0 ∙ sym at),
      ap (λ s. s.table_id) was ∙ of_note _ _ _ _ c.note.view_is (c.requires.table.1 ∙ sym at),
      ap (λ s. s.me.1) was ∙ ap (λ m. m.1) c.note.invariant,
      has_word _ c.tie.invariant,
      takes _ _ _ _ _ _ [] (ap (λ m. m.0) c.split_seat-spare.ensures.2 ∙ ap (λ m. after_give m.0) c.self.invariant),
    )

pub load-requires : goal.load-requires
load-requires g c =
    let at = of_journal _ _ _ _ c.self.view_is (c.requires.table.0 ∙ sym c.tie.view_is) in
    (c.join_seat.ensures.0 ∙ (c.split_seat-spare.ensures.0 ∙ at), has_word _ c.tie.invariant, load_allows _ _ _)

pub split_seat-requires : goal.split_seat-requires
split_seat-requires g c =
    let at = of_journal _ _ _ _ c.self.view_is (c.requires.table.0 ∙ sym c.tie.view_is) in
    (c.load.ensures.0 ∙ (c.join_seat.ensures.0 ∙ (c.split_seat-spare.ensures.0 ∙ at)), has_word _ c.tie.invariant, touches_it _ _ _)
