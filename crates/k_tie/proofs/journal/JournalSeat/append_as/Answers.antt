use Rattle.std.proofs.Common.{sym, ap, ◌∙◌, length}
use Rattle.k_tie.proofs.Seats.{has_word, of_journal}
use Rattle.k_tie.proofs.RuleKept.{append_allows}
use Rattle.k_tie.proofs.journal.JournalSeat.append_as.Goals as goal

pub fetch_add-requires : goal.fetch_add-requires
fetch_add-requires g c =
    let at = of_journal _ _ _ _ c.self.view_is (c.requires.table ∙ sym c.tie.view_is) in
    (at, has_word _ c.tie.invariant, append_allows _ _ _ _ _ _ _ (ap (λ m. m.0) c.self.invariant) (ap length c.requires.events) (rw c.self.view_is c.requires.room))
