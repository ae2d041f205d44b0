-- What holdings end as, where their note is lent.
use Rattle.std.specs.Borrow.{Lends, Fml, MutBor}
use Rattle.k_agree.specs.k_tie.Values.{NoteValue}
use Rattle.k_agree.specs.k_tie.contracts.note.Note.{the_row as note_row}
use Rattle.k_cell.specs.Holdings.{HoldingsValue}
use Rattle.k_cell.specs.contracts.holding.Holdings.{the_row as holdings_row}

-- the holdings with another note
abbrev pub with_note : HoldingsValue → NoteValue → HoldingsValue
with_note h note = record h { note = note }

-- the holdings lent end with the note as it is given back, and all else as it was
abbrev pub lends_note : MutBor HoldingsValue → MutBor NoteValue → Fml
lends_note h r = Lends holdings_row note_row h r (with_note h.now)
