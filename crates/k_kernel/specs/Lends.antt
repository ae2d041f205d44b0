-- What a kernel's cell ends as, where its note is lent.
use Rattle.std.specs.Borrow.{Lends, Fml, MutBor}
use Rattle.k_cell.specs.k_tie.Values.{NoteValue}
use Rattle.k_cell.specs.k_tie.contracts.note.Note.{the_row as note_row}
use Rattle.k_cell.specs.Holdings.{HoldingsValue}
use Rattle.k_kernel.specs.contracts.kernel.KernelCell.{the_row as cell_row}

-- the cell with another note
abbrev pub with_note : HoldingsValue → NoteValue → HoldingsValue
with_note c note = record c { note = note }

-- the cell lent ends with the note as it is given back, and all else as it was
abbrev pub lends_note : MutBor HoldingsValue → MutBor NoteValue → Fml
lends_note c r = Lends cell_row note_row c r (with_note c.now)
