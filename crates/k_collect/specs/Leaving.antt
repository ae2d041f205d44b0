-- Exit items that a collection drops, one by one.
use Rattle.std.specs.Prelude.{◌≡◌, ◌<◌, ◌&&◌, IsTrue}
use Rattle.k_types.specs.declared.names.Name.{Name}
use Rattle.k_types.specs.Agree.{BookValue, CellValue}
use Rattle.k_types.specs.Counted.{counted}
use Rattle.k_types.specs.Names.{name_among}

-- the exit items of the cell are those that were black, in any order, and all else but the marks of exit items is as it was
pub record HasLeftUnmarked (old new : CellValue) : Type 0 where
  pub rest : new ≡ record old { exits = new.exits; black_exits = new.black_exits }
  pub exits : (n : Name) → name_among n new.exits ≡ (name_among n old.exits && name_among n old.black_exits)

-- the book counts an entry for each exit item of the cell
abbrev pub HasItsEntries : CellValue → BookValue → Type 0
HasItsEntries v book = (n : Name) → IsTrue (name_among n v.exits) → 0 < counted book.entries n
