-- What marking asks and leaves of a cell.
use Rattle.std.specs.Prelude.{◌≡◌}
use Rattle.k_types.specs.declared.names.CellPhase.TheVariants.{Begun, Marked}
use Rattle.k_types.specs.Agree.{CellValue}
use Rattle.k_types.specs.Cells.{Cell}
use Rattle.k_types.specs.Trace.{Trace}
use Rattle.k_types.specs.TraceRules.{KeepsRules}
use Rattle.k_tie.specs.Values.{NoteValue}
use Rattle.k_agree.specs.Agreement.{Agrees}
use Rattle.k_agree.specs.Marking.{marked}

-- the cell agrees, and its collection has just begun
pub record CanMark (trace : Trace) (cell : Cell) (note : NoteValue) (value : CellValue) : Type 0 where
  pub keeps : KeepsRules trace
  pub agrees : Agrees trace cell note value
  pub begun : value.collection ≡ Begun

-- the cell is marked, agrees, and is as it was but for its marks
pub record HasMarkedOn (trace : Trace) (cell : Cell) (note : NoteValue) (old new : CellValue) : Type 0 where
  pub rest : new ≡ marked new.black new.black_exits old
  pub agrees : Agrees trace cell note new
  pub phase : new.collection ≡ Marked
