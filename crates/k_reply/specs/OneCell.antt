-- One cell or none, as a list.
use Rattle.std.specs.Prelude.{List, [], ◌∷◌, Option, Some, None}
use Rattle.k_types.specs.Cells.{Cell}

-- the cell, where there is one
abbrev pub one_cell : Option Cell → List Cell
one_cell None = []
one_cell (Some c) = c ∷ []
