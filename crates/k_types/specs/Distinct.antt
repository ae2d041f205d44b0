-- Lists of distinct names.
use Rattle.std.specs.Prelude.{IsFalse, List, [], ◌∷◌}
use Rattle.k_types.specs.declared.names.Name.{Name}
use Rattle.k_types.specs.Names.{name_among}

-- no name stands twice
abbrev pub AreDistinctNames : List Name → Type 0
AreDistinctNames [] = Unit {0}
AreDistinctNames (n ∷ names) = IsFalse (name_among n names) × AreDistinctNames names
