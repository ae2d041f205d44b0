-- The words of a command line.
use Rattle.std.specs.Prelude.{List, [], map, drop, string_bytes, String, Result, Ok, Err}
use Rattle.std.specs.Global.{Global}
use Rattle.std.specs.Vec.Iter.{into_iter_items}
use Rattle.std.specs.declared.vec.IntoIter.{IntoIter}
use Rattle.k_words.specs.Words.{Text}

-- The words after the program's name; none where the arguments are not told, since one of them is not UTF-8.
abbrev pub words_of : {E : Type 0} → Result (IntoIter (String Global) Global) E → List Text
words_of (Ok args) = drop 1 (map string_bytes (into_iter_items args))
words_of (Err error) = []
