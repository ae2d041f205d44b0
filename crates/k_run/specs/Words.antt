-- The words of the program that runs traces alone.
use Rattle.std.specs.Prelude.{◌≡◌, List, [], ◌∷◌, ◌++◌, Option, Some, None, if◌then◌else◌, codes}
use Rattle.std.specs.Str.{bytes_eq}
use Rattle.k_words.specs.Words.{Text}
use Rattle.k_run.specs.declared.words.Order.{Order}
use Rattle.k_run.specs.declared.words.Order.TheVariants.{OnThreads, OfFile}

-- The order that the word asks for.
abbrev pub order_named : Text → Option Order
order_named word = if bytes_eq word (codes "run") then Some OnThreads else if bytes_eq word (codes "replay") then Some OfFile else None

-- The order that the words ask for, which are those after the program's name: one word that names it.
abbrev pub order_of : List Text → Option Order
order_of [] = None
order_of (word ∷ []) = order_named word
order_of (word ∷ next ∷ words) = None

-- The words ask for no order.
abbrev pub IsNoOrder : List Text → Type 0
IsNoOrder words = order_of words ≡ None

-- What is written where the words ask for no order.
unfoldable pub usage_text : Text
usage_text = codes "usage: kaffe_run run | replay" ++ 10 ∷ []
