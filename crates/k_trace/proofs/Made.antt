-- Names that are made from lists of them.
use Rattle.std.proofs.Common.{◌≡◌, ◌∙◌, ℕ, ◌+◌, ◌<◌, false, get_or, List, [], ◌∷◌, ◌++◌, length, map, drop, sym, ap, subst, append_assoc}
use Rattle.std.proofs.lemmas.List.{at_drop_more, get_or-map}
use Rattle.std.specs.Global.{Vec}
use Rattle.k_words.specs.Words.{Text, word_at}
use Rattle.k_words.specs.Names.{declares}
use Rattle.k_trace.specs.Numbered.{AllShort}
use Rattle.k_trace.specs.Rules.{AreNames}
use Rattle.k_trace.proofs.Pushed.{fresh_at}
use Rattle.k_trace.proofs.Short.{name_is_short}

-- no name that is one is long
pub names_are_short : (names : List Text) → AreNames names → AllShort names
names_are_short names all i inside = name_is_short (word_at names i) (all.each i inside)

-- the text of a name at its place
pub word_here : (names : List (Vec ℕ)) (n : ℕ) (v : Vec ℕ) → n < length names → v ≡ get_or names n v → word_at (map (λ (name : Vec ℕ). name.items) names) n ≡ v.items
word_here names n v inside is = get_or-map (λ (name : Vec ℕ). name.items) names n v [] inside ∙ ap (λ (name : Vec ℕ). name.items) (sym is)

-- copies of names are as short
pub copies_are_short : (names copies : List Text) → copies ≡ names → AreNames names → AllShort copies
copies_are_short names copies same all = subst AllShort (sym same) (names_are_short names all)

module _ (names list : List Text) (n : ℕ) (inside : n < length names) (made : list ++ drop n names ≡ names) where
  here : list ++ word_at names n ∷ drop (n + 1) names ≡ names
  here = sym (at_drop_more (λ ls. list ++ ls) names n [] inside) ∙ made

  -- the next name was not declared
  pub next_is_new : AreNames names → declares list (word_at names n) ≡ false
  next_is_new all = fresh_at list (word_at names n) (drop (n + 1) names) (subst AreNames (sym here) all)

  -- with the next name
  pub next_made : (list ++ word_at names n ∷ []) ++ drop (n + 1) names ≡ names
  next_made = append_assoc list (word_at names n ∷ []) (drop (n + 1) names) ∙ here
