-- The first point by its test.
use Rattle.std.proofs.Common.{◌≡◌, ◌↔◌, ℕ, zero, suc, ◌≤◌, true, List, [], ◌∷◌, get_or, subst, le-leb, leb-true, arith}
use Rattle.std.specs.List.{list_all}
use Rattle.std.proofs.lemmas.Bool.{or_left, or_right}
use Rattle.k_types.specs.declared.names.Name.{Name}
use Rattle.k_types.specs.Names.{name_eq}
use Rattle.k_types.specs.Sound.{AreNumbered}
use Rattle.k_types.specs.State.{Object, has}
use Rattle.k_types.proofs.NameTests.{name_eq-true, name_eq_refl}
use Rattle.k_state.specs.Places.{IsNamedAt}
use Rattle.k_audit.specs.Tests.{is_numbered}
use Rattle.k_audit.proofs.Means.{all_say, said_of_all}

-- the serial of the name is one that its segment has given
abbrev given : List ℕ → Name → Type 0
given made n = n.serial.0 ≤ get_or made n.seg.0 0

pub numbered_law : (objects : List Object) (made : List ℕ) → (list_all (is_numbered made) objects ≡ true) ↔ AreNumbered objects made
numbered_law objects made = (
  λ all n there. all_say {A = Object} {N = Name} (λ m o. name_eq o.name m) (given made) (is_numbered made)
      (λ o m low same. subst (given made) (name_eq-true o.name m same) (leb-true o.name.serial.0 (get_or made o.name.seg.0 0) low)) objects all n there,
  λ holds. said_of_all {A = Object} {N = Name} (λ m o. name_eq o.name m) (given made) (is_numbered made)
      (λ o each. le-leb o.name.serial.0 (get_or made o.name.seg.0 0) (each o.name (name_eq_refl o.name))) objects holds,
)

-- an object of the name at an index is there
pub named_there : (objects : List Object) (k : ℕ) (n : Name) → IsNamedAt objects k n → has objects n ≡ true
named_there [] k n named = absurd (let inside = named.0 in omega (arith, inside))
named_there (x ∷ objects) zero n named = or_left (name_eq x.name n) (has objects n) (named.1 x)
named_there (x ∷ objects) (suc k) n named = or_right (name_eq x.name n) (has objects n) (named_there objects k n (let inside = named.0 in omega (arith, inside), named.1))
