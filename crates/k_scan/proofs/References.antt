-- References of an object that is found by its name.
use Rattle.std.proofs.Common.{◌≡◌, ℕ, ◌<◌, ◌||◌, ◌&&◌, cond, Bool, true, false, refl, sym, ap, ◌∙◌, inl, inr, List, [], ◌∷◌, get_or, length, map, Option, Some}
use Rattle.std.specs.List.{list_any}
use Rattle.std.proofs.lemmas.Bool.{or_cases}
use Rattle.k_types.specs.declared.names.Name.{Name}
use Rattle.k_types.specs.Names.{name_eq, name_lt}
use Rattle.k_types.specs.State.{Object, object_at, refers, refers_in}
use Rattle.k_types.specs.Sound.{IsOrdered}
use Rattle.k_types.proofs.NameTests.{name_eq-true, name_lt_irrefl}
use Rattle.k_types.proofs.Objects.{refers_in_has}
use Rattle.k_state.proofs.Placed.{found_at}
use Rattle.k_types.proofs.Ordered.{ordered_tail, ordered_later}

same_object : {x y : Object} → ◌≡◌ {A = Option Object} (Some x) (Some y) → x ≡ y
same_object e = cc

-- among objects in order only the found one has the name
pub refers_only : (xs : List Object) (a b : Name) (o : Object) → IsOrdered xs → object_at xs a ≡ Some o → refers_in xs a b ≡ true → refers o b ≡ true
refers_only [] a b o ordered found r = absurd (cc found)
refers_only (x ∷ xs) a b o ordered found r =
    elim (name_eq x.name a) as (λ t. name_eq x.name a ≡ t → cond t (Some x) (object_at xs a) ≡ Some o → ((t && refers x b) || refers_in xs a b) ≡ true → refers o b ≡ true) [
      | true ↦ λ same is t.
          elim (or_cases (refers x b) (refers_in xs a b) t) [
            | inl here ↦ ap (λ y. refers y b) (sym (same_object is)) ∙ here
            | inr there ↦
                absurd (name_lt_irrefl x.name (ap (name_lt x.name) (name_eq-true x.name a same) ∙ ordered_later x.name xs a ordered (refers_in_has xs a b there)))
          ]
      | false ↦ λ same is t. refers_only xs a b o (ordered_tail x.name xs ordered) is t
    ] refl found r

-- a test of what the values of a list stand for
pub any_mapped : {A B : Type 0} (f : A → B) (p : B → Bool) (xs : List A) → list_any p (map f xs) ≡ list_any (λ x. p (f x)) xs
any_mapped f p [] = refl
any_mapped f p (x ∷ xs) = ap (λ b. p (f x) || b) (any_mapped f p xs)

-- the object that stands at a place is the one that is found, where it has the name
pub found_there : (n : Name) (xs : List Object) (k : ℕ) (o : Object) → IsOrdered xs → k < length xs → o ≡ get_or xs k o → name_eq o.name n ≡ true →
    ◌≡◌ {A = Option Object} (Some o) (object_at xs n)
found_there n xs k o ordered inside is named =
    sym (found_at n xs k o ordered inside (ap (λ (y : Object). name_eq y.name n) (sym is) ∙ named) ∙ ap (λ (y : Object). Some y) (sym is))
