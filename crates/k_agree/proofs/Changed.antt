-- What the changes of a cell's value show.
use Rattle.std.proofs.Common.{◌≡◌, ◌||◌, ◌<◌, ◌==◌, ◌+◌, ℕ, Bool, true, false, cond, refl, sym, ap, subst, ◌∙◌, List, [], ◌∷◌, ◌++◌, length, get_or, set, Option, Some, None, eqb-true, eq-eqb, get_or-set_same, get_or-set_other, IsTrue}
use Rattle.std.proofs.Math.Path.{fun_ext}
use Rattle.std.proofs.lemmas.Bool.{false≢true, or_right}
use Rattle.k_types.specs.declared.names.Field.{Field}
use Rattle.k_types.specs.declared.names.Name.{Name}
use Rattle.k_types.specs.declared.names.TypeId.{TypeId}
use Rattle.k_types.specs.Agree.{CellValue}
use Rattle.k_types.specs.Names.{name_among, name_eq}
use Rattle.k_tie.proofs.NameTests.{name_eq-true}
use Rattle.k_laws.specs.CellChanges.{given, with_created, with_exit_to}
use Rattle.k_agree.specs.Shown.{idle_part, value_with_exit, value_with_new}

set_at : {A : Type 0} (xs : List A) (i k : ℕ) (y d : A) → i < length xs → get_or (set xs i y) k d ≡ cond (k == i) y (get_or xs k d)
set_at xs i k y d inside = go (k == i) refl
  where
    go : (t : Bool) → (k == i) ≡ t → get_or (set xs i y) k d ≡ cond t y (get_or xs k d)
    go true e = subst (λ j. get_or (set xs i y) j d ≡ y) (sym (eqb-true k i e)) (get_or-set_same xs i y d inside)
    go false e = get_or-set_other xs i k y d (λ same. false≢true (sym e ∙ eq-eqb k i same))

pub new_shown : (v : CellValue) (seg : ℕ) (ty : TypeId) (kinds : List Field) → seg < length v.made → idle_part (value_with_new seg ty kinds v) ≡ with_created seg ty kinds (idle_part v)
new_shown v seg ty kinds inside =
    ap (λ (made : ℕ → Option ℕ). record (with_created seg ty kinds (idle_part v)) { made = made })
    (fun_ext (λ at. set_at v.made seg at (Some (given (get_or v.made seg None) + 1)) None inside))

or_pushed : (a b c : Bool) → (a || (b || c)) ≡ ((a || b) || c)
or_pushed true b c = refl
or_pushed false b c = refl

or_last : (a : Bool) → (a || false) ≡ a
or_last true = refl
or_last false = refl

pub among_pushed : (names : List Name) (y n : Name) → name_among n (names ++ y ∷ []) ≡ (name_among n names || name_eq y n)
among_pushed [] y n = or_last (name_eq y n)
among_pushed (m ∷ names) y n = ap (λ t. name_eq m n || t) (among_pushed names y n) ∙ or_pushed (name_eq m n) (name_among n names) (name_eq y n)

among_added : (names : List Name) (y n : Name) → name_among n (cond (name_among y names) names (names ++ y ∷ [])) ≡ (name_among n names || name_eq y n)
among_added names y n = go (name_among y names) refl
  where
    there : (t : Bool) → name_eq y n ≡ t → IsTrue (name_among y names) → name_among n names ≡ (name_among n names || t)
    there true e is =
        let same : name_among n names ≡ true = subst (λ m. name_among m names ≡ true) (name_eq-true y n e) is in
        same ∙ sym (or_right (name_among n names) true refl)
    there false e is = sym (or_last (name_among n names))

    go : (t : Bool) → name_among y names ≡ t → name_among n (cond t names (names ++ y ∷ [])) ≡ (name_among n names || name_eq y n)
    go true is = there (name_eq y n) refl is
    go false is = among_pushed names y n

pub exit_shown : (v : CellValue) (y : Name) → idle_part (value_with_exit y v) ≡ with_exit_to y (idle_part v)
exit_shown v y = ap (λ (exits : Name → Bool). record (idle_part v) { exits = exits }) (fun_ext (λ n. among_added v.exits y n))
