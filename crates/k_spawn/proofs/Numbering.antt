-- The number of a name in two lists, one behind the other.
use Rattle.std.proofs.Common.{◌≡◌, ◌∙◌, ℕ, ◌+◌, Bool, true, false, cond, ◌||◌, List, ◌++◌, length, Option, Some, None, refl, sym, ap}
use Rattle.k_types.specs.declared.names.Pid.{Pid}
use Rattle.k_trace.specs.Words.{Text}
use Rattle.k_trace.specs.Names.{declares, number_of, numbered}
use Rattle.k_words.proofs.Numbered.{number_first, number_behind, declares_append}

-- the process of that name among names
abbrev pub pid_in : List Text → Text → Option Pid
pid_in names w = cond (declares names w) (Some (record { 0 = number_of names w })) None

abbrev found : Bool → ℕ → Option Pid
found b n = cond b (Some (record { 0 = n })) None

pub in_first : (xs ys : List Text) (w : Text) (pid : Pid) → Some pid ≡ pid_in xs w → Some pid ≡ pid_in (xs ++ ys) w
in_first xs ys w pid named = by_test (declares xs w) refl
  where
    by_test : (b : Bool) → declares xs w ≡ b → Some pid ≡ pid_in (xs ++ ys) w
    by_test true e =
        named ∙ ap (λ b. found b (number_of xs w)) e
        ∙ ap (found true) (sym (number_first xs ys w e))
        ∙ ap (λ b. found b (number_of (xs ++ ys) w)) (sym (declares_append xs ys w ∙ ap (λ b. b || declares ys w) e))
    by_test false e = absurd (let none = named ∙ ap (λ b. found b (number_of xs w)) e in cc)

pub in_second : (xs ys : List Text) (w : Text) (pid : Pid) (place : ℕ) → None ≡ pid_in xs w → Some place ≡ numbered ys w → pid.0 ≡ length xs + place → Some pid ≡ pid_in (xs ++ ys) w
in_second xs ys w pid place none named is = by_tests (declares xs w) (declares ys w) refl refl
  where
    by_tests : (a b : Bool) → declares xs w ≡ a → declares ys w ≡ b → Some pid ≡ pid_in (xs ++ ys) w
    by_tests true b e f = absurd (let some = none ∙ ap (λ x. found x (number_of xs w)) e in cc)
    by_tests false true e f =
        let place_is : Some place ≡ Some (number_of ys w) = named ∙ ap (λ x. cond x (Some (number_of ys w)) None) f in
        let same : place ≡ number_of ys w = cc in
        ap (λ n. found true n) (is ∙ ap (λ n. length xs + n) same ∙ sym (number_behind xs ys w e))
        ∙ ap (λ x. found x (number_of (xs ++ ys) w)) (sym (declares_append xs ys w ∙ ap (λ x. x || declares ys w) e ∙ f))
    by_tests false false e f = absurd (let nobody : Some place ≡ None = named ∙ ap (λ x. cond x (Some (number_of ys w)) None) f in cc)

pub in_neither : (xs ys : List Text) (w : Text) → None ≡ pid_in xs w → None ≡ numbered ys w → None ≡ pid_in (xs ++ ys) w
in_neither xs ys w none nobody = by_tests (declares xs w) (declares ys w) refl refl
  where
    by_tests : (a b : Bool) → declares xs w ≡ a → declares ys w ≡ b → None ≡ pid_in (xs ++ ys) w
    by_tests true b e f = absurd (let some = none ∙ ap (λ x. found x (number_of xs w)) e in cc)
    by_tests false true e f = absurd (let some : None ≡ Some (number_of ys w) = nobody ∙ ap (λ x. cond x (Some (number_of ys w)) None) f in cc)
    by_tests false false e f = ap (λ x. found x (number_of (xs ++ ys) w)) (sym (declares_append xs ys w ∙ ap (λ x. x || declares ys w) e ∙ f))
