-- References to objects that a bound covers.
use Rattle.std.proofs.Common.{◌≡◌, ℕ, suc, ◌+◌, ◌<◌, Bool, true, refl, sym, ap, ◌∙◌, inl, inr, List, [], ◌∷◌, get_or, slice_get, Some, arith}
use Rattle.std.specs.List.{list_any}
use Rattle.std.proofs.lemmas.Bool.{cases_eq, false≢true, or_cases}
use Rattle.std.proofs.lemmas.Option.{slice_get_within}
use Rattle.k_exit.proofs.BaseLists.{some_one}
use Rattle.k_exit.proofs.NameTests.{name_eq-true}
use Rattle.k_laws.specs.k_types.declared.names.Name.{Name}
use Rattle.k_laws.specs.k_types.State.{Content, Refers, content_leads_to}
use Rattle.k_space.specs.declared.body.Stored.{Stored}
use Rattle.k_space.specs.declared.body.Stored.TheVariants.{Null}
use Rattle.k_space.specs.declared.bound.Bound.{Bound}
use Rattle.k_space.specs.Bounds.{is_covered}
use Rattle.k_space.specs.Objects.{content_of}
use Rattle.k_space.specs.Visiting.{AreHeld}
use Rattle.k_mark.specs.Marking.{fields_lead_to}

-- the first of a list that passes a test
any_at : (p : Content → Bool) (xs : List Content) → list_any p xs ≡ true → (i : ℕ) × (x : Content) × (slice_get xs i ≡ Some x) × (p x ≡ true)
any_at p [] e = absurd (false≢true e)
any_at p (x ∷ xs) e =
    elim (or_cases (p x) (list_any p xs) e) [
      | inl here ↦ (0, x, refl, here)
      | inr later ↦ let a = any_at p xs later in (suc a.0, a.1, a.2, a.3)
    ]

-- so many fields of the list refer to what the bound covers
abbrev pub AreLower : List Stored → ℕ → Bound → Type 0
AreLower held count next = (k : ℕ) → k < count → (n : Name) → content_leads_to n (content_of (get_or held k Null)) ≡ true → is_covered next n ≡ true

pub none_lower : (held : List Stored) (next : Bound) → AreLower held 0 next
none_lower held next k low n e = absurd (omega (arith, low))

pub one_lower : (held : List Stored) (count : ℕ) (next : Bound) → AreLower held count next → ((n : Name) → content_leads_to n (content_of (get_or held count Null)) ≡ true → is_covered next n ≡ true) → AreLower held (count + 1) next
one_lower held count next was here k low n e =
    elim (cases_eq k count) [
      | inl same ↦ here n (ap (λ i. content_leads_to n (content_of (get_or held i Null))) (sym same) ∙ e)
      | inr differs ↦ was k (omega (arith, low, differs)) n e
    ]

-- all of the object's fields do
pub all_lower : (held : List Stored) (count : ℕ) (next : Bound) → AreLower held count next → (fields : List Content) (n : Name) → AreHeld fields count held → fields_lead_to fields n ≡ true → is_covered next n ≡ true
all_lower held count next lower fields n are e =
    let a = any_at (content_leads_to n) fields e in
    let within : a.0 < count = omega (arith, slice_get_within fields a.0 a.1 a.2, are.counted) in
    let same : a.1 ≡ content_of (get_or held a.0 Null) = some_one (sym a.2 ∙ are.each a.0 within) in
    lower a.0 within n (ap (content_leads_to n) (sym same) ∙ a.3)

-- a reference leads to the object of its name
pub leads_there : (n m : Name) → content_leads_to n (Refers (Some m)) ≡ true → n ≡ m
leads_there n m e = sym (name_eq-true m n e)
