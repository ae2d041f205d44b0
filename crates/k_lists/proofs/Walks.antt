-- What the links of a list say.
use Rattle.std.proofs.Common.{◌≡◌, ◌≢◌, ◌==◌, ◌≤◌, ◌⊎◌, ◌-◌, ℕ, zero, suc, true, cond, refl, sym, ap, subst, ◌∙◌, inl, inr, List, [], ◌∷◌, length, slice_get, Option, Some, None, eq-eqb, arith}
use Rattle.std.specs.Option.{SomeIff}
use Rattle.std.proofs.lemmas.Bool.{cases_eq, cond-true, cond-false, ne_eqb}
use Rattle.k_lists.specs.declared.lists.Links.{Links}
use Rattle.k_lists.specs.Lists.{is_in, without}
use Rattle.k_lists.specs.Linked.{at, walk, IsList}
use Rattle.k_lists.proofs.Members.{in_head, in_tail, in_cases, in_differs, without_same, without_other, AreDistinct}

-- the numbers on the way, where so many are let through
walk_none : (links : List Links) (n : ℕ) → walk links n 0 ≡ []
unfolding walk
walk_none links zero = refl
walk_none links (suc n) = refl

walk_some : (links : List Links) (n i : ℕ) → walk links (suc n) (suc i) ≡ i ∷ walk links n (at links i).next
unfolding walk
walk_some links n i = refl

pub walk_is : (links : List Links) (n prev link : ℕ) (xs : List ℕ) → IsList links prev link xs → length xs ≤ n → walk links n link ≡ xs
walk_is links n prev link [] list long = ap (walk links n) list ∙ walk_none links n
walk_is links zero prev link (i ∷ xs) list long = absurd (omega (arith, long))
walk_is links (suc n) prev link (i ∷ xs) list long =
    ap (walk links (suc n)) list.0 ∙ walk_some links n i ∙ ap (λ ys. i ∷ ys) (walk_is links n (suc i) (at links i).next xs list.2 (omega (arith, long)))

-- both links of a number are the same
abbrev pub IsSameAt : List Links → List Links → ℕ → Type 0
IsSameAt links new i = ((at new i).prev ≡ (at links i).prev) × ((at new i).next ≡ (at links i).next)

-- a list whose members have the links that they had
pub list_stays : (links new : List Links) (prev link : ℕ) (xs : List ℕ) → ((i : ℕ) → is_in xs i ≡ true → IsSameAt links new i) → IsList links prev link xs → IsList new prev link xs
list_stays links new prev link [] same list = list
list_stays links new prev link (i ∷ xs) same list =
    let here = same i (in_head i xs) in (
      list.0,
      here.0 ∙ list.1,
      subst (λ next. IsList new (suc i) next xs) (sym here.1) (list_stays links new (suc i) (at links i).next xs (λ j within. same j (in_tail i xs j within)) list.2),
    )

-- what leads to a member: what leads to the list, or another member
pub leads_to : (links : List Links) (prev link : ℕ) (xs : List ℕ) (i : ℕ) → IsList links prev link xs → is_in xs i ≡ true →
    (((at links i).prev ≡ prev) × (link ≡ suc i)) ⊎ ((j : ℕ) × (is_in xs j ≡ true) × ((at links i).prev ≡ suc j) × ((at links j).next ≡ suc i))
leads_to links prev link [] i list within = cc
leads_to links prev link (j ∷ xs) i list within =
    elim (in_cases j xs i within) [
      | inl same ↦ inl (subst (λ k. ((at links k).prev ≡ prev) × (link ≡ suc k)) same (list.1, list.0))
      | inr more ↦ elim (leads_to links (suc j) (at links j).next xs i list.2 more) [
        | inl first ↦ inr (j, in_head j xs, first.0, first.1)
        | inr later ↦ inr (later.0, in_tail j xs later.0 later.1, later.2, later.3)
      ]
    ]

-- to what a member leads: to none, or to another member
pub leads_on : (links : List Links) (prev link : ℕ) (xs : List ℕ) (i : ℕ) → IsList links prev link xs → is_in xs i ≡ true →
    ((at links i).next ≡ 0) ⊎ ((j : ℕ) × (is_in xs j ≡ true) × ((at links i).next ≡ suc j) × ((at links j).prev ≡ suc i))
leads_on links prev link [] i list within = cc
leads_on links prev link (j ∷ xs) i list within =
    elim (in_cases j xs i within) [
      | inl same ↦ subst (λ k. ((at links k).next ≡ 0) ⊎ ((m : ℕ) × (is_in (j ∷ xs) m ≡ true) × ((at links k).next ≡ suc m) × ((at links m).prev ≡ suc k))) same (first xs list.2)
      | inr more ↦ elim (leads_on links (suc j) (at links j).next xs i list.2 more) [
        | inl end ↦ inl end
        | inr later ↦ inr (later.0, in_tail j xs later.0 later.1, later.2, later.3)
      ]
    ]
  where
    first : (ys : List ℕ) → IsList links (suc j) (at links j).next ys → ((at links j).next ≡ 0) ⊎ ((m : ℕ) × (is_in (j ∷ ys) m ≡ true) × ((at links j).next ≡ suc m) × ((at links m).prev ≡ suc j))
    first [] list = inl list
    first (m ∷ ys) list = inr (m, in_tail j (m ∷ ys) m (in_head m ys), list.0, list.1)

-- links of members lead to members and back
pub head_in : (links : List Links) (prev link : ℕ) (xs : List ℕ) (i : ℕ) → IsList links prev link xs → link ≡ suc i → (is_in xs i ≡ true) × ((at links i).prev ≡ prev)
head_in links prev link [] i list leads = absurd (omega (arith, list, leads))
head_in links prev link (j ∷ xs) i list leads =
    let same : j ≡ i = omega (arith, list.0, leads) in
    (subst (λ k. is_in (j ∷ xs) k ≡ true) same (in_head j xs), ap (λ k. (at links k).prev) (sym same) ∙ list.1)

pub next_in : (links : List Links) (prev link : ℕ) (xs : List ℕ) (i j : ℕ) → IsList links prev link xs → is_in xs i ≡ true → (at links i).next ≡ suc j →
    (is_in xs j ≡ true) × ((at links j).prev ≡ suc i)
next_in links prev link xs i j list within leads = elim (leads_on links prev link xs i list within) [
  | inl end ↦ absurd (omega (arith, end, leads))
  | inr later ↦
      let same : later.0 ≡ j = omega (arith, later.2, leads) in
      (subst (λ k. is_in xs k ≡ true) same later.1, subst (λ k. (at links k).prev ≡ suc i) same later.3)
]

pub prev_in : (links : List Links) (link : ℕ) (xs : List ℕ) (i j : ℕ) → IsList links 0 link xs → is_in xs i ≡ true → (at links i).prev ≡ suc j →
    (is_in xs j ≡ true) × ((at links j).next ≡ suc i)
prev_in links link xs i j list within leads = elim (leads_to links 0 link xs i list within) [
  | inl first ↦ absurd (omega (arith, first.0, leads))
  | inr later ↦
      let same : later.0 ≡ j = omega (arith, later.2, leads) in
      (subst (λ k. is_in xs k ≡ true) same later.1, subst (λ k. (at links k).next ≡ suc i) same later.3)
]

-- the number that a link leads to, if it leads to one
abbrev pub led_to : ℕ → Option ℕ
led_to zero = None
led_to (suc i) = Some i

pub led_from : (r : Option ℕ) (link : ℕ) → SomeIff r (1 ≤ link) (link - 1) → r ≡ led_to link
led_from None zero e = refl
led_from None (suc i) e = absurd (e (omega arith))
led_from (Some j) zero e = absurd (omega (arith, e.0))
led_from (Some j) (suc i) e = let same : j ≡ i = omega (arith, e.1) in ap Some same

pub first_is : (links : List Links) (prev link : ℕ) (xs : List ℕ) → IsList links prev link xs → led_to link ≡ slice_get xs 0
first_is links prev link [] list = ap led_to list
first_is links prev link (i ∷ xs) list = ap led_to list.0

pub next_is : (links : List Links) (prev link : ℕ) (xs : List ℕ) (place i : ℕ) → IsList links prev link xs → slice_get xs place ≡ Some i → led_to (at links i).next ≡ slice_get xs (suc place)
next_is links prev link [] place i list here = cc
next_is links prev link (j ∷ xs) zero i list here =
    let same : j ≡ i = cc in
    subst (λ k. led_to (at links k).next ≡ slice_get xs 0) same (first_is links (suc j) (at links j).next xs list.2)
next_is links prev link (j ∷ xs) (suc place) i list here = next_is links (suc j) (at links j).next xs place i list.2 here

-- a list with one more number at the front
pub list_pushed : (links new : List Links) (i link : ℕ) (xs : List ℕ) → IsList links 0 link xs → AreDistinct xs →
    (at new i).prev ≡ 0 → (at new i).next ≡ link →
    ((j : ℕ) → is_in xs j ≡ true → link ≡ suc j → (at new j).prev ≡ suc i) →
    ((j : ℕ) → is_in xs j ≡ true → link ≢ suc j → (at new j).prev ≡ (at links j).prev) →
    ((j : ℕ) → is_in xs j ≡ true → (at new j).next ≡ (at links j).next) →
    IsList new 0 (suc i) (i ∷ xs)
list_pushed links new i link [] list d first leads back others on = (refl, first, leads ∙ list)
list_pushed links new i link (j ∷ xs) list d first leads back others on = (
  refl,
  first,
  (
    leads ∙ list.0,
    back j (in_head j xs) list.0,
    subst (λ next. IsList new (suc j) next xs) (sym (on j (in_head j xs)))
        (list_stays links new (suc j) (at links j).next xs
        (λ k within. (others k (in_tail j xs k within) (λ e. let same : k ≡ j = omega (arith, list.0, e) in in_differs xs j k d.0 within same), on k (in_tail j xs k within))) list.2),
  ),
)

-- where a link leads once the number i is taken out: past it
abbrev pub past : ℕ → ℕ → ℕ → ℕ
past i other link = cond (link == suc i) other link

pub past_i : (i other link : ℕ) → link ≡ suc i → past i other link ≡ other
past_i i other link same = cond-true (link == suc i) other link (eq-eqb link (suc i) same)

pub past_others : (i other link : ℕ) → link ≢ suc i → past i other link ≡ link
past_others i other link differs = cond-false (link == suc i) other link (ne_eqb link (suc i) differs)

past_itself : (i link : ℕ) → past i link link ≡ link
past_itself i link = elim (cases_eq link (suc i)) [ inl same ↦ past_i i link link same | inr differs ↦ past_others i link link differs ]

-- a list with a member taken out
pub list_removed : (links new : List Links) (i prev link : ℕ) (xs : List ℕ) → IsList links prev link xs →
    ((j : ℕ) → is_in xs j ≡ true → j ≢ i → (at new j).prev ≡ past i (at links i).prev (at links j).prev) →
    ((j : ℕ) → is_in xs j ≡ true → j ≢ i → (at new j).next ≡ past i (at links i).next (at links j).next) →
    IsList new (past i (at links i).prev prev) (past i (at links i).next link) (without i xs)
list_removed links new i prev link [] list back on = ap (past i (at links i).next) list ∙ past_others i (at links i).next 0 (λ e. omega (arith, e))
list_removed links new i prev link (j ∷ xs) list back on =
    by_case (cases_eq j i) (list_removed links new i (suc j) (at links j).next xs list.2 (λ k within. back k (in_tail j xs k within)) (λ k within. on k (in_tail j xs k within)))
  where
    back_past : j ≡ i → past i (at links i).prev (suc j) ≡ past i (at links i).prev prev
    back_past same =
        past_i i (at links i).prev (suc j) (ap suc same) ∙ sym (past_itself i (at links i).prev)
        ∙ ap (past i (at links i).prev) (ap (λ k. (at links k).prev) (sym same) ∙ list.1)

    on_past : j ≡ i → past i (at links i).next (at links j).next ≡ past i (at links i).next link
    on_past same =
        ap (λ k. past i (at links i).next (at links k).next) same ∙ past_itself i (at links i).next
        ∙ sym (past_i i (at links i).next link (list.0 ∙ ap suc same))

    by_case : (j ≡ i) ⊎ (j ≢ i) → IsList new (past i (at links i).prev (suc j)) (past i (at links i).next (at links j).next) (without i xs) →
        IsList new (past i (at links i).prev prev) (past i (at links i).next link) (without i (j ∷ xs))
    by_case (inl same) rest =
        subst (λ ys. IsList new (past i (at links i).prev prev) (past i (at links i).next link) ys) (sym (without_same j i xs same))
        (subst (λ a. IsList new a (past i (at links i).next link) (without i xs)) (back_past same)
        (subst (λ b. IsList new (past i (at links i).prev (suc j)) b (without i xs)) (on_past same) rest))
    by_case (inr differs) rest =
        subst (λ ys. IsList new (past i (at links i).prev prev) (past i (at links i).next link) ys) (sym (without_other j i xs differs)) (
          past_others i (at links i).next link (λ e. differs (let same : j ≡ i = omega (arith, list.0, e) in same)) ∙ list.0,
          back j (in_head j xs) differs ∙ ap (past i (at links i).prev) list.1,
          subst (λ next. IsList new (suc j) next (without i xs)) (sym (on j (in_head j xs) differs))
              (subst (λ a. IsList new a (past i (at links i).next (at links j).next) (without i xs))
              (past_others i (at links i).prev (suc j) (λ e. differs (let same : j ≡ i = omega (arith, e) in same))) rest),
        )
