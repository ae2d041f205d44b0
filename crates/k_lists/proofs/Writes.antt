-- What a write to the links changes.
use Rattle.std.proofs.Common.{◌≡◌, ◌≢◌, ◌<◌, ℕ, zero, suc, refl, sym, ap, ◌∙◌, List, length, get_or, set}
use Rattle.std.proofs.lemmas.List.{get_or-set_same, get_or-set_other, length-set}
use Rattle.std.proofs.Math.ListN.{get_or-map}
use Rattle.std.proofs.Math.Seq.{map-set_same}
use Rattle.k_lists.specs.declared.lists.Links.{Links}
use Rattle.k_lists.specs.Linked.{blank, at, with_prev, with_next, with_head}

-- what is written can't be told from what was there
pub set_stays : (f : Links → ℕ) (links : List Links) (i : ℕ) (y : Links) (j : ℕ) → f y ≡ f (at links i) → f (at (set links i y) j) ≡ f (at links j)
set_stays f links i y j same =
    sym (get_or-map f (set links i y) j blank) ∙ ap (λ xs. get_or xs j (f blank)) (map-set_same f links i y blank same) ∙ get_or-map f links j blank

-- what a number gets, and the others keep
pub set_here : (links : List Links) (i : ℕ) (y : Links) → i < length links → at (set links i y) i ≡ y
set_here links i y within = get_or-set_same links i y blank within

pub set_other : (links : List Links) (i : ℕ) (y : Links) (j : ℕ) → j ≢ i → at (set links i y) j ≡ at links j
set_other links i y j differs = get_or-set_other links i j y blank differs

-- a link back
pub prev_length : (links : List Links) (link prev : ℕ) → length (with_prev links link prev) ≡ length links
prev_length links zero prev = refl
prev_length links (suc i) prev = length-set links i (record (at links i) { prev = prev })

pub prev_here : (links : List Links) (link prev i : ℕ) → link ≡ suc i → i < length links → (at (with_prev links link prev) i).prev ≡ prev
prev_here links link prev i leads within =
    ap (λ k. (at (with_prev links k prev) i).prev) leads ∙ ap (λ (y : Links). y.prev) (set_here links i (record (at links i) { prev = prev }) within)

pub prev_other : (links : List Links) (link prev j : ℕ) → link ≢ suc j → (at (with_prev links link prev) j).prev ≡ (at links j).prev
prev_other links zero prev j differs = refl
prev_other links (suc i) prev j differs = ap (λ (y : Links). y.prev) (set_other links i (record (at links i) { prev = prev }) j (λ e. differs (ap suc (sym e))))

pub prev_on : (links : List Links) (link prev j : ℕ) → (at (with_prev links link prev) j).next ≡ (at links j).next
prev_on links zero prev j = refl
prev_on links (suc i) prev j = set_stays (λ (y : Links). y.next) links i (record (at links i) { prev = prev }) j refl

-- a link on
pub next_length : (links : List Links) (link next : ℕ) → length (with_next links link next) ≡ length links
next_length links zero next = refl
next_length links (suc i) next = length-set links i (record (at links i) { next = next })

pub next_here : (links : List Links) (link next i : ℕ) → link ≡ suc i → i < length links → (at (with_next links link next) i).next ≡ next
next_here links link next i leads within =
    ap (λ k. (at (with_next links k next) i).next) leads ∙ ap (λ (y : Links). y.next) (set_here links i (record (at links i) { next = next }) within)

pub next_other : (links : List Links) (link next j : ℕ) → link ≢ suc j → (at (with_next links link next) j).next ≡ (at links j).next
next_other links zero next j differs = refl
next_other links (suc i) next j differs = ap (λ (y : Links). y.next) (set_other links i (record (at links i) { next = next }) j (λ e. differs (ap suc (sym e))))

pub next_back : (links : List Links) (link next j : ℕ) → (at (with_next links link next) j).prev ≡ (at links j).prev
next_back links zero next j = refl
next_back links (suc i) next j = set_stays (λ (y : Links). y.prev) links i (record (at links i) { next = next }) j refl

-- the head of a list
pub head_length : (heads : List ℕ) (list link next : ℕ) → length (with_head heads list link next) ≡ length heads
head_length heads list zero next = length-set heads list next
head_length heads list (suc i) next = refl

pub head_other : (heads : List ℕ) (list link next a : ℕ) → a ≢ list → get_or (with_head heads list link next) a 0 ≡ get_or heads a 0
head_other heads list zero next a differs = get_or-set_other heads list a next 0 differs
head_other heads list (suc i) next a differs = refl
