-- What a list keeps by marks.
use Rattle.std.proofs.Common.{◌≡◌, ℕ, ◌+◌, ◌<◌, ◌≤◌, inl, inr, Bool, true, false, cond, refl, ap, sym, ◌∙◌, List, [], ◌∷◌, ◌++◌, length, map, filter, filter_map, take, drop, get_or, set, Option, Some, None, arith, append_assoc, get_or-set_same}
use Rattle.std.proofs.lemmas.Bool.{cases_eq}
use Rattle.std.proofs.lemmas.List.{append-nil, drop_more, take-set-le, take_more_set, drop-set-lt, length-set}
use Rattle.std.proofs.lemmas.List.Edits.{swap_is}
use Rattle.k_laws.proofs.Numbered.{drop_all}
use Rattle.std.specs.List.{AllByRecursion, swap}
use Rattle.k_types.specs.declared.names.Heap.{Heap}
use Rattle.k_types.specs.State.{ExitItem}
use Rattle.k_state.specs.Marks.{marked, staying_items}

-- marks that say what passes
pub marked_filter : {A : Type 0} (p : A → Bool) (xs : List A) → marked (map p xs) xs ≡ filter p xs
marked_filter p [] = refl
marked_filter p (x ∷ xs) =
    elim (p x) as (λ b. marked (b ∷ map p xs) (x ∷ xs) ≡ cond b (x ∷ filter p xs) (filter p xs)) [
      | true ↦ ap (λ ys. x ∷ ys) (marked_filter p xs)
      | false ↦ marked_filter p xs
    ]

pub marked_passing : {A : Type 0} (p : A → Bool) (marks : List Bool) (xs : List A) → marks ≡ map p xs → marked marks xs ≡ filter p xs
marked_passing p marks xs say = ap (λ ms. marked ms xs) say ∙ marked_filter p xs

pub length_marked : {A : Type 0} (marks : List Bool) (xs : List A) → length (marked marks xs) ≤ length xs
length_marked [] xs = grind arith
length_marked (mark ∷ marks) [] = omega arith
length_marked (true ∷ marks) (x ∷ xs) = omega (arith, length_marked marks xs)
length_marked (false ∷ marks) (x ∷ xs) = omega (arith, length_marked marks xs)

pub all_marked : {A : Type 0} (P : A → Type 0) (marks : List Bool) (xs : List A) → AllByRecursion P xs → AllByRecursion P (marked marks xs)
all_marked P [] xs all = tt
all_marked P (mark ∷ marks) [] all = tt
all_marked P (true ∷ marks) (x ∷ xs) all = (all.0, all_marked P marks xs all.1)
all_marked P (false ∷ marks) (x ∷ xs) all = all_marked P marks xs all.1

module _ {A : Type 0} where
  -- the place k gets what stands at i, and what comes after i stays
  pub swap_front : (xs : List A) (k i : ℕ) (d : A) → k ≤ i → i < length xs → take (k + 1) (swap xs k i) ≡ take k xs ++ get_or xs i d ∷ []
  swap_front xs k i d low inside =
      let v = get_or xs i d in
      let w = get_or xs k d in
      let is : take (k + 1) (swap xs k i) ≡ take (k + 1) (set (set xs k v) i w) = ap (take (k + 1)) (sym (swap_is xs k i d (omega arith) inside)) in
      elim (cases_eq k i) [
        | inl e ↦
            let long : i < length (set xs k v) = omega (arith, length-set xs k v) in
            let at : take (k + 1) (set (set xs k v) i w) ≡ take (i + 1) (set (set xs k v) i w) = ap (λ n. take (n + 1) (set (set xs k v) i w)) e in
            let front : take i (set xs k v) ≡ take k xs = ap (λ n. take n (set xs k v)) (sym e) ∙ take-set-le k xs k v (omega arith) in
            is ∙ at ∙ take_more_set (set xs k v) i w long ∙ ap (λ ys. ys ++ w ∷ []) front ∙ ap (λ n. take k xs ++ get_or xs n d ∷ []) e
        | inr ne ↦ is ∙ take-set-le (k + 1) (set xs k v) i w (omega arith) ∙ take_more_set xs k v (omega arith)
      ]

  pub swap_back : (xs : List A) (k i : ℕ) (d : A) → k ≤ i → i < length xs → drop (i + 1) (swap xs k i) ≡ drop (i + 1) xs
  swap_back xs k i d low inside =
      let v = get_or xs i d in
      ap (drop (i + 1)) (sym (swap_is xs k i d (omega arith) inside))
      ∙ drop-set-lt (i + 1) (set xs k v) i (get_or xs k d) (omega arith)
      ∙ drop-set-lt (i + 1) xs k v (omega arith)

  -- one mark on
  pub kept_yes : (marks : List Bool) (xs all : List A) (k i : ℕ) → k ≤ i → i < length marks → length xs ≡ length marks → get_or marks i false ≡ true →
      take k xs ++ marked (drop i marks) (drop i xs) ≡ all → take (k + 1) (swap xs k i) ++ marked (drop (i + 1) marks) (drop (i + 1) (swap xs k i)) ≡ all
  kept_yes marks [] all k i low inside same says so_far = absurd (omega (arith, same))
  kept_yes marks (y ∷ ys) all k i low inside same says so_far =
      let xs : List A = y ∷ ys in
      let here : drop i marks ≡ true ∷ drop (i + 1) marks = drop_more marks i false inside ∙ ap (λ b. b ∷ drop (i + 1) marks) says in
      let rest = marked (drop (i + 1) marks) (drop (i + 1) xs) in
      let next : marked (drop i marks) (drop i xs) ≡ get_or xs i y ∷ rest
      = ap (λ ms. marked ms (drop i xs)) here ∙ ap (marked (true ∷ drop (i + 1) marks)) (drop_more xs i y (omega arith)) in
      ap (λ zs. zs ++ marked (drop (i + 1) marks) (drop (i + 1) (swap xs k i))) (swap_front xs k i y low (omega arith))
      ∙ ap (λ zs. (take k xs ++ get_or xs i y ∷ []) ++ marked (drop (i + 1) marks) zs) (swap_back xs k i y low (omega arith))
      ∙ append_assoc (take k xs) (get_or xs i y ∷ []) rest
      ∙ ap (λ zs. take k xs ++ zs) (sym next)
      ∙ so_far

  pub kept_no : (marks : List Bool) (xs all : List A) (k i : ℕ) → i < length marks → length xs ≡ length marks → get_or marks i false ≡ false →
      take k xs ++ marked (drop i marks) (drop i xs) ≡ all → take k xs ++ marked (drop (i + 1) marks) (drop (i + 1) xs) ≡ all
  kept_no marks [] all k i inside same says so_far = absurd (omega (arith, same))
  kept_no marks (y ∷ ys) all k i inside same says so_far =
      let xs : List A = y ∷ ys in
      let here : drop i marks ≡ false ∷ drop (i + 1) marks = drop_more marks i false inside ∙ ap (λ b. b ∷ drop (i + 1) marks) says in
      let next : marked (drop i marks) (drop i xs) ≡ marked (drop (i + 1) marks) (drop (i + 1) xs)
      = ap (λ ms. marked ms (drop i xs)) here ∙ ap (marked (false ∷ drop (i + 1) marks)) (drop_more xs i y (omega arith)) in
      ap (λ zs. take k xs ++ zs) (sym next) ∙ so_far

  pub kept_end : (marks : List Bool) (xs all : List A) (k i : ℕ) → length marks ≤ i →
      take k xs ++ marked (drop i marks) (drop i xs) ≡ all → take k xs ≡ all
  kept_end marks xs all k i past so_far =
      sym (append-nil (take k xs))
      ∙ ap (λ ms. take k xs ++ marked ms (drop i xs)) (sym (drop_all marks i past))
      ∙ so_far

-- the same for exit items that are given heaps
pub turned_yes : (heaps : List (Option Heap)) (exits all : List ExitItem) (k i : ℕ) (heap : Heap) (e : ExitItem) → k ≤ i → i < length heaps → length exits ≡ length heaps →
    get_or heaps i None ≡ Some heap → e ≡ get_or exits i e →
    take k exits ++ staying_items (drop i heaps) (drop i exits) ≡ all →
    take (k + 1) (swap (set exits i (record e { heap = heap })) k i) ++ staying_items (drop (i + 1) heaps) (drop (i + 1) (swap (set exits i (record e { heap = heap })) k i)) ≡ all
turned_yes heaps exits all k i heap e low inside same given is so_far =
    let e' : ExitItem = record e { heap = heap } in
    let xs = set exits i e' in
    let long : i < length xs = omega (arith, length-set exits i e', same) in
    let here : drop i heaps ≡ Some heap ∷ drop (i + 1) heaps = drop_more heaps i None inside ∙ ap (λ h. h ∷ drop (i + 1) heaps) given in
    let there : drop i exits ≡ e ∷ drop (i + 1) exits = drop_more exits i e (omega (arith, same)) ∙ ap (λ x. x ∷ drop (i + 1) exits) (sym is) in
    let rest = staying_items (drop (i + 1) heaps) (drop (i + 1) exits) in
    let next : staying_items (drop i heaps) (drop i exits) ≡ e' ∷ rest
    = ap (λ hs. staying_items hs (drop i exits)) here ∙ ap (staying_items (Some heap ∷ drop (i + 1) heaps)) there in
    let front : take (k + 1) (swap xs k i) ≡ take k exits ++ e' ∷ []
    = swap_front xs k i e' low long
    ∙ ap (λ zs. zs ++ get_or xs i e' ∷ []) (take-set-le k exits i e' low)
    ∙ ap (λ z. take k exits ++ z ∷ []) (get_or-set_same exits i e' e' (omega (arith, same))) in
    let back : drop (i + 1) (swap xs k i) ≡ drop (i + 1) exits
    = swap_back xs k i e' low long ∙ drop-set-lt (i + 1) exits i e' (omega arith) in
    ap (λ zs. zs ++ staying_items (drop (i + 1) heaps) (drop (i + 1) (swap xs k i))) front
    ∙ ap (λ zs. (take k exits ++ e' ∷ []) ++ staying_items (drop (i + 1) heaps) zs) back
    ∙ append_assoc (take k exits) (e' ∷ []) rest
    ∙ ap (λ zs. take k exits ++ zs) (sym next)
    ∙ so_far

pub turned_no : (heaps : List (Option Heap)) (exits all : List ExitItem) (k i : ℕ) → i < length heaps → length exits ≡ length heaps → get_or heaps i None ≡ None →
    take k exits ++ staying_items (drop i heaps) (drop i exits) ≡ all → take k exits ++ staying_items (drop (i + 1) heaps) (drop (i + 1) exits) ≡ all
turned_no heaps [] all k i inside same given so_far = absurd (omega (arith, same))
turned_no heaps (y ∷ ys) all k i inside same given so_far =
    let exits : List ExitItem = y ∷ ys in
    let here : drop i heaps ≡ None ∷ drop (i + 1) heaps = drop_more heaps i None inside ∙ ap (λ h. h ∷ drop (i + 1) heaps) given in
    let next : staying_items (drop i heaps) (drop i exits) ≡ staying_items (drop (i + 1) heaps) (drop (i + 1) exits)
    = ap (λ hs. staying_items hs (drop i exits)) here ∙ ap (staying_items (None ∷ drop (i + 1) heaps)) (drop_more exits i y (omega arith)) in
    ap (λ zs. take k exits ++ zs) (sym next) ∙ so_far

pub length_staying : (heaps : List (Option Heap)) (exits : List ExitItem) → length (staying_items heaps exits) ≤ length exits
length_staying [] exits = grind arith
length_staying (heap ∷ heaps) [] = omega arith
length_staying (Some heap ∷ heaps) (e ∷ exits) = omega (arith, length_staying heaps exits)
length_staying (None ∷ heaps) (e ∷ exits) = omega (arith, length_staying heaps exits)

-- what is given says what becomes of each item
pub staying_turned : (turned : ExitItem → Option ExitItem) (exits : List ExitItem) → filter_map (λ e. e) (map turned exits) ≡ filter_map turned exits
staying_turned turned [] = refl
staying_turned turned (e ∷ exits) = grind (arith, staying_turned turned exits)
