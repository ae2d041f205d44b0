-- Exit items with the heap that is given for each.
use Rattle.std.proofs.Common.{◌≡◌, ℕ, ◌+◌, ◌<◌, ◌≤◌, refl, sym, ap, ap₂, ◌∙◌, List, [], ◌∷◌, ◌++◌, map, take, get_or, length, length-take-le, Option, arith}
use Rattle.std.proofs.lemmas.List.{map_push, take_all, take_more}
use Rattle.k_types.specs.declared.names.Heap.{Heap}
use Rattle.k_types.specs.State.{ExitItem}
use Rattle.k_state.specs.Marks.{turned_item, turned_items}

turned_push : (heaps : List (Option Heap)) (xs : List ExitItem) (h : Option Heap) (x : ExitItem) → length heaps ≡ length xs →
    turned_items (heaps ++ h ∷ []) (xs ++ x ∷ []) ≡ turned_items heaps xs ++ turned_item h x ∷ []
turned_push [] [] h x size = refl
turned_push [] (y ∷ xs) h x size = absurd (omega arith)
turned_push (g ∷ heaps) [] h x size = absurd (omega arith)
turned_push (g ∷ heaps) (y ∷ xs) h x size = ap (λ ys. turned_item g y ∷ ys) (turned_push heaps xs h x (omega arith))

-- one item more
pub turned_more : (f : ExitItem → Option ExitItem) (heaps : List (Option Heap)) (xs : List ExitItem) (i : ℕ) (h : Option Heap) (x : ExitItem) →
    i < length xs → x ≡ get_or xs i x → length heaps ≡ i → turned_item h x ≡ f x →
    turned_items heaps (take i xs) ≡ map f (take i xs) → turned_items (heaps ++ h ∷ []) (take (i + 1) xs) ≡ map f (take (i + 1) xs)
turned_more f heaps xs i h x inside is size turned before =
    let more : take (i + 1) xs ≡ take i xs ++ x ∷ [] = take_more xs i x inside ∙ ap (λ y. take i xs ++ y ∷ []) (sym is) in
    ap (turned_items (heaps ++ h ∷ [])) more
    ∙ turned_push heaps (take i xs) h x (size ∙ sym (length-take-le i xs (omega arith)))
    ∙ ap₂ (λ ys y. ys ++ y ∷ []) before turned
    ∙ sym (map_push f (take i xs) x)
    ∙ ap (map f) (sym more)

-- all items
pub turned_all : (f : ExitItem → Option ExitItem) (heaps : List (Option Heap)) (xs : List ExitItem) (i : ℕ) → length xs ≤ i →
    turned_items heaps (take i xs) ≡ map f (take i xs) → turned_items heaps xs ≡ map f xs
turned_all f heaps xs i past before =
    let all : take i xs ≡ xs = take_all i xs past in
    ap (turned_items heaps) (sym all) ∙ before ∙ ap (map f) all
