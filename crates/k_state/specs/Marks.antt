-- What a list keeps where each element has its mark.
use Rattle.std.specs.Prelude.{Bool, true, false, List, [], ◌∷◌, filter_map, Option, Some, None}
use Rattle.k_types.specs.declared.names.Heap.{Heap}
use Rattle.k_types.specs.State.{ExitItem}

-- The elements whose marks say so, in their order.
abbrev pub marked : {A : Type 0} → List Bool → List A → List A
marked [] xs = []
marked (mark ∷ marks) [] = []
marked (true ∷ marks) (x ∷ xs) = x ∷ marked marks xs
marked (false ∷ marks) (x ∷ xs) = marked marks xs

-- The exit item, which the given heap has from now on, or nothing where no heap is given.
abbrev pub turned_item : Option Heap → ExitItem → Option ExitItem
turned_item None e = None
turned_item (Some heap) e = Some (record e { heap = heap })

-- What becomes of each exit item, by the heap that is given for each.
abbrev pub turned_items : List (Option Heap) → List ExitItem → List (Option ExitItem)
turned_items [] exits = []
turned_items (heap ∷ heaps) [] = []
turned_items (heap ∷ heaps) (e ∷ exits) = turned_item heap e ∷ turned_items heaps exits

-- The exit items that stay, by the heap that is given for each.
abbrev pub staying_items : List (Option Heap) → List ExitItem → List ExitItem
staying_items heaps exits = filter_map (λ e. e) (turned_items heaps exits)
