-- Names that are sorted are in order.
use Rattle.std.proofs.Common.{◌≡◌, ℕ, ◌+◌, ◌<◌, false, refl, sym, ap, ◌∙◌, List, [], ◌∷◌, get_or, is_lt, length, map, nat_cmp}
use Rattle.std.specs.List.Sorted.{IsPermutation}
use Rattle.std.specs.Ordering.{ordering_then}
use Rattle.k_types.specs.declared.names.Heap.TheVariants.{Kernel}
use Rattle.k_types.specs.declared.names.Name.{Name}
use Rattle.k_types.specs.Names.{name_among}
use Rattle.k_types.specs.Sound.{AreDistinctExits}
use Rattle.k_types.specs.State.{ExitItem, has_exit}
use Rattle.k_types.specs.Distinct.{AreDistinctNames}
use Rattle.k_text.specs.Shown.{in_order}
use Rattle.k_text.proofs.Sorted.{sorted_exits, targets_among, targets_of}

-- exit items of one heap with these targets
abbrev items : List Name → List ExitItem
items names = map (λ (n : Name). record { heap = Kernel; target = n }) names

targets_are : (names : List Name) → targets_of (items names) Kernel ≡ names
targets_are [] = refl
targets_are (n ∷ names) = ap (λ (ns : List Name). n ∷ ns) (targets_are names)

has_item : (names : List Name) (n : Name) → has_exit (items names) Kernel n ≡ name_among n names
has_item names n = sym (targets_among (items names) Kernel n) ∙ ap (name_among n) (targets_are names)

distinct_items : (names : List Name) → AreDistinctNames names → AreDistinctExits (items names)
distinct_items [] distinct = tt
distinct_items (n ∷ names) distinct = (has_item names n ∙ distinct.0, distinct_items names distinct.1)

-- distinct names that are sorted are in order
pub sorted_names : (names sorted : List Name) → AreDistinctNames names → IsPermutation names sorted →
    ((k : ℕ) (d : Name) → k + 1 < length sorted →
    is_lt (ordering_then (nat_cmp (get_or sorted (k + 1) d).seg.0 (get_or sorted k d).seg.0) (nat_cmp (get_or sorted (k + 1) d).serial.0 (get_or sorted k d).serial.0)) ≡ false) →
    sorted ≡ in_order names
sorted_names names sorted distinct same ordered =
    sorted_exits (items names) Kernel names sorted (distinct_items names distinct) (sym (targets_are names)) same ordered ∙ ap in_order (targets_are names)
