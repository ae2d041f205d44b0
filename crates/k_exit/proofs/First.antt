-- So many items at the front that are marked.
use Rattle.std.proofs.Common.{◌≡◌, ◌||◌, ◌&&◌, ℕ, zero, suc, Bool, true, false, refl, ap, ◌∙◌, List, [], ◌∷◌, ◌++◌, length, map, take, drop}
use Rattle.k_types.specs.declared.names.Name.{Name}
use Rattle.k_types.specs.Names.{name_among, name_eq}
use Rattle.k_exit.specs.declared.chains.Item.{Item}
use Rattle.k_exit.specs.Chains.{at, marked_item, row_of}
use Rattle.k_exit.specs.Exits.{AreDistinct, ExitRow, marked_first, target_marked, targets}
use Rattle.k_exit.proofs.Lists.{distinct_by}

abbrev pub first_items : ℕ → List Item → List Item
first_items count items = map marked_item (take count items) ++ drop count items

pub rows_first : (count : ℕ) (items : List Item) → map row_of (first_items count items) ≡ marked_first count (map row_of items)
rows_first zero items = refl
rows_first (suc count) [] = refl
rows_first (suc count) (x ∷ items) = ap (λ (rs : List ExitRow). record { target = x.target; marked = true } ∷ rs) (rows_first count items)

pub first_length : (count : ℕ) (items : List Item) → length (first_items count items) ≡ length items
first_length zero items = refl
first_length (suc count) [] = refl
first_length (suc count) (x ∷ items) = ap suc (first_length count items)

-- whatever but the mark
pub first_at : {P : Type 0} (f : Item → P) → ((y : Item) → f (marked_item y) ≡ f y) → (count : ℕ) (items : List Item) (j : ℕ) → f (at (first_items count items) j) ≡ f (at items j)
first_at f blind zero items j = refl
first_at f blind (suc count) [] j = refl
first_at f blind (suc count) (x ∷ items) zero = blind x
first_at f blind (suc count) (x ∷ items) (suc j) = first_at f blind count items j

pub targets_first : (count : ℕ) (items : List ExitRow) → targets (marked_first count items) ≡ targets items
targets_first zero items = refl
targets_first (suc count) [] = refl
targets_first (suc count) (x ∷ items) = ap (λ (ns : List Name). x.target ∷ ns) (targets_first count items)

pub distinct_first : (count : ℕ) (items : List ExitRow) → AreDistinct items → AreDistinct (marked_first count items)
distinct_first count items distinct = distinct_by items (marked_first count items) (targets_first count items) distinct

-- a target is marked then if it is one of these or was marked
pub first_marked : (count : ℕ) (items : List ExitRow) (t : Name) → target_marked (marked_first count items) t ≡ (name_among t (take count (targets items)) || target_marked items t)
first_marked zero items t = refl
first_marked (suc count) [] t = refl
first_marked (suc count) (x ∷ items) t = ap (λ b. (name_eq x.target t && true) || b) (first_marked count items t) ∙ parts (name_eq x.target t) x.marked (name_among t (take count (targets items))) (target_marked items t)
  where
    parts : (here marked among rest : Bool) → ((here && true) || (among || rest)) ≡ ((here || among) || ((here && marked) || rest))
    parts true marked among rest = refl
    parts false marked true rest = refl
    parts false marked false rest = refl
