-- How many places have an object, and how many objects a segment has.
use Rattle.std.proofs.Common.{◌≡◌, ℕ, suc, ◌+◌, ◌-◌, ◌<◌, ◌≤◌, true, refl, sym, ap, ◌∙◌, List, [], ◌∷◌, ◌++◌, length, map, get_or, set, Option, Some, None, is_some, count_by, arith}
use Rattle.std.proofs.lemmas.List.Sums.{sum_by-set, sum_by-cons, sum_by-append}
use Rattle.k_space.specs.Cells.{CellsValue, get}
use Rattle.k_space.specs.declared.marks.Place.{Place}
use Rattle.k_space.specs.declared.marks.Place.TheVariants.{Empty, At}
use Rattle.k_space.specs.declared.marks.Mark.{Mark}
use Rattle.k_space.specs.declared.cells.Cell.{Cell}
use Rattle.k_space.specs.Segments.{HasRoom, IsSegment, Row, SegmentValue, living, made}
use Rattle.k_space.specs.Places.{IsPlaced, IsSized, is_taken, row_in, row_of}
use Rattle.k_space.proofs.GrayLists.{At_inside, bit}

taken_set : (places : List Place) (i : ℕ) (x : Place) → i < length places → count_by is_taken (set places i x) + bit (is_taken (get_or places i Empty)) ≡ count_by is_taken places + bit (is_taken x)
taken_set places i x within = sum_by-set (λ p. bit (is_taken p)) places i x Empty within

-- another mark at one place
pub taken_recolored : (places : List Place) (i slot : ℕ) (m n : Mark) → get_or places i Empty ≡ At slot m → count_by is_taken (set places i (At slot n)) ≡ count_by is_taken places
taken_recolored places i slot m n here =
    let on : bit (is_taken (get_or places i Empty)) ≡ 1 = ap (λ p. bit (is_taken p)) here in
    omega (arith, taken_set places i (At slot n) (At_inside places i slot m here), on)

-- one object less
pub taken_freed : (places : List Place) (i slot : ℕ) (m : Mark) → get_or places i Empty ≡ At slot m → count_by is_taken (set places i Empty) + 1 ≡ count_by is_taken places
taken_freed places i slot m here =
    let on : bit (is_taken (get_or places i Empty)) ≡ 1 = ap (λ p. bit (is_taken p)) here in
    omega (arith, taken_set places i Empty (At_inside places i slot m here), on)

-- one object more
pub taken_pushed : (places : List Place) (slot : ℕ) (m : Mark) → count_by is_taken (places ++ At slot m ∷ []) ≡ count_by is_taken places + 1
taken_pushed places slot m = omega (arith, sum_by-append (λ p. bit (is_taken p)) places (At slot m ∷ []), sum_by-cons (λ p. bit (is_taken p)) (At slot m) [])

-- other marks at each place
pub taken_map : (f : Place → Place) → ((p : Place) → is_taken (f p) ≡ is_taken p) → (places : List Place) → count_by is_taken (map f places) ≡ count_by is_taken places
taken_map f same [] = refl
taken_map f same (p ∷ places) =
    omega (arith, sum_by-cons (λ x. bit (is_taken x)) (f p) (map f places), sum_by-cons (λ x. bit (is_taken x)) p places, ap bit (same p), taken_map f same places)

-- as many places of which as many have an object
pub same_sized : (places after : List Place) (cells : CellsValue) (room capacity : ℕ) → length after ≡ length places → count_by is_taken after ≡ count_by is_taken places → IsSized places cells room capacity → IsSized after cells room capacity
same_sized places after cells room capacity len same was = record {
  given = omega (arith, len, was.given);
  counted = was.counted ∙ sym same;
  within = was.within;
  fits = was.fits;
  slots = was.slots;
  keys = was.keys;
}

-- the objects that a contract sees are those of the places
pub taken_rows : (places : List Place) (cells : CellsValue) → ((i slot : ℕ) (mark : Mark) → get_or places i Empty ≡ At slot mark → IsPlaced cells i slot) → count_by is_some (map (row_of cells) places) ≡ count_by is_taken places
taken_rows places cells placed = from places (λ i slot mark e. ap is_some (placed i slot mark e).there)
  where
    some_row : (slot : ℕ) (mark : Mark) (o : Option Cell) → is_some o ≡ true → bit (is_some (row_in slot mark o)) ≡ 1
    some_row slot mark None e = absurd (cc)
    some_row slot mark (Some cell) e = refl

    from : (xs : List Place) → ((i slot : ℕ) (mark : Mark) → get_or xs i Empty ≡ At slot mark → is_some (get cells slot) ≡ true) → count_by is_some (map (row_of cells) xs) ≡ count_by is_taken xs
    from [] there = refl
    from (Empty ∷ xs) there =
        omega (arith, sum_by-cons (λ (o : Option Row). bit (is_some o)) None (map (row_of cells) xs), sum_by-cons (λ x. bit (is_taken x)) Empty xs, from xs (λ i slot mark e. there (suc i) slot mark e))
    from (At slot mark ∷ xs) there =
        omega (
          arith,
          sum_by-cons (λ (o : Option Row). bit (is_some o)) (row_in slot mark (get cells slot)) (map (row_of cells) xs),
          some_row slot mark (get cells slot) (there 0 slot mark refl),
          sum_by-cons (λ x. bit (is_taken x)) (At slot mark) xs,
          from xs (λ i s m e. there (suc i) s m e),
        )

count_most : (rows : List (Option Row)) → count_by is_some rows ≤ length rows
count_most [] = omega arith
count_most (None ∷ rows) = omega (arith, sum_by-cons (λ (o : Option Row). bit (is_some o)) None rows, count_most rows)
count_most (Some row ∷ rows) = omega (arith, sum_by-cons (λ (o : Option Row). bit (is_some o)) (Some row) rows, count_most rows)

first_empty : (rows : List (Option Row)) → get_or rows 0 None ≡ None → count_by is_some rows ≤ length rows - 1
first_empty [] e = omega arith
first_empty (None ∷ rows) e = omega (arith, sum_by-cons (λ (o : Option Row). bit (is_some o)) None rows, count_most rows)
first_empty (Some row ∷ rows) e = absurd (cc)

-- no more objects live than serials were given
pub living_most : (s : SegmentValue) → IsSegment s → living s ≤ made s
living_most s sound = first_empty s.rows sound.first

-- where fewer serials were given than objects can live there is room for one more
pub room_made : (s : SegmentValue) → IsSegment s → made s < s.room → HasRoom s
room_made s sound few = record { few = omega (arith, living_most s sound, few); left = omega (arith, few, sound.small) }
