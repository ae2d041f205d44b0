-- The bytes that a segment keeps.
use Rattle.std.proofs.Common.{◌≡◌, ℕ, ◌+◌, ◌<◌, ◌≤◌, refl, sym, ap, ap₂, ◌∙◌, inl, inr, List, [], ◌∷◌, ◌++◌, length, map, get_or, set, Option, Some, None, arith}
use Rattle.k_types.proofs.Sums.{total_set, total_push}
use Rattle.std.proofs.Math.ListN.{get_or-map}
use Rattle.std.proofs.lemmas.Bool.{cases_eq}
use Rattle.std.proofs.lemmas.List.{length-set, length-append, get_or-set_other, get_or-set_same, map-set, map-append, length-map}
use Rattle.k_space.specs.Cells.{CellsValue, get, with_cell}
use Rattle.k_types.specs.Totals.{total}
use Rattle.k_types.specs.Types.{object_size}
use Rattle.k_types.specs.Owners.{object_bytes}
use Rattle.k_space.specs.declared.marks.Place.{Place}
use Rattle.k_space.specs.declared.marks.Place.TheVariants.{Empty, At}
use Rattle.k_space.specs.declared.marks.Mark.{Mark}
use Rattle.k_space.specs.declared.marks.Mark.TheVariants.{White as MarkWhite}
use Rattle.k_space.specs.declared.cells.Cell.{Cell}
use Rattle.k_space.specs.Segments.{Row, objects_from}
use Rattle.k_space.specs.Places.{row_of, row_in, row_bytes, AreBytes, white_place}
use Rattle.k_space.proofs.GrayLists.{At_inside}

total-maps : {A B : Type 0} (f : B → ℕ) (g h : A → B) (xs : List A) → ((x : A) → f (g x) ≡ f (h x)) → total f (map g xs) ≡ total f (map h xs)
total-maps f g h [] same = refl
total-maps f g h (x ∷ xs) same = omega (arith, same x, total-maps f g h xs same)

-- the bytes of the objects that a segment shows
pub bytes_shown : (number serial : ℕ) (rows : List (Option Row)) → total object_bytes (objects_from number serial rows) ≡ total row_bytes rows
bytes_shown number serial [] = refl
bytes_shown number serial (None ∷ rows) = omega (arith, bytes_shown number (serial + 1) rows)
bytes_shown number serial (Some row ∷ rows) = omega (arith, bytes_shown number (serial + 1) rows)

recolored_bytes : (slot : ℕ) (m n : Mark) (o : Option Cell) → row_bytes (row_in slot m o) ≡ row_bytes (row_in slot n o)
recolored_bytes slot m n None = refl
recolored_bytes slot m n (Some cell) = refl

-- another mark at one place
pub bytes_recolored : (places : List Place) (cells : CellsValue) (bytes i slot : ℕ) (m n : Mark) → AreBytes places cells bytes → get_or places i Empty ≡ At slot m → AreBytes (set places i (At slot n)) cells bytes
bytes_recolored places cells bytes i slot m n was here =
    let rows : map (row_of cells) (set places i (At slot n)) ≡ set (map (row_of cells) places) i (row_in slot n (get cells slot)) = map-set (row_of cells) places i (At slot n) in
    let mapped : length (map (row_of cells) places) ≡ length places = length-map places (row_of cells) in
    let within : i < length (map (row_of cells) places) = omega (arith, mapped, At_inside places i slot m here) in
    let sum = total_set row_bytes (map (row_of cells) places) i (row_in slot n (get cells slot)) None within in
    let had : row_bytes (get_or (map (row_of cells) places) i None) ≡ row_bytes (row_in slot m (get cells slot)) = ap row_bytes (get_or-map (row_of cells) places i Empty ∙ ap (row_of cells) here) in
    let all : total row_bytes (map (row_of cells) (set places i (At slot n))) ≡ total row_bytes (set (map (row_of cells) places) i (row_in slot n (get cells slot))) = ap (total row_bytes) rows in
    record {
      counted = omega (arith, was.counted, all, sum, had, recolored_bytes slot m n (get cells slot));
      small = omega (arith, was.small, length-set places i (At slot n));
    }

-- no marks
white_bytes : (cells : CellsValue) (p : Place) → row_bytes (row_of cells (white_place p)) ≡ row_bytes (row_of cells p)
white_bytes cells Empty = refl
white_bytes cells (At slot mark) = recolored_bytes slot MarkWhite mark (get cells slot)

total_whitened : (places : List Place) (cells : CellsValue) → total row_bytes (map (row_of cells) (map white_place places)) ≡ total row_bytes (map (row_of cells) places)
total_whitened [] cells = refl
total_whitened (p ∷ places) cells = omega (arith, white_bytes cells p, total_whitened places cells)

pub bytes_whitened : (places : List Place) (cells : CellsValue) (bytes : ℕ) → AreBytes places cells bytes → AreBytes (map white_place places) cells bytes
bytes_whitened places cells bytes was =
    record {
      counted = was.counted ∙ sym (total_whitened places cells);
      small = omega (arith, was.small, length-map places white_place);
    }

-- another body of as many fields in one slot
pub bytes_rewritten : (places : List Place) (cells : CellsValue) (bytes slot : ℕ) (cell new : Cell) → AreBytes places cells bytes → get cells slot ≡ Some cell → length new.body.fields ≡ length cell.body.fields → slot < length cells.slots →
    AreBytes places (with_cell cells slot new) bytes
bytes_rewritten places cells bytes slot cell new was found fields inside =
    record {
      counted = was.counted ∙ sym (total-maps row_bytes (row_of (with_cell cells slot new)) (row_of cells) places each);
      small = was.small;
    }
  where
    each : (p : Place) → row_bytes (row_of (with_cell cells slot new) p) ≡ row_bytes (row_of cells p)
    each Empty = refl
    each (At t mark) =
        elim (cases_eq t slot) [
          | inl same ↦
              ap (λ k. row_bytes (row_in t mark (get (with_cell cells slot new) k))) same
              ∙ ap (λ o. row_bytes (row_in t mark o)) (get_or-set_same cells.slots slot (Some new) None inside)
              ∙ ap object_size fields
              ∙ sym (ap (λ k. row_bytes (row_in t mark (get cells k))) same ∙ ap (λ o. row_bytes (row_in t mark o)) found)
          | inr differs ↦ ap (λ o. row_bytes (row_in t mark o)) (get_or-set_other cells.slots slot t (Some new) None differs)
        ]

-- one object more
pub bytes_pushed : (places : List Place) (cells after : CellsValue) (bytes slot : ℕ) (cell : Cell) → AreBytes places cells bytes → map (row_of after) places ≡ map (row_of cells) places → get after slot ≡ Some cell → object_size (length cell.body.fields) ≤ 144 →
    AreBytes (places ++ At slot MarkWhite ∷ []) after (bytes + object_size (length cell.body.fields))
bytes_pushed places cells after bytes slot cell was old here most =
    let rows : map (row_of after) (places ++ At slot MarkWhite ∷ []) ≡ map (row_of cells) places ++ row_in slot MarkWhite (Some cell) ∷ [] =
    map-append (row_of after) places (At slot MarkWhite ∷ []) ∙ ap₂ (λ front o. front ++ row_in slot MarkWhite o ∷ []) old here in
    let all : total row_bytes (map (row_of after) (places ++ At slot MarkWhite ∷ [])) ≡ total row_bytes (map (row_of cells) places ++ row_in slot MarkWhite (Some cell) ∷ []) = ap (total row_bytes) rows in
    let sum = total_push row_bytes (map (row_of cells) places) (row_in slot MarkWhite (Some cell)) in
    record {
      counted = omega (arith, was.counted, all, sum);
      small = omega (arith, was.small, most, length-append places (At slot MarkWhite ∷ []));
    }

pub size_there : (places : List Place) (cells : CellsValue) (i slot : ℕ) (mark : Mark) (cell : Cell) → get_or places i Empty ≡ At slot mark → get cells slot ≡ Some cell → row_bytes (row_of cells (get_or places i Empty)) ≡ object_size (length cell.body.fields)
size_there places cells i slot mark cell here found = ap (λ p. row_bytes (row_of cells p)) here ∙ ap (λ o. row_bytes (row_in slot mark o)) found

-- one object less
pub bytes_freed : (places : List Place) (cells after : CellsValue) (bytes i size : ℕ) → AreBytes places cells bytes → map (row_of after) (set places i Empty) ≡ set (map (row_of cells) places) i None → i < length places → row_bytes (row_of cells (get_or places i Empty)) ≡ size →
    (size ≤ bytes) × ((rest : ℕ) → rest + size ≡ bytes → AreBytes (set places i Empty) after rest)
bytes_freed places cells after bytes i size was rows within had =
    let mapped : length (map (row_of cells) places) ≡ length places = length-map places (row_of cells) in
    let sum = total_set row_bytes (map (row_of cells) places) i None None (omega (arith, mapped, within)) in
    let lost : row_bytes (get_or (map (row_of cells) places) i None) ≡ size = ap row_bytes (get_or-map (row_of cells) places i Empty) ∙ had in
    let all : total row_bytes (map (row_of after) (set places i Empty)) ≡ total row_bytes (set (map (row_of cells) places) i None) = ap (total row_bytes) rows in (
      omega (arith, was.counted, sum, lost),
      λ rest e. record { counted = omega (arith, was.counted, sum, lost, all, e); small = omega (arith, was.small, e, length-set places i Empty) },
    )
