-- What the rows of a segment are after an object is freed.
use Rattle.std.proofs.Common.{◌≡◌, ◌≢◌, ℕ, zero, suc, ◌+◌, ◌<◌, true, false, refl, sym, ap, subst, ◌∙◌, inl, inr, List, [], ◌∷◌, length, map, get_or, set, Option, Some, None, is_some, count_by, arith}
use Rattle.std.proofs.lemmas.Bool.{cases_eq}
use Rattle.std.proofs.lemmas.List.Sums.{sum_by-cons}
use Rattle.std.proofs.lemmas.List.{get_or-set_same, get_or-set_other, length-set, map-set, length-map}
use Rattle.k_space.specs.Cells.{CellsValue, get, count_held, ChangesAt}
use Rattle.k_space.specs.declared.marks.Place.{Place}
use Rattle.k_space.specs.declared.marks.Place.TheVariants.{Empty, At}
use Rattle.k_space.specs.declared.marks.Mark.{Mark}
use Rattle.k_space.specs.declared.marks.Mark.TheVariants.{White as MarkWhite, Gray as MarkGray, Black as MarkBlack}
use Rattle.k_space.specs.declared.cells.Cell.{Cell}
use Rattle.k_space.specs.declared.segment.Gone.{Gone}
use Rattle.k_types.specs.Types.{object_size}
use Rattle.k_space.specs.Segments.{White, Row, SegmentValue, row_at, with_row, is_marked}
use Rattle.k_space.specs.Sweeping.{IsTakenAway}
use Rattle.k_space.specs.Places.{row_of, row_in, color_of, IsSound, IsPlaced, IsKept, IsGrayList, is_gray_place, is_white_place}
use Rattle.k_space.proofs.GrayLists.{bit, At_inside, list_kept, count-set}
use Rattle.k_space.proofs.Taken.{taken_freed}
use Rattle.k_space.proofs.Rows.{set_agree, row_at_view, same_At, row_there, same_cell}

-- the object of one slot is gone
count_none : (slots : List (Option Cell)) (key : ℕ) (cell : Cell) → get_or slots key None ≡ Some cell → count_by is_some (set slots key None) + 1 ≡ count_by is_some slots
count_none [] key cell e = absurd (cc)
count_none (x ∷ xs) zero cell e =
    let on : is_some x ≡ true = ap is_some e in
    omega (arith, sum_by-cons (λ o. bit (is_some o)) x xs, sum_by-cons (λ (o : Option Cell). bit (is_some o)) None xs, ap bit on)
count_none (x ∷ xs) (suc key) cell e =
    omega (arith, sum_by-cons (λ (o : Option Cell). bit (is_some o)) x xs, sum_by-cons (λ (o : Option Cell). bit (is_some o)) x (set xs key None), count_none xs key cell e)

pub freed : (places : List Place) (cells after : CellsValue) (room capacity : ℕ) (head : ℕ) (i slot : ℕ) (cell : Cell) → IsSound places cells room capacity head → get_or places i Empty ≡ At slot MarkWhite → get cells slot ≡ Some cell →
    ChangesAt cells after slot None → count_held after + 1 ≡ count_held cells → after.capacity ≡ cells.capacity → IsSound (set places i Empty) after room capacity head
freed places cells after room capacity head i slot cell sound here found updates len stays =
    let not_first : 0 ≢ i = λ e. apart e in
    record {
      first = get_or-set_other places i 0 Empty Empty not_first ∙ sound.first;
      begun = omega (arith, length-set places i Empty, sound.begun);
      sized = record {
        given = omega (arith, length-set places i Empty, sound.sized.given);
        counted = omega (arith, len, sound.sized.counted, taken_freed places i slot MarkWhite here);
        within = omega (arith, len, sound.sized.within);
        fits = omega (arith, stays, sound.sized.fits);
        slots = omega (arith, stays, sound.sized.slots);
        keys = omega (arith, stays, sound.sized.keys);
      };
      placed = placed_after;
      kept = kept_after;
      grays = subst (λ (n : ℕ). IsGrayList (set places i Empty) n head) (sym same_count) (list_kept places (count_by is_gray_place places) head i Empty (λ m w q. not_gray m q) sound.grays);
    }
  where
    within : i < length places
    within = At_inside places i slot MarkWhite here

    apart : 0 ≡ i → ⊥
    apart e = let at : At slot MarkWhite ≡ Empty = sym here ∙ ap (λ k. get_or places k Empty) (sym e) ∙ sound.first in cc

    plain : is_gray_place (get_or places i Empty) ≡ false
    plain = ap is_gray_place here

    same_count : count_by is_gray_place (set places i Empty) ≡ count_by is_gray_place places
    same_count = let off : bit (is_gray_place (get_or places i Empty)) ≡ 0 = ap bit plain in omega (arith, count-set places i Empty within, off)

    not_gray : (m : ℕ) → IsGrayList places m i → ⊥
    not_gray zero q = apart (sym q)
    not_gray (suc m) (some, s, next, gray, rest) =
        let both : At s (MarkGray next) ≡ At slot MarkWhite = sym gray ∙ here in
        cc

    -- no other place has the slot
    one_place : (j s : ℕ) (mark : Mark) → get_or places j Empty ≡ At s mark → s ≡ slot → j ≡ i
    one_place j s mark e same =
        let a = sound.placed j s mark e in
        let b = sound.placed i slot MarkWhite here in
        let one : a.cell ≡ b.cell = same_cell (sym a.there ∙ ap (get cells) same ∙ b.there) in
        sym a.serial_is ∙ ap (λ (x : Cell). x.serial.0) one ∙ b.serial_is

    placed_after : (j s : ℕ) (mark : Mark) → get_or (set places i Empty) j Empty ≡ At s mark → IsPlaced after j s
    placed_after j s mark e =
        elim (cases_eq j i) [
          | inl same ↦
              let at : Empty ≡ At s mark = sym (get_or-set_same places i Empty Empty within) ∙ ap (λ k. get_or (set places i Empty) k Empty) (sym same) ∙ e in
              absurd (cc)
          | inr differs ↦
              let was = sound.placed j s mark (sym (get_or-set_other places i j Empty Empty differs) ∙ e) in
              let other : s ≢ slot = λ same. differs (one_place j s mark (sym (get_or-set_other places i j Empty Empty differs) ∙ e) same) in
              record { cell = was.cell; there = updates.others s other ∙ was.there; serial_is = was.serial_is }
        ]

    kept_after : (s : ℕ) (x : Cell) → get after s ≡ Some x → IsKept (set places i Empty) s x
    kept_after s x e =
        elim (cases_eq s slot) [
          | inl same ↦ let none : None ≡ Some x = sym updates.there ∙ ap (get after) (sym same) ∙ e in absurd (cc)
          | inr differs ↦
              let was = sound.kept s x (sym (updates.others s differs) ∙ e) in
              let other : x.serial.0 ≢ i = λ same.
              differs (same_At s slot was.mark MarkWhite (sym was.there ∙ ap (λ k. get_or places k Empty) same ∙ here)).0 in
              record { mark = was.mark; there = get_or-set_other places i x.serial.0 Empty Empty other ∙ was.there; few = was.few }
        ]

-- what a contract sees of it
pub freed_rows : (places : List Place) (cells after : CellsValue) (room capacity : ℕ) (head : ℕ) (i slot : ℕ) (mark : Mark) → IsSound places cells room capacity head → get_or places i Empty ≡ At slot mark →
    ChangesAt cells after slot None → map (row_of after) (set places i Empty) ≡ set (map (row_of cells) places) i None
freed_rows places cells after room capacity head i slot mark sound here updates =
    map-set (row_of after) places i Empty ∙ sets (map (row_of after) places) (map (row_of cells) places) (length-map places (row_of after) ∙ sym (length-map places (row_of cells))) agree
  where
    sets : (xs ys : List (Option Row)) → length xs ≡ length ys → ((j : ℕ) → j ≢ i → get_or xs j None ≡ get_or ys j None) → set xs i None ≡ set ys i None
    sets xs ys len agree = set_agree xs ys i None None len agree

    agree : (j : ℕ) → j ≢ i → get_or (map (row_of after) places) j None ≡ get_or (map (row_of cells) places) j None
    agree j differs = row_at_view after places j ∙ others j differs (get_or places j Empty) refl ∙ sym (row_at_view cells places j)
      where
        others : (j : ℕ) → j ≢ i → (p : Place) → get_or places j Empty ≡ p → row_of after p ≡ row_of cells p
        others j differs Empty e = refl
        others j differs (At t m) e = ap (row_in t m) (updates.others t apart)
          where
            apart : t ≢ slot
            apart same =
                let a = sound.placed j t m e in
                let b = sound.placed i slot mark here in
                let one : a.cell ≡ b.cell = same_cell (sym a.there ∙ ap (get cells) same ∙ b.there) in
                differs (sym a.serial_is ∙ ap (λ (x : Cell). x.serial.0) one ∙ b.serial_is)

pub other_mark : (slot : ℕ) (mark : Mark) → is_white_place (At slot mark) ≡ false → is_marked (color_of mark) ≡ true
other_mark slot MarkWhite e = absurd (cc)
other_mark slot (MarkGray next) e = refl
other_mark slot MarkBlack e = refl

-- what the freed object was
freed_view : (number room : ℕ) (places : List Place) (cells after : CellsValue) (capacity : ℕ) (head : ℕ) (s : SegmentValue) (slot i : ℕ) (mark : Mark) → IsSound places cells room capacity head →
    record { number = number; room = room; rows = map (row_of cells) places } ≡ s → get_or places i Empty ≡ At slot mark → ChangesAt cells after slot None →
    record { number = number; room = room; rows = map (row_of after) (set places i Empty) } ≡ with_row s i None
freed_view number room places cells after capacity head s slot i mark sound is here updates =
    ap (λ (rs : List (Option Row)). record { number = number; room = room; rows = rs }) (freed_rows places cells after room capacity head i slot mark sound here updates)
    ∙ ap (λ (x : SegmentValue). with_row x i None) is

-- the object was live and had no mark
pub taken_away : (number room : ℕ) (places : List Place) (cells after : CellsValue) (capacity head : ℕ) (s : SegmentValue) (serial slot : ℕ) (cell : Cell) (gone : Gone) → IsSound places cells room capacity head →
    record { number = number; room = room; rows = map (row_of cells) places } ≡ s → get_or places serial Empty ≡ At slot MarkWhite → get cells slot ≡ Some cell → ChangesAt cells after slot None →
    gone.serial.0 ≡ serial → gone.slot.0 ≡ slot → gone.bytes ≡ object_size (length cell.body.fields) →
    IsTakenAway s (record { number = number; room = room; rows = map (row_of after) (set places serial Empty) }) gone
taken_away number room places cells after capacity head s serial slot cell gone sound is here found updates named lies bytes = record {
  row = record { slot = slot; color = White; ty = cell.body.ty; fields = cell.body.fields };
  there = ap (row_at s) named ∙ row_there number room places cells s serial slot MarkWhite (Some cell) is here found;
  slot = sym lies;
  unmarked = refl;
  bytes = bytes;
  freed = freed_view number room places cells after capacity head s slot serial MarkWhite sound is here updates ∙ ap (λ k. with_row s k None) (sym named);
}
