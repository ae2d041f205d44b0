-- What the rows of a segment are after one object more.
use Rattle.std.proofs.Common.{◌≡◌, ◌≢◌, ℕ, zero, suc, ◌+◌, ◌<◌, ◌≤◌, ◌^◌, ◌⊎◌, refl, sym, ap, ap₂, subst, ◌∙◌, inl, inr, List, [], ◌∷◌, ◌++◌, length, map, get_or, Option, Some, None, count_by, arith}
use Rattle.std.proofs.lemmas.Bool.{cases_eq}
use Rattle.std.proofs.lemmas.List.{get_or_append_left, get_or_push, map-append, length-append}
use Rattle.k_space.specs.Cells.{CellsValue, get, count_held, ChangesAt}
use Rattle.k_space.specs.declared.marks.Place.{Place}
use Rattle.k_space.specs.declared.marks.Place.TheVariants.{Empty, At}
use Rattle.k_space.specs.declared.marks.Mark.{Mark}
use Rattle.k_space.specs.declared.marks.Mark.TheVariants.{White as MarkWhite}
use Rattle.k_space.specs.declared.cells.Cell.{Cell}
use Rattle.k_space.specs.Segments.{Row, SegmentValue, new_row, placed}
use Rattle.k_space.specs.Places.{row_of, row_in, IsSound, IsPlaced, IsKept, IsGrayList, is_gray_place}
use Rattle.k_space.proofs.GrayLists.{At_inside, list_pushed, count_pushed}
use Rattle.k_space.proofs.Taken.{taken_pushed}
use Rattle.k_space.proofs.Rows.{maps_agree, same_At, same_cell}

-- one object more
pub at_pushed : (places : List Place) (x : Place) (i slot : ℕ) (mark : Mark) → get_or (places ++ x ∷ []) i Empty ≡ At slot mark → (get_or places i Empty ≡ At slot mark) ⊎ ((i ≡ length places) × (x ≡ At slot mark))
at_pushed [] x zero slot mark e = inr (refl, e)
at_pushed [] x (suc i) slot mark e = absurd (cc)
at_pushed (y ∷ ys) x zero slot mark e = inl e
at_pushed (y ∷ ys) x (suc i) slot mark e = elim (at_pushed ys x i slot mark e) [ inl there ↦ inl there | inr here ↦ inr (ap suc here.0, here.1) ]

pub pushed : (places : List Place) (cells after : CellsValue) (room capacity : ℕ) (head : ℕ) (slot : ℕ) (cell : Cell) → IsSound places cells room capacity head → count_held cells < room → length places + 1 < 2 ^ 32 →
    get cells slot ≡ None → ChangesAt cells after slot (Some cell) → count_held after ≡ count_held cells + 1 → after.capacity ≡ cells.capacity → cell.serial.0 ≡ length places → length cell.body.fields ≤ 16 →
    IsSound (places ++ At slot MarkWhite ∷ []) after room capacity head
pushed places cells after room capacity head slot cell sound more left vacant updates len stays serial few =
    record {
      first = get_or_append_left places (At slot MarkWhite ∷ []) Empty 0 sound.begun ∙ sound.first;
      begun = omega (arith, length-append places (At slot MarkWhite ∷ []));
      sized = record {
        given = omega (arith, length-append places (At slot MarkWhite ∷ []), left);
        counted = omega (arith, len, sound.sized.counted, taken_pushed places slot MarkWhite);
        within = omega (arith, len, more);
        fits = omega (arith, stays, sound.sized.fits);
        slots = omega (arith, stays, sound.sized.slots);
        keys = omega (arith, stays, sound.sized.keys);
      };
      placed = placed_after;
      kept = kept_after;
      grays = subst (λ (n : ℕ). IsGrayList (places ++ At slot MarkWhite ∷ []) n head) (sym (count_pushed places (At slot MarkWhite) refl)) (list_pushed places (count_by is_gray_place places) head (At slot MarkWhite) sound.grays);
    }
  where
    placed_after : (j s : ℕ) (mark : Mark) → get_or (places ++ At slot MarkWhite ∷ []) j Empty ≡ At s mark → IsPlaced after j s
    placed_after j s mark e =
        elim (at_pushed places (At slot MarkWhite) j s mark e) [
          | inl there ↦
              let was = sound.placed j s mark there in
              let apart : s ≢ slot = λ same. taken_slot was.cell (sym was.there ∙ ap (get cells) same ∙ vacant) in
              record { cell = was.cell; there = updates.others s apart ∙ was.there; serial_is = was.serial_is }
          | inr here ↦ record { cell = cell; there = ap (get after) (sym (same_At slot s MarkWhite mark here.1).0) ∙ updates.there; serial_is = serial ∙ sym here.0 }
        ]
      where
        taken_slot : (x : Cell) → Some x ≡ None → ⊥
        taken_slot x e = cc

    kept_after : (s : ℕ) (x : Cell) → get after s ≡ Some x → IsKept (places ++ At slot MarkWhite ∷ []) s x
    kept_after s x e =
        elim (cases_eq s slot) [
          | inl same ↦
              let one : cell ≡ x = same_cell (sym updates.there ∙ ap (get after) (sym same) ∙ e) in
              record {
                mark = MarkWhite;
                there = ap (λ (c : Cell). get_or (places ++ At slot MarkWhite ∷ []) c.serial.0 Empty) (sym one) ∙ get_or_push places (At slot MarkWhite) Empty cell.serial.0 (sym serial) ∙ ap (λ t. At t MarkWhite) (sym same);
                few = subst (λ (c : Cell). length c.body.fields ≤ 16) one few;
              }
          | inr differs ↦
              let was = sound.kept s x (sym (updates.others s differs) ∙ e) in
              record { mark = was.mark; there = get_or_append_left places (At slot MarkWhite ∷ []) Empty x.serial.0 (At_inside places x.serial.0 s was.mark was.there) ∙ was.there; few = was.few }
        ]

-- no object lies in a free slot
pub no_place : (places : List Place) (cells : CellsValue) (room capacity head slot : ℕ) → IsSound places cells room capacity head → get cells slot ≡ None → (i : ℕ) (mark : Mark) → get_or places i Empty ≢ At slot mark
no_place places cells room capacity head slot sound vacant i mark e =
    let p = sound.placed i slot mark e in
    let none : Some p.cell ≡ None = sym p.there ∙ vacant in
    cc

-- the rows that were there
pub rows_kept : (places : List Place) (cells after : CellsValue) (room capacity : ℕ) (head : ℕ) (slot : ℕ) (o : Option Cell) → IsSound places cells room capacity head →
    get cells slot ≡ None → ChangesAt cells after slot o → map (row_of after) places ≡ map (row_of cells) places
rows_kept places cells after room capacity head slot o sound vacant updates =
    maps_agree (row_of after) (row_of cells) places Empty (λ j. others j (get_or places j Empty) refl)
  where
    others : (j : ℕ) (p : Place) → get_or places j Empty ≡ p → row_of after p ≡ row_of cells p
    others j Empty e = refl
    others j (At t mark) e = ap (row_in t mark) (updates.others t apart)
      where
        apart : t ≢ slot
        apart same =
            let a = sound.placed j t mark e in
            let none : Some a.cell ≡ None = sym a.there ∙ ap (get cells) same ∙ vacant in
            cc

-- what a contract sees of it
pub pushed_view : (number room capacity : ℕ) (places : List Place) (cells after : CellsValue) (head : ℕ) (s : SegmentValue) (slot : ℕ) (cell : Cell) → IsSound places cells room capacity head →
    record { number = number; room = room; rows = map (row_of cells) places } ≡ s → get cells slot ≡ None → ChangesAt cells after slot (Some cell) →
    record { number = number; room = room; rows = map (row_of after) (places ++ At slot MarkWhite ∷ []) } ≡ placed s slot cell.body
pushed_view number room capacity places cells after head s slot cell sound is vacant updates =
    let old = rows_kept places cells after room capacity head slot (Some cell) sound vacant updates in
    let new : row_of after (At slot MarkWhite) ≡ Some (new_row slot cell.body) = ap (row_in slot MarkWhite) updates.there in
    let rows : map (row_of after) (places ++ At slot MarkWhite ∷ []) ≡ map (row_of cells) places ++ Some (new_row slot cell.body) ∷ [] =
    map-append (row_of after) places (At slot MarkWhite ∷ []) ∙ ap₂ (λ front x. front ++ x ∷ []) old new in
    ap (λ (rs : List (Option Row)). record { number = number; room = room; rows = rs }) rows ∙ ap (λ (x : SegmentValue). placed x slot cell.body) is
