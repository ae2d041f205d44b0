-- What holds of every segment.
use Rattle.std.proofs.Common.{◌≡◌, ◌*◌, ℕ, ◌≤◌, refl, sym, ap, subst, ◌∙◌, List, length, map, Some, arith}
use Rattle.std.proofs.lemmas.List.{length-map}
use Rattle.k_space.specs.Cells.{CellsValue, get, count_held}
use Rattle.k_space.specs.declared.marks.Place.{Place}
use Rattle.k_space.specs.declared.cells.Cell.{Cell}
use Rattle.k_space.specs.Segments.{Row, SegmentValue, IsSegment, row_at, living, made, segment_bytes}
use Rattle.k_space.specs.Places.{row_of, IsSound, AreBytes}
use Rattle.k_space.proofs.Bytes.{bytes_shown}
use Rattle.k_space.proofs.Taken.{taken_rows}
use Rattle.k_space.proofs.Rows.{lies_in, no_row, same_cell}

-- a row for each place
pub rows_shown : {number room : ℕ} (places : List Place) (cells : CellsValue) (s : SegmentValue) → record { number = number; room = room; rows = map (row_of cells) places } ≡ s → length s.rows ≡ length places
rows_shown places cells s is = ap (λ (x : SegmentValue). length x.rows) (sym is) ∙ length-map places (row_of cells)

module _ (number room capacity : ℕ) (places : List Place) (cells : CellsValue) (head bytes : ℕ) (sound : IsSound places cells room capacity head) (kept : AreBytes places cells bytes) where
  shown : SegmentValue
  shown = record { number = number; room = room; rows = map (row_of cells) places }

  rows : length (map (row_of cells) places) ≡ length places
  rows = length-map places (row_of cells)

  lives : living (record { number = number; room = room; rows = map (row_of cells) places }) ≡ count_held cells
  lives = taken_rows places cells sound.placed ∙ sym sound.sized.counted

  pub living_is : (s : SegmentValue) → record { number = number; room = room; rows = map (row_of cells) places } ≡ s → living s ≡ count_held cells
  living_is s is = ap (λ (x : SegmentValue). living x) (sym is) ∙ lives

  few : (serial : ℕ) (row : Row) → row_at (record { number = number; room = room; rows = map (row_of cells) places }) serial ≡ Some row → length row.fields ≤ 16
  few serial row at =
      let l = lies_in number room places cells (record { number = number; room = room; rows = map (row_of cells) places }) row.slot serial row refl (record { there = at; slot_is = refl }) in
      omega (arith, (sound.kept row.slot l.cell l.there).few, ap (λ (r : Row). length r.fields) l.row_is)

  one_serial : (i j : ℕ) (one other : Row) → row_at (record { number = number; room = room; rows = map (row_of cells) places }) i ≡ Some one →
      row_at (record { number = number; room = room; rows = map (row_of cells) places }) j ≡ Some other → one.slot ≡ other.slot → i ≡ j
  one_serial i j one other at there slots =
      let a = lies_in number room places cells (record { number = number; room = room; rows = map (row_of cells) places }) one.slot i one refl (record { there = at; slot_is = refl }) in
      let b = lies_in number room places cells (record { number = number; room = room; rows = map (row_of cells) places }) other.slot j other refl (record { there = there; slot_is = refl }) in
      let p = sound.placed i one.slot a.mark a.at in
      let q = sound.placed j other.slot b.mark b.at in
      let same : p.cell ≡ q.cell = same_cell (sym p.there ∙ ap (get cells) slots ∙ q.there) in
      sym p.serial_is ∙ ap (λ (x : Cell). x.serial.0) same ∙ q.serial_is

  bytes_most : segment_bytes (record { number = number; room = room; rows = map (row_of cells) places }) ≤ 144 * made (record { number = number; room = room; rows = map (row_of cells) places })
  bytes_most = omega (arith, bytes_shown number 0 (map (row_of cells) places), kept.counted, kept.small, rows)

  pub segment_sound : (s : SegmentValue) → record { number = number; room = room; rows = map (row_of cells) places } ≡ s → IsSegment s
  segment_sound s is = subst (λ (x : SegmentValue). IsSegment x) is (record {
    begun = omega (arith, rows, sound.begun);
    first = no_row number room places cells (record { number = number; room = room; rows = map (row_of cells) places }) 0 refl sound.first;
    within = omega (arith, lives, sound.sized.within);
    given = omega (arith, rows, sound.begun, sound.sized.given);
    small = omega (arith, sound.sized.fits, sound.sized.keys);
    fields = few;
    bytes = bytes_most;
    apart = one_serial;
  })
