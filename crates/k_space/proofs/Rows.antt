-- What the rows of a segment are after a change.
use Rattle.std.proofs.Common.{◌≡◌, ◌≢◌, ℕ, zero, suc, ◌<◌, ◌≤◌, Bool, true, false, cond, refl, sym, ap, ap₂, subst, ◌∙◌, inl, inr, List, [], ◌∷◌, ◌++◌, length, map, take, get_or, set, Option, Some, None, is_some, count_by, arith}
use Rattle.k_types.proofs.Lists.{some_one}
use Rattle.std.proofs.Math.ListN.{get_or-map}
use Rattle.std.proofs.Math.Seq.{map-set_same}
use Rattle.std.proofs.lemmas.Bool.{cases_eq}
use Rattle.std.proofs.lemmas.List.Sums.{sum_by-cons}
use Rattle.std.proofs.lemmas.List.{get_or-set_same, get_or-set_other, length-set, map-set, set-get_or, length-map, get_or_default}
use Rattle.k_space.specs.Cells.{CellsValue, get, with_cell}
use Rattle.k_space.specs.declared.marks.Place.{Place}
use Rattle.k_space.specs.declared.marks.Place.TheVariants.{Empty, At}
use Rattle.k_space.specs.declared.marks.Mark.{Mark}
use Rattle.k_space.specs.declared.marks.Mark.TheVariants.{White as MarkWhite, Gray as MarkGray, Black as MarkBlack}
use Rattle.k_space.specs.Bounds.{is_covered}
use Rattle.k_space.specs.declared.body.Stored.{Stored}
use Rattle.k_space.specs.declared.bound.Bound.{Bound}
use Rattle.k_space.specs.declared.cells.Cell.{Cell}
use Rattle.k_space.specs.Segments.{Gray, Row, SegmentValue, LiesAt, row_at, with_row, some_gray, unmarked_row}
use Rattle.k_space.specs.Places.{row_of, row_in, color_of, IsSized, IsSound, IsPlaced, IsKept, IsGrayList, is_gray_place, is_taken, white_place}
use Rattle.k_space.specs.Visiting.{AreHeld, IsVisitedFromIn}
use Rattle.k_space.proofs.GrayLists.{At_inside}
use Rattle.k_space.proofs.Taken.{same_sized, taken_map, taken_recolored}

pub front_whole : {A : Type 0} (xs ys : List A) (n : ℕ) → length xs ≡ n → take n (xs ++ ys) ≡ xs
front_whole [] ys zero e = refl
front_whole [] ys (suc n) e = absurd (omega arith)
front_whole (x ∷ xs) ys zero e = absurd (omega arith)
front_whole (x ∷ xs) ys (suc n) e = ap (λ zs. x ∷ zs) (front_whole xs ys n (omega (arith, e)))

-- two maps of one list that agree at each place
pub maps_agree : {A B : Type 0} (f g : A → B) (xs : List A) (d : A) → ((j : ℕ) → f (get_or xs j d) ≡ g (get_or xs j d)) → map f xs ≡ map g xs
maps_agree f g [] d h = refl
maps_agree f g (x ∷ xs) d h = ap₂ (λ y ys. y ∷ ys) (h 0) (maps_agree f g xs d (λ j. h (suc j)))

-- two maps of one list that agree at each place but one
pub maps_agree_but : {A B : Type 0} (f g : A → B) (xs : List A) (d : A) (i : ℕ) (y : B) → i < length xs → f (get_or xs i d) ≡ y → ((j : ℕ) → j ≢ i → f (get_or xs j d) ≡ g (get_or xs j d)) → map f xs ≡ set (map g xs) i y
maps_agree_but f g [] d i y within here h = absurd (omega arith)
maps_agree_but f g (x ∷ xs) d zero y within here h = ap₂ (λ y ys. y ∷ ys) here (maps_agree f g xs d (λ j. h (suc j) (omega arith)))
maps_agree_but f g (x ∷ xs) d (suc i) y within here h =
    ap₂ (λ y ys. y ∷ ys) (h 0 (omega arith)) (maps_agree_but f g xs d i y (omega (arith, within)) here (λ j ne. h (suc j) (omega (arith, ne))))

-- lists that agree at each place but one, where both have the same
pub set_agree : {A : Type 0} (xs ys : List A) (i : ℕ) (y d : A) → length xs ≡ length ys → ((j : ℕ) → j ≢ i → get_or xs j d ≡ get_or ys j d) → set xs i y ≡ set ys i y
set_agree [] [] i y d len h = refl
set_agree [] (b ∷ ys) i y d len h = absurd (omega arith)
set_agree (a ∷ xs) [] i y d len h = absurd (omega arith)
set_agree (a ∷ xs) (b ∷ ys) zero y d len h = ap (λ rest. y ∷ rest) (all_agree xs ys d (omega (arith, len)) (λ j. h (suc j) (omega arith)))
  where
    all_agree : {A : Type 0} (xs ys : List A) (d : A) → length xs ≡ length ys → ((j : ℕ) → get_or xs j d ≡ get_or ys j d) → xs ≡ ys
    all_agree [] [] d len h = refl
    all_agree [] (b ∷ ys) d len h = absurd (omega arith)
    all_agree (a ∷ xs) [] d len h = absurd (omega arith)
    all_agree (a ∷ xs) (b ∷ ys) d len h = ap₂ (λ z zs. z ∷ zs) (h 0) (all_agree xs ys d (omega (arith, len)) (λ j. h (suc j)))
set_agree (a ∷ xs) (b ∷ ys) (suc i) y d len h = ap₂ (λ z zs. z ∷ zs) (h 0 (omega arith)) (set_agree xs ys i y d (omega (arith, len)) (λ j ne. h (suc j) (omega (arith, ne))))

-- what the segment has at a serial
pub row_at_view : (cells : CellsValue) (places : List Place) (i : ℕ) → get_or (map (row_of cells) places) i None ≡ row_of cells (get_or places i Empty)
row_at_view cells places i = get_or-map (row_of cells) places i Empty

pub same_At : (s t : ℕ) (m n : Mark) → At s m ≡ At t n → (s ≡ t) × (m ≡ n)
same_At s t m n e = (cc, cc)

-- what holds of places and slots, but for the list of gray places
pub record AreKept (places : List Place) (cells : CellsValue) (room capacity : ℕ) : Type 0 where
  pub first : get_or places 0 Empty ≡ Empty
  pub begun : 0 < length places
  pub sized : IsSized places cells room capacity
  pub placed : (i slot : ℕ) (mark : Mark) → get_or places i Empty ≡ At slot mark → IsPlaced cells i slot
  pub kept : (slot : ℕ) (cell : Cell) → get cells slot ≡ Some cell → IsKept places slot cell

pub kept_of : (places : List Place) (cells : CellsValue) (room capacity head : ℕ) → IsSound places cells room capacity head → AreKept places cells room capacity
kept_of places cells room capacity head sound = record {
  first = sound.first;
  begun = sound.begun;
  sized = sound.sized;
  placed = sound.placed;
  kept = sound.kept;
}

pub sound_of : (places : List Place) (cells : CellsValue) (room capacity head : ℕ) → AreKept places cells room capacity → IsGrayList places (count_by is_gray_place places) head → IsSound places cells room capacity head
sound_of places cells room capacity head kept grays = record {
  first = kept.first;
  begun = kept.begun;
  sized = kept.sized;
  placed = kept.placed;
  kept = kept.kept;
  grays = grays;
}

-- another mark at one place
pub recolored_kept : (places : List Place) (cells : CellsValue) (room capacity i slot : ℕ) (m n : Mark) → AreKept places cells room capacity → get_or places i Empty ≡ At slot m → AreKept (set places i (At slot n)) cells room capacity
recolored_kept places cells room capacity i slot m n sound here =
    let not_first : 0 ≢ i = λ e. apart e in
    record {
      first = get_or-set_other places i 0 (At slot n) Empty not_first ∙ sound.first;
      begun = omega (arith, length-set places i (At slot n), sound.begun);
      sized = same_sized places (set places i (At slot n)) cells room capacity (length-set places i (At slot n)) (taken_recolored places i slot m n here) sound.sized;
      placed = placed_after;
      kept = kept_after;
    }
  where
    within : i < length places
    within = At_inside places i slot m here

    apart : 0 ≡ i → ⊥
    apart e = let at : get_or places i Empty ≡ Empty = ap (λ k. get_or places k Empty) (sym e) ∙ sound.first in cc

    placed_after : (j s : ℕ) (mark : Mark) → get_or (set places i (At slot n)) j Empty ≡ At s mark → IsPlaced cells j s
    placed_after j s mark e =
        elim (cases_eq j i) [
          | inl same ↦
              let at : At slot n ≡ At s mark = sym (get_or-set_same places i (At slot n) Empty within) ∙ ap (λ k. get_or (set places i (At slot n)) k Empty) (sym same) ∙ e in
              sound.placed j s m (ap (λ k. get_or places k Empty) same ∙ here ∙ ap (λ t. At t m) (same_At slot s n mark at).0)
          | inr differs ↦ sound.placed j s mark (sym (get_or-set_other places i j (At slot n) Empty differs) ∙ e)
        ]

    kept_after : (s : ℕ) (cell : Cell) → get cells s ≡ Some cell → IsKept (set places i (At slot n)) s cell
    kept_after s cell e =
        let was = sound.kept s cell e in
        elim (cases_eq cell.serial.0 i) [
          | inl same ↦
              let at : At s was.mark ≡ At slot m = sym was.there ∙ ap (λ k. get_or places k Empty) same ∙ here in
              record {
                mark = n;
                there = ap (λ k. get_or (set places i (At slot n)) k Empty) same ∙ get_or-set_same places i (At slot n) Empty within ∙ ap (λ t. At t n) (sym (same_At s slot was.mark m at).0);
                few = was.few;
              }
          | inr differs ↦ record { mark = was.mark; there = get_or-set_other places i cell.serial.0 (At slot n) Empty differs ∙ was.there; few = was.few }
        ]

pub recolored : (places : List Place) (cells : CellsValue) (room capacity head after i slot : ℕ) (m n : Mark) → IsSound places cells room capacity head → get_or places i Empty ≡ At slot m →
    IsGrayList (set places i (At slot n)) (count_by is_gray_place (set places i (At slot n))) after → IsSound (set places i (At slot n)) cells room capacity after
recolored places cells room capacity head after i slot m n sound here grays =
    sound_of (set places i (At slot n)) cells room capacity after (recolored_kept places cells room capacity i slot m n (kept_of places cells room capacity head sound) here) grays

-- another gray place that follows changes no row
pub followed_view : (number room : ℕ) (places : List Place) (cells : CellsValue) (i slot next after : ℕ) → get_or places i Empty ≡ At slot (MarkGray next) →
    ◌≡◌ {A = SegmentValue} (record { number = number; room = room; rows = map (row_of cells) (set places i (At slot (MarkGray after))) }) (record { number = number; room = room; rows = map (row_of cells) places })
followed_view number room places cells i slot next after here =
    ap (λ (rs : List (Option Row)). record { number = number; room = room; rows = rs })
    (map-set_same (row_of cells) places i (At slot (MarkGray after)) Empty (same_gray slot after next (get cells slot) ∙ sym (ap (row_of cells) here)))
  where
    same_gray : (slot m n : ℕ) (o : Option Cell) → row_in slot (MarkGray m) o ≡ row_in slot (MarkGray n) o
    same_gray slot m n None = refl
    same_gray slot m n (Some cell) = refl

row_in_recolored : (slot : ℕ) (m n : Mark) (row : Row) (o : Option Cell) → row_in slot m o ≡ Some row → row_in slot n o ≡ Some (record row { color = color_of n })
row_in_recolored slot m n row None e = absurd (cc)
row_in_recolored slot m n row (Some cell) e =
    let same : record { slot = slot; color = color_of m; ty = cell.body.ty; fields = cell.body.fields } ≡ row = some_one e in
    ap (λ (r : Row). Some (record r { color = color_of n })) same

-- what a contract sees of it
pub recolored_view : (number room : ℕ) (places : List Place) (cells : CellsValue) (i slot : ℕ) (m n : Mark) (s : SegmentValue) (row : Row) →
    record { number = number; room = room; rows = map (row_of cells) places } ≡ s → get_or places i Empty ≡ At slot m → row_at s i ≡ Some row →
    record { number = number; room = room; rows = map (row_of cells) (set places i (At slot n)) } ≡ with_row s i (Some (record row { color = color_of n }))
recolored_view number room places cells i slot m n s row is here at =
    let had : row_in slot m (get cells slot) ≡ Some row = ap (row_of cells) (sym here) ∙ sym (row_at_view cells places i) ∙ ap (λ (x : SegmentValue). row_at x i) is ∙ at in
    let rows : map (row_of cells) (set places i (At slot n)) ≡ set (map (row_of cells) places) i (Some (record row { color = color_of n })) =
    map-set (row_of cells) places i (At slot n) ∙ ap (set (map (row_of cells) places) i) (row_in_recolored slot m n row (get cells slot) had) in
    let step : record { number = number; room = room; rows = map (row_of cells) (set places i (At slot n)) } ≡ with_row (record { number = number; room = room; rows = map (row_of cells) places }) i (Some (record row { color = color_of n })) =
    ap (λ (rs : List (Option Row)). record { number = number; room = room; rows = rs }) rows in
    step ∙ ap (λ (x : SegmentValue). with_row x i (Some (record row { color = color_of n }))) is

-- how a live object lies in the segment
pub record Lies (places : List Place) (cells : CellsValue) (slot serial : ℕ) (row : Row) : Type 0 where
  pub mark : Mark
  pub cell : Cell
  pub at : get_or places serial Empty ≡ At slot mark
  pub there : get cells slot ≡ Some cell
  pub row_is : row ≡ record { slot = slot; color = color_of mark; ty = cell.body.ty; fields = cell.body.fields }

lies_place : (places : List Place) (cells : CellsValue) (slot serial : ℕ) (row : Row) (p : Place) → get_or places serial Empty ≡ p → row_of cells p ≡ Some row → row.slot ≡ slot → Lies places cells slot serial row
lies_place places cells slot serial row Empty e r at = absurd (cc)
lies_place places cells slot serial row (At s mark) e r at = lies_cell (get cells s) refl r
  where
    lies_cell : (o : Option Cell) → get cells s ≡ o → row_in s mark o ≡ Some row → Lies places cells slot serial row
    lies_cell None g r = absurd (cc)
    lies_cell (Some cell) g r =
        let same : record { slot = s; color = color_of mark; ty = cell.body.ty; fields = cell.body.fields } ≡ row = some_one r in
        let slots : s ≡ slot = ap (λ (x : Row). x.slot) same ∙ at in
        record {
          mark = mark;
          cell = cell;
          at = e ∙ ap (λ t. At t mark) slots;
          there = ap (get cells) (sym slots) ∙ g;
          row_is = sym same ∙ ap (λ t. record { slot = t; color = color_of mark; ty = cell.body.ty; fields = cell.body.fields }) slots;
        }

pub lies_in : (number room : ℕ) (places : List Place) (cells : CellsValue) (s : SegmentValue) (slot serial : ℕ) (row : Row) →
    record { number = number; room = room; rows = map (row_of cells) places } ≡ s → LiesAt s slot serial row → Lies places cells slot serial row
lies_in number room places cells s slot serial row is lies =
    lies_place places cells slot serial row (get_or places serial Empty) refl
    (sym (row_at_view cells places serial) ∙ ap (λ (x : SegmentValue). row_at x serial) is ∙ lies.there) lies.slot_is

-- a row that is gray
pub gray_row : (cells : CellsValue) (p : Place) → is_gray_place p ≡ false → some_gray (row_of cells p) ≡ false
gray_row cells Empty e = refl
gray_row cells (At slot mark) e = by_cell mark (get cells slot) e
  where
    by_cell : (mark : Mark) (o : Option Cell) → is_gray_place (At slot mark) ≡ false → some_gray (row_in slot mark o) ≡ false
    by_cell mark None e = refl
    by_cell MarkWhite (Some cell) e = refl
    by_cell (MarkGray next) (Some cell) e = absurd (cc)
    by_cell MarkBlack (Some cell) e = refl

-- the row of a place in use
pub row_there : (number room : ℕ) (places : List Place) (cells : CellsValue) (s : SegmentValue) (i slot : ℕ) (mark : Mark) (o : Option Cell) →
    record { number = number; room = room; rows = map (row_of cells) places } ≡ s → get_or places i Empty ≡ At slot mark → get cells slot ≡ o → row_at s i ≡ row_in slot mark o
row_there number room places cells s i slot mark o is here found =
    ap (λ (x : SegmentValue). row_at x i) (sym is) ∙ row_at_view cells places i ∙ ap (row_of cells) here ∙ ap (row_in slot mark) found

pub no_row : (number room : ℕ) (places : List Place) (cells : CellsValue) (s : SegmentValue) (i : ℕ) →
    record { number = number; room = room; rows = map (row_of cells) places } ≡ s → get_or places i Empty ≡ Empty → row_at s i ≡ None
no_row number room places cells s i is here = ap (λ (x : SegmentValue). row_at x i) (sym is) ∙ row_at_view cells places i ∙ ap (row_of cells) here

-- a row that stays as it was
pub kept_view : (s : SegmentValue) (i : ℕ) (row : Row) → row_at s i ≡ Some row → s ≡ with_row s i (Some row)
kept_view s i row at = ap (λ (rs : List (Option Row)). record s { rows = rs }) (sym (set-get_or s.rows i None) ∙ ap (set s.rows i) at)

-- a place that was read
pub read_at : (places : List Place) (i : ℕ) (p q : Place) → i < length places → p ≡ get_or places i p → p ≡ q → get_or places i Empty ≡ q
read_at places i p q within read is = get_or_default places i Empty p within ∙ sym read ∙ is

-- the first gray object, made black
pub visited : (b : Bound) (number room : ℕ) (places : List Place) (cells : CellsValue) (s : SegmentValue) (i slot next : ℕ) (cell : Cell) (count : ℕ) (list : List Stored) →
    record { number = number; room = room; rows = map (row_of cells) places } ≡ s → get_or places i Empty ≡ At slot (MarkGray next) → get cells slot ≡ Some cell → count ≤ 16 → (is_covered b (record { seg = record { 0 = number }; serial = record { 0 = i } }) ≡ false → AreHeld cell.body.fields count list) →
    IsVisitedFromIn b s (record { number = number; room = room; rows = map (row_of cells) (set places i (At slot MarkBlack)) }) (record { name = record { seg = record { 0 = number }; serial = record { 0 = i } }; fields = count }) list
visited b number room places cells s i slot next cell count list is here found most held =
    let row : Row = record { slot = slot; color = Gray; ty = cell.body.ty; fields = cell.body.fields } in
    let at : row_at s i ≡ Some row = row_there number room places cells s i slot (MarkGray next) (Some cell) is here found in
    record {
      row = row;
      number = ap (λ (x : SegmentValue). x.number) is;
      there = at;
      was = refl;
      now = recolored_view number room places cells i slot (MarkGray next) MarkBlack s row is here at;
      most = most;
      held = held;
    }

abbrev pub bit : Bool → ℕ
bit b = cond b 1 0

count_some : (slots : List (Option Cell)) (key : ℕ) (cell new : Cell) → get_or slots key None ≡ Some cell → count_by is_some (set slots key (Some new)) ≡ count_by is_some slots
count_some [] key cell new e = refl
count_some (x ∷ xs) zero cell new e =
    let on : is_some x ≡ true = ap is_some e in
    omega (arith, sum_by-cons (λ o. bit (is_some o)) x xs, sum_by-cons (λ (o : Option Cell). bit (is_some o)) (Some new) xs, ap bit on)
count_some (x ∷ xs) (suc key) cell new e =
    omega (arith, sum_by-cons (λ (o : Option Cell). cond (is_some o) 1 0) x xs, sum_by-cons (λ (o : Option Cell). cond (is_some o) 1 0) x (set xs key (Some new)), count_some xs key cell new e)

pub slot_inside : (slots : List (Option Cell)) (key : ℕ) (cell : Cell) → get_or slots key None ≡ Some cell → key < length slots
slot_inside [] key cell e = absurd (cc)
slot_inside (x ∷ xs) zero cell e = omega arith
slot_inside (x ∷ xs) (suc key) cell e = omega (arith, slot_inside xs key cell e)

pub same_cell : {x y : Cell} → ◌≡◌ {A = Option Cell} (Some x) (Some y) → x ≡ y
same_cell e = cc

-- another body in one slot
pub rewritten : (places : List Place) (cells : CellsValue) (room capacity : ℕ) (head : ℕ) (slot : ℕ) (cell new : Cell) → IsSound places cells room capacity head → get cells slot ≡ Some cell → new.serial.0 ≡ cell.serial.0 → length new.body.fields ≡ length cell.body.fields →
    IsSound places (with_cell cells slot new) room capacity head
rewritten places cells room capacity head slot cell new sound found serial fields =
    record {
      first = sound.first;
      begun = sound.begun;
      sized = record {
        given = sound.sized.given;
        counted = count_some cells.slots slot cell new found ∙ sound.sized.counted;
        within = omega (arith, count_some cells.slots slot cell new found, sound.sized.within);
        fits = sound.sized.fits;
        slots = sound.sized.slots;
        keys = sound.sized.keys;
      };
      placed = placed_after;
      kept = kept_after;
      grays = sound.grays;
    }
  where
    inside : slot < length cells.slots
    inside = slot_inside cells.slots slot cell found

    here : get (with_cell cells slot new) slot ≡ Some new
    here = get_or-set_same cells.slots slot (Some new) None inside

    placed_after : (j s : ℕ) (mark : Mark) → get_or places j Empty ≡ At s mark → IsPlaced (with_cell cells slot new) j s
    placed_after j s mark e =
        let was = sound.placed j s mark e in
        elim (cases_eq s slot) [
          | inl same ↦
              let one : was.cell ≡ cell = same_cell (sym was.there ∙ ap (get cells) same ∙ found) in
              record { cell = new; there = ap (get (with_cell cells slot new)) same ∙ here; serial_is = serial ∙ ap (λ (x : Cell). x.serial.0) (sym one) ∙ was.serial_is }
          | inr differs ↦ record { cell = was.cell; there = get_or-set_other cells.slots slot s (Some new) None differs ∙ was.there; serial_is = was.serial_is }
        ]

    kept_after : (s : ℕ) (x : Cell) → get (with_cell cells slot new) s ≡ Some x → IsKept places s x
    kept_after s x e =
        elim (cases_eq s slot) [
          | inl same ↦
              let one : new ≡ x = same_cell (sym here ∙ ap (get (with_cell cells slot new)) (sym same) ∙ e) in
              let was = sound.kept slot cell found in
              record { mark = was.mark; there = ap (λ (c : Cell). get_or places c.serial.0 Empty) (sym one) ∙ ap (λ k. get_or places k Empty) serial ∙ was.there ∙ ap (λ t. At t was.mark) (sym same); few = omega (arith, fields, was.few, ap (λ (c : Cell). length c.body.fields) one) }
          | inr differs ↦ sound.kept s x (sym (get_or-set_other cells.slots slot s (Some new) None differs) ∙ e)
        ]

-- what a contract sees of it
pub rewritten_view : (number room capacity : ℕ) (places : List Place) (cells : CellsValue) (head : ℕ) (s : SegmentValue) (slot serial : ℕ) (cell new : Cell) (row : Row) → IsSound places cells room capacity head →
    record { number = number; room = room; rows = map (row_of cells) places } ≡ s → get cells slot ≡ Some cell → LiesAt s slot serial row → new.body.ty ≡ row.ty →
    record { number = number; room = room; rows = map (row_of (with_cell cells slot new)) places } ≡ with_row s serial (Some (record row { fields = new.body.fields }))
rewritten_view number room capacity places cells head s slot serial cell new row sound is found lies tys =
    let l = lies_in number room places cells s slot serial row is lies in
    let inside = slot_inside cells.slots slot cell found in
    let here : row_of (with_cell cells slot new) (get_or places serial Empty) ≡ Some (record row { fields = new.body.fields }) =
    ap (row_of (with_cell cells slot new)) l.at ∙ ap (row_in slot l.mark) (get_or-set_same cells.slots slot (Some new) None inside)
    ∙ ap (λ (r : Row). Some (record r { ty = new.body.ty; fields = new.body.fields })) (sym l.row_is)
    ∙ ap (λ t. Some (record row { ty = t; fields = new.body.fields })) tys in
    let rows : map (row_of (with_cell cells slot new)) places ≡ set (map (row_of cells) places) serial (Some (record row { fields = new.body.fields })) =
    maps_agree_but (row_of (with_cell cells slot new)) (row_of cells) places Empty serial (Some (record row { fields = new.body.fields })) (At_inside places serial slot l.mark l.at) here (λ j differs. others j differs (get_or places j Empty) refl) in
    ap (λ (rs : List (Option Row)). record { number = number; room = room; rows = rs }) rows
    ∙ ap (λ (x : SegmentValue). with_row x serial (Some (record row { fields = new.body.fields }))) is
  where
    others : (j : ℕ) → j ≢ serial → (p : Place) → get_or places j Empty ≡ p → row_of (with_cell cells slot new) p ≡ row_of cells p
    others j differs Empty e = refl
    others j differs (At t mark) e =
        ap (row_in t mark) (get_or-set_other cells.slots slot t (Some new) None apart)
      where
        apart : t ≢ slot
        apart same =
            let l = lies_in number room places cells s slot serial row is lies in
            let a = sound.placed j t mark e in
            let b = sound.placed serial slot l.mark l.at in
            let one : a.cell ≡ b.cell = same_cell (sym a.there ∙ ap (get cells) same ∙ b.there) in
            differs (sym a.serial_is ∙ ap (λ (x : Cell). x.serial.0) one ∙ b.serial_is)

-- no marks
pub white_there : (places : List Place) (j s : ℕ) (mark : Mark) → get_or (map white_place places) j Empty ≡ At s mark → (was : Mark) × (get_or places j Empty ≡ At s was)
white_there places j s mark e = by_place (get_or places j Empty) refl
  where
    by_place : (p : Place) → get_or places j Empty ≡ p → (was : Mark) × (get_or places j Empty ≡ At s was)
    by_place Empty is = let none : Empty ≡ At s mark = sym (get_or-map white_place places j Empty ∙ ap white_place is) ∙ e in absurd (cc)
    by_place (At t m) is =
        let at : At t MarkWhite ≡ At s mark = sym (get_or-map white_place places j Empty ∙ ap white_place is) ∙ e in
        (m, is ∙ ap (λ x. At x m) (same_At t s MarkWhite mark at).0)

no_gray_left : (places : List Place) → count_by is_gray_place (map white_place places) ≡ 0
no_gray_left [] = refl
no_gray_left (p ∷ places) = omega (arith, sum_by-cons (λ x. bit (is_gray_place x)) (white_place p) (map white_place places), not_gray p, no_gray_left places)
  where
    not_gray : (p : Place) → bit (is_gray_place (white_place p)) ≡ 0
    not_gray Empty = refl
    not_gray (At slot mark) = refl

pub taken_white : (p : Place) → is_taken (white_place p) ≡ is_taken p
taken_white Empty = refl
taken_white (At slot mark) = refl

pub whitened : (places : List Place) (cells : CellsValue) (room capacity : ℕ) (head : ℕ) → IsSound places cells room capacity head → IsSound (map white_place places) cells room capacity 0
whitened places cells room capacity head sound =
    record {
      first = get_or-map white_place places 0 Empty ∙ ap white_place sound.first;
      begun = omega (arith, length-map places white_place, sound.begun);
      sized = same_sized places (map white_place places) cells room capacity (length-map places white_place) (taken_map white_place taken_white places) sound.sized;
      placed = λ j s mark e. let was = white_there places j s mark e in sound.placed j s was.0 was.1;
      kept = λ s x e. let was = sound.kept s x e in record { mark = MarkWhite; there = get_or-map white_place places x.serial.0 Empty ∙ ap white_place was.there; few = was.few };
      grays = subst (λ (n : ℕ). IsGrayList (map white_place places) n 0) (sym (no_gray_left places)) refl;
    }

white_row : (cells : CellsValue) (p : Place) → row_of cells (white_place p) ≡ unmarked_row (row_of cells p)
white_row cells Empty = refl
white_row cells (At slot mark) = by_cell (get cells slot)
  where
    by_cell : (o : Option Cell) → row_in slot MarkWhite o ≡ unmarked_row (row_in slot mark o)
    by_cell None = refl
    by_cell (Some cell) = refl

pub whitened_rows : (cells : CellsValue) (places : List Place) → map (row_of cells) (map white_place places) ≡ map unmarked_row (map (row_of cells) places)
whitened_rows cells [] = refl
whitened_rows cells (p ∷ places) = ap₂ (λ y ys. y ∷ ys) (white_row cells p) (whitened_rows cells places)
