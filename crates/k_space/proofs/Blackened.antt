-- Places of which those of the lower serials are black.
use Rattle.std.proofs.Common.{◌≡◌, ◌≢◌, ◌⊎◌, ℕ, zero, suc, ◌+◌, ◌<◌, ◌≤◌, false, refl, sym, ap, ap₂, subst, ◌∙◌, inl, inr, List, [], ◌∷◌, length, map, get_or, slice_get, set, Option, Some, None, count_by, arith}
use Rattle.std.proofs.lemmas.Bool.{cases_eq, false≢true}
use Rattle.std.proofs.lemmas.List.Sums.{sum_by-cons}
use Rattle.std.proofs.lemmas.List.{get_or-set_same, get_or-set_other, length-set}
use Rattle.k_space.specs.Cells.{CellsValue, get}
use Rattle.k_types.proofs.Lists.{some_inside}
use Rattle.k_types.specs.Totals.{total}
use Rattle.k_types.specs.declared.names.Name.{Name}
use Rattle.k_space.specs.declared.marks.Place.{Place}
use Rattle.k_space.specs.declared.marks.Place.TheVariants.{Empty, At}
use Rattle.k_space.specs.declared.marks.Mark.{Mark}
use Rattle.k_space.specs.declared.marks.Mark.TheVariants.{White as MarkWhite, Gray as MarkGray, Black as MarkBlack}
use Rattle.k_space.specs.declared.cells.Cell.{Cell}
use Rattle.k_space.specs.Segments.{Row, SegmentValue, row_at, some_gray, blackened_row, blackened_rows}
use Rattle.k_space.specs.Areas.{HasDistinct, row_in_segment, row_of_name, segment_at}
use Rattle.k_space.specs.Places.{row_of, row_in, row_bytes, AreBytes, IsSound, IsGrayList, IsLastGray, is_gray_place, is_taken, is_white_place, black_place, black_places}
use Rattle.k_space.specs.Listed.{AreBlackened, AreInFront, IsListed}
use Rattle.k_space.proofs.GrayLists.{bit}
use Rattle.k_space.proofs.Numbers.{found_at}
use Rattle.k_space.proofs.Taken.{same_sized}
use Rattle.k_space.proofs.Rows.{row_at_view, same_At}

-- the loop
pub none_blackened : (live : List ℕ) (below : ℕ) (places : List Place) → AreBlackened live below 0 places places
none_blackened live below places = record { len = refl; each = λ i. inl refl; done = λ k low. absurd (omega (arith, low)) }

black_again : (p : Place) → black_place (black_place p) ≡ black_place p
black_again Empty = refl
black_again (At slot mark) = refl

black_same : (live : List ℕ) (below count : ℕ) (old now : List Place) → AreBlackened live below count old now → (i : ℕ) → black_place (get_or now i Empty) ≡ black_place (get_or old i Empty)
black_same live below count old now was i =
    elim (was.each i) [
      | inl same ↦ ap black_place same
      | inr black ↦ ap black_place black.1 ∙ black_again (get_or old i Empty)
    ]

pub one_blackened : (live : List ℕ) (below count serial : ℕ) (old now : List Place) → AreBlackened live below count old now → serial ≡ get_or live count 0 → serial < below → serial < length now →
    AreBlackened live below (count + 1) old (set now serial (black_place (get_or now serial Empty)))
one_blackened live below count serial old now was is low within = record {
  len = length-set now serial (black_place (get_or now serial Empty)) ∙ was.len;
  each = λ i.
      elim (cases_eq i serial) [
        | inl same ↦ inr (omega (arith, same, low), here i same)
        | inr differs ↦ let stays = get_or-set_other now serial i (black_place (get_or now serial Empty)) Empty differs in elim (was.each i) [ inl e ↦ inl (stays ∙ e) | inr e ↦ inr (e.0, stays ∙ e.1) ]
      ];
  done = λ k before lower.
      elim (cases_eq (get_or live k 0) serial) [
        | inl same ↦ here (get_or live k 0) same
        | inr differs ↦ get_or-set_other now serial (get_or live k 0) (black_place (get_or now serial Empty)) Empty differs ∙ was.done k (earlier k before differs) lower
      ];
}
  where
    here : (i : ℕ) → i ≡ serial → get_or (set now serial (black_place (get_or now serial Empty))) i Empty ≡ black_place (get_or old i Empty)
    here i same =
        ap (λ k. get_or (set now serial (black_place (get_or now serial Empty))) k Empty) same
        ∙ get_or-set_same now serial (black_place (get_or now serial Empty)) Empty within
        ∙ black_same live below count old now was serial
        ∙ ap (λ k. black_place (get_or old k Empty)) (sym same)

    earlier : (k : ℕ) → k < count + 1 → get_or live k 0 ≢ serial → k < count
    earlier k before differs =
        elim (cases_eq k count) [
          | inl same ↦ absurd (differs (ap (λ n. get_or live n 0) same ∙ sym is))
          | inr apart ↦ omega (arith, before, apart)
        ]

pub passed_blackened : (live : List ℕ) (below count : ℕ) (old now : List Place) → AreBlackened live below count old now → below ≤ get_or live count 0 → AreBlackened live below (count + 1) old now
passed_blackened live below count old now was high = record {
  len = was.len;
  each = was.each;
  done = λ k before lower.
      elim (cases_eq k count) [
        | inl same ↦ let at : get_or live k 0 ≡ get_or live count 0 = ap (λ n. get_or live n 0) same in absurd (omega (arith, at, lower, high))
        | inr apart ↦ was.done k (omega (arith, before, apart)) lower
      ];
}

pub one_in_front : (live : List ℕ) (below front i : ℕ) → AreInFront live below front → front ≡ i → i < length live → get_or live i 0 < below → AreInFront live below (front + 1)
one_in_front live below front i was same within low = record {
  within = omega (arith, same, within);
  low = λ k before.
      elim (cases_eq k i) [
        | inl here ↦ let at : get_or live k 0 ≡ get_or live i 0 = ap (λ n. get_or live n 0) here in omega (arith, at, low)
        | inr apart ↦ was.low k (omega (arith, before, same, apart))
      ];
}

-- what it leaves
all_agree : (xs ys : List Place) → length xs ≡ length ys → ((i : ℕ) → get_or xs i Empty ≡ get_or ys i Empty) → xs ≡ ys
all_agree [] [] len h = refl
all_agree [] (b ∷ ys) len h = absurd (omega arith)
all_agree (a ∷ xs) [] len h = absurd (omega arith)
all_agree (a ∷ xs) (b ∷ ys) len h = ap₂ (λ z zs. z ∷ zs) (h 0) (all_agree xs ys (omega (arith, len)) (λ i. h (suc i)))

black_places_are : (below : ℕ) (new old : List Place) → length new ≡ length old → ((i : ℕ) → i < below → get_or new i Empty ≡ black_place (get_or old i Empty)) → ((i : ℕ) → below ≤ i → get_or new i Empty ≡ get_or old i Empty) →
    new ≡ black_places below old
black_places_are zero new old len low high = all_agree new old len (λ i. high i (omega arith))
black_places_are (suc n) [] [] len low high = refl
black_places_are (suc n) [] (q ∷ old) len low high = absurd (omega arith)
black_places_are (suc n) (p ∷ new) [] len low high = absurd (omega arith)
black_places_are (suc n) (p ∷ new) (q ∷ old) len low high =
    ap₂ (λ z zs. z ∷ zs) (low 0 (omega arith)) (black_places_are n new old (omega (arith, len)) (λ i below. low (suc i) (omega (arith, below))) (λ i above. high (suc i) (omega (arith, above))))

pub blackened_is : (live : List ℕ) (below passed : ℕ) (old new : List Place) → IsListed old live passed → AreBlackened live below (length live) old new → new ≡ black_places below old
blackened_is live below passed old new listed was =
    black_places_are below new old was.len
    (λ i low. elim (was.each i) [ inl same ↦ by_place i low same (get_or old i Empty) refl | inr black ↦ black.1 ])
    (λ i high. elim (was.each i) [ inl same ↦ same | inr black ↦ absurd (omega (arith, high, black.0)) ])
  where
    by_place : (i : ℕ) → i < below → get_or new i Empty ≡ get_or old i Empty → (p : Place) → get_or old i Empty ≡ p → get_or new i Empty ≡ black_place (get_or old i Empty)
    by_place i low same Empty e = same ∙ e ∙ sym (ap black_place e)
    by_place i low same (At slot mark) e =
        let a = listed.covers i slot mark e in
        subst (λ n. get_or new n Empty ≡ black_place (get_or old n Empty)) a.is (was.done a.at a.below (let at : get_or live a.at 0 ≡ i = a.is in omega (arith, at, low)))

-- each place is as it was, or black
pub at_black : (n : ℕ) (places : List Place) (i : ℕ) → (get_or (black_places n places) i Empty ≡ get_or places i Empty) ⊎ (get_or (black_places n places) i Empty ≡ black_place (get_or places i Empty))
at_black zero places i = inl refl
at_black (suc n) [] i = inl refl
at_black (suc n) (p ∷ places) zero = inr refl
at_black (suc n) (p ∷ places) (suc i) = at_black n places i

pub length-black : (n : ℕ) (places : List Place) → length (black_places n places) ≡ length places
length-black zero places = refl
length-black (suc n) [] = refl
length-black (suc n) (p ∷ places) = ap suc (length-black n places)

black_there : (n : ℕ) (places : List Place) (j s : ℕ) (mark : Mark) → get_or (black_places n places) j Empty ≡ At s mark → (was : Mark) × (get_or places j Empty ≡ At s was)
black_there n places j s mark e =
    elim (at_black n places j) [
      | inl same ↦ (mark, sym same ∙ e)
      | inr black ↦ by_place (get_or places j Empty) refl (sym black ∙ e)
    ]
  where
    by_place : (p : Place) → get_or places j Empty ≡ p → black_place (get_or places j Empty) ≡ At s mark → (was : Mark) × (get_or places j Empty ≡ At s was)
    by_place Empty is b = let none : Empty ≡ At s mark = sym (ap black_place is) ∙ b in absurd (cc)
    by_place (At t m) is b = let at : At t MarkBlack ≡ At s mark = sym (ap black_place is) ∙ b in (m, is ∙ ap (λ x. At x m) (same_At t s MarkBlack mark at).0)

black_stays : (n : ℕ) (places : List Place) (j s : ℕ) (was : Mark) → get_or places j Empty ≡ At s was → (mark : Mark) × (get_or (black_places n places) j Empty ≡ At s mark)
black_stays n places j s was e =
    elim (at_black n places j) [
      | inl same ↦ (was, same ∙ e)
      | inr black ↦ (MarkBlack, black ∙ ap black_place e)
    ]

black_empty : (n : ℕ) (places : List Place) (j : ℕ) → get_or places j Empty ≡ Empty → get_or (black_places n places) j Empty ≡ Empty
black_empty n places j e =
    elim (at_black n places j) [
      | inl same ↦ same ∙ e
      | inr black ↦ black ∙ ap black_place e
    ]

black_plain : (p : Place) → is_gray_place (black_place p) ≡ false
black_plain Empty = refl
black_plain (At slot mark) = refl

still_plain : (n : ℕ) (places : List Place) → ((j : ℕ) → is_gray_place (get_or places j Empty) ≡ false) → (j : ℕ) → is_gray_place (get_or (black_places n places) j Empty) ≡ false
still_plain n places plain j =
    elim (at_black n places j) [
      | inl same ↦ ap is_gray_place same ∙ plain j
      | inr black ↦ ap is_gray_place black ∙ black_plain (get_or places j Empty)
    ]

none_counted : (places : List Place) → ((j : ℕ) → is_gray_place (get_or places j Empty) ≡ false) → count_by is_gray_place places ≡ 0
none_counted [] plain = refl
none_counted (p ∷ places) plain =
    let off : bit (is_gray_place p) ≡ 0 = ap bit (plain 0) in
    omega (arith, sum_by-cons (λ x. bit (is_gray_place x)) p places, off, none_counted places (λ j. plain (suc j)))

-- no place is gray where no row is
pub places_plain : (number room capacity : ℕ) (places : List Place) (cells : CellsValue) (head : ℕ) (s : SegmentValue) → IsSound places cells room capacity head → record { number = number; room = room; rows = map (row_of cells) places } ≡ s →
    ((serial : ℕ) → some_gray (row_at s serial) ≡ false) → (j : ℕ) → is_gray_place (get_or places j Empty) ≡ false
places_plain number room capacity places cells head s sound is none j = by_place (get_or places j Empty) refl
  where
    shown : some_gray (row_of cells (get_or places j Empty)) ≡ false
    shown = ap some_gray (sym (row_at_view cells places j)) ∙ ap (λ (x : SegmentValue). some_gray (row_at x j)) is ∙ none j

    by_place : (p : Place) → get_or places j Empty ≡ p → is_gray_place (get_or places j Empty) ≡ false
    by_place Empty e = ap is_gray_place e
    by_place (At slot MarkWhite) e = ap is_gray_place e
    by_place (At slot MarkBlack) e = ap is_gray_place e
    by_place (At slot (MarkGray next)) e =
        let placed = sound.placed j slot (MarkGray next) e in
        absurd (false≢true (sym shown ∙ ap (λ p. some_gray (row_of cells p)) e ∙ ap (λ o. some_gray (row_in slot (MarkGray next) o)) placed.there))

taken_black : (n : ℕ) (places : List Place) → count_by is_taken (black_places n places) ≡ count_by is_taken places
taken_black zero places = refl
taken_black (suc n) [] = refl
taken_black (suc n) (p ∷ places) =
    omega (arith, sum_by-cons (λ x. bit (is_taken x)) (black_place p) (black_places n places), sum_by-cons (λ x. bit (is_taken x)) p places, ap bit (one p), taken_black n places)
  where
    one : (p : Place) → is_taken (black_place p) ≡ is_taken p
    one Empty = refl
    one (At slot mark) = refl

pub blackened_sound : (n : ℕ) (places : List Place) (cells : CellsValue) (room capacity : ℕ) (head : ℕ) → IsSound places cells room capacity head → ((j : ℕ) → is_gray_place (get_or places j Empty) ≡ false) → IsSound (black_places n places) cells room capacity 0
blackened_sound n places cells room capacity head sound plain =
    record {
      first = black_empty n places 0 sound.first;
      begun = omega (arith, length-black n places, sound.begun);
      sized = same_sized places (black_places n places) cells room capacity (length-black n places) (taken_black n places) sound.sized;
      placed = λ j s mark e. let was = black_there n places j s mark e in sound.placed j s was.0 was.1;
      kept = λ s x e. let was = sound.kept s x e in let now = black_stays n places x.serial.0 s was.mark was.there in record { mark = now.0; there = now.1; few = was.few };
      grays = subst (λ (k : ℕ). IsGrayList (black_places n places) k 0) (sym (none_counted (black_places n places) (still_plain n places plain))) refl;
    }

pub last_blackened : (n : ℕ) (places : List Place) (last : ℕ) → ((j : ℕ) → is_gray_place (get_or places j Empty) ≡ false) → IsLastGray (black_places n places) last
last_blackened n places last plain = λ i slot e. absurd (false≢true (sym (still_plain n places plain i) ∙ ap is_gray_place e))

-- its bytes, its list and its rows
black_bytes : (cells : CellsValue) (p : Place) → row_bytes (row_of cells (black_place p)) ≡ row_bytes (row_of cells p)
black_bytes cells Empty = refl
black_bytes cells (At slot mark) = by_cell (get cells slot)
  where
    by_cell : (o : Option Cell) → row_bytes (row_in slot MarkBlack o) ≡ row_bytes (row_in slot mark o)
    by_cell None = refl
    by_cell (Some cell) = refl

total_blackened : (n : ℕ) (places : List Place) (cells : CellsValue) → total row_bytes (map (row_of cells) (black_places n places)) ≡ total row_bytes (map (row_of cells) places)
total_blackened zero places cells = refl
total_blackened (suc n) [] cells = refl
total_blackened (suc n) (p ∷ places) cells = omega (arith, black_bytes cells p, total_blackened n places cells)

pub bytes_blackened : (n : ℕ) (places : List Place) (cells : CellsValue) (bytes : ℕ) → AreBytes places cells bytes → AreBytes (black_places n places) cells bytes
bytes_blackened n places cells bytes was = record { counted = was.counted ∙ sym (total_blackened n places cells); small = omega (arith, was.small, length-black n places) }

black_dark : (p : Place) → is_white_place (black_place p) ≡ false
black_dark Empty = refl
black_dark (At slot mark) = refl

pub listed_blackened : (n : ℕ) (places new : List Place) (live : List ℕ) (passed front : ℕ) → IsListed places live passed → AreBlackened live n (length live) places new → new ≡ black_places n places → AreInFront live n front →
    IsListed (black_places n places) live front
listed_blackened n places new live passed front was black is at_front = record {
  counted = was.counted ∙ sym (taken_black n places);
  reached = at_front.within;
  inside = λ k below. omega (arith, was.inside k below, length-black n places);
  covers = λ i s mark e. let there = black_there n places i s mark e in was.covers i s there.0 there.1;
  done = λ k low.
      ap (λ (ps : List Place). is_white_place (get_or ps (get_or live k 0) Empty)) (sym is)
      ∙ ap is_white_place (black.done k (omega (arith, low, at_front.within)) (at_front.low k low))
      ∙ black_dark (get_or places (get_or live k 0) Empty);
}

black_shown : (cells : CellsValue) (p : Place) → row_of cells (black_place p) ≡ blackened_row (row_of cells p)
black_shown cells Empty = refl
black_shown cells (At slot mark) = by_cell (get cells slot)
  where
    by_cell : (o : Option Cell) → row_in slot MarkBlack o ≡ blackened_row (row_in slot mark o)
    by_cell None = refl
    by_cell (Some cell) = refl

pub blackened_shown : (n : ℕ) (cells : CellsValue) (places : List Place) → map (row_of cells) (black_places n places) ≡ blackened_rows n (map (row_of cells) places)
blackened_shown zero cells places = refl
blackened_shown (suc n) cells [] = refl
blackened_shown (suc n) cells (p ∷ places) = ap₂ (λ y ys. y ∷ ys) (black_shown cells p) (blackened_shown n cells places)

-- no row of a segment is gray where no name is
pub segments_plain : (segments : List SegmentValue) → HasDistinct segments → ((n : Name) → some_gray (row_of_name segments n) ≡ false) → (i : ℕ) (s : SegmentValue) → slice_get segments i ≡ Some s → (serial : ℕ) → some_gray (row_at s serial) ≡ false
segments_plain segments distinct none i s at serial =
    ap (λ (o : Option SegmentValue). some_gray (row_in_segment o serial)) (sym (found_at segments distinct i s at)) ∙ none (record { seg = record { 0 = s.number }; serial = record { 0 = serial } })

-- no object has a serial past the rows of its segment
pub below_next : (segments : List SegmentValue) (number next : ℕ) → ((s : SegmentValue) → segment_at segments number ≡ Some s → length s.rows ≤ next) → (n : Name) (row : Row) → n.seg.0 ≡ number → row_of_name segments n ≡ Some row → n.serial.0 < next
below_next segments number next most n row same e = by_segment (segment_at segments n.seg.0) refl e
  where
    by_segment : (o : Option SegmentValue) → segment_at segments n.seg.0 ≡ o → row_in_segment o n.serial.0 ≡ Some row → n.serial.0 < next
    by_segment None is e = absurd (cc)
    by_segment (Some s) is e = let most_here = most s (ap (segment_at segments) (sym same) ∙ is) in omega (arith, some_inside s.rows n.serial.0 row e, most_here)
