-- The three nodes, from their making to their marks.
use Rattle.std.proofs.Common.{◌≡◌, ℕ, zero, suc, ◌↔◌, true, false, refl, sym, ap, ap₂, subst, ◌∙◌, List, [], ◌∷◌, length, map, get_or, slice_get, slice_set, Option, Some, None, option_map}
use Rattle.std.proofs.lemmas.Bool.{false≢true, false_from_ne_true}
use Rattle.k_exit.proofs.BaseLists.{some_one}
use Rattle.k_laws.specs.k_types.declared.names.Name.{Name}
use Rattle.k_laws.specs.k_types.declared.names.Link.{Link}
use Rattle.k_laws.specs.k_types.declared.names.TypeId.{TypeId}
use Rattle.k_laws.specs.k_types.declared.names.Field.{Field}
use Rattle.k_laws.specs.k_types.Names.{name_of}
use Rattle.k_laws.specs.k_types.State.{Content, Refers, Holds}
use Rattle.k_space.specs.Objects.{BodyValue, HasRef, new_body}
use Rattle.k_space.specs.Segments.{SegmentValue, Row, Color, White, Gray, Black, LiesAt, row_at, with_row, placed, is_gray, is_marked, unmarked_row, unmarked_segment}
use Rattle.k_space.specs.Areas.{AreaValue, place_of, row_in_segment, gray_at, marked_at, unmarked, grayed}
use Rattle.k_mark.specs.Reached.{begins, follows}
use Rattle.k_mark.specs.Marking.{IsReachedIn, some_lead_to, refers_at, work}
use Rattle.k_mark.specs.Example.{AreNodes, ArePlaced, node_types, node_name, node, nodes_of, three_nodes}

abbrev node_type : TypeId
node_type = record { 0 = 0 }

abbrev empty_segment : SegmentValue
empty_segment = record { number = 1; room = 3; rows = None ∷ [] }

has_both : (one other : Option Name) (row : Row) → Refers one ∷ Refers other ∷ Holds 0 ∷ [] ≡ row.fields → HasRef row.fields 0 × HasRef row.fields 1
has_both one other row e =
    (record { target = one; is = ap (λ (f : List Content). slice_get f 0) (sym e) }, record { target = other; is = ap (λ (f : List Content). slice_get f 1) (sym e) })

-- three nodes placed in an empty segment, one after another
pub placed_nodes : (types : List (List Field)) (s t u v : SegmentValue) (a b c : BodyValue) (x y z : ℕ) → types ≡ node_types → s ≡ empty_segment →
    a ≡ new_body types node_type → b ≡ new_body types node_type → c ≡ new_body types node_type →
    t ≡ placed s x a → u ≡ placed t y b → v ≡ placed u z c → v ≡ nodes_of x y z None None None
placed_nodes types s t u v a b c x y z is se ae be ce te ue ve =
    one_more u v c z (placed (placed empty_segment x (new_body node_types node_type)) y (new_body node_types node_type)) (one_more t u b y (placed empty_segment x (new_body node_types node_type)) (one_more s t a x empty_segment se ae te) be ue) ce ve
  where
    one_more : (s t : SegmentValue) (body : BodyValue) (slot : ℕ) (w : SegmentValue) → s ≡ w → body ≡ new_body types node_type → t ≡ placed s slot body → t ≡ placed w slot (new_body node_types node_type)
    one_more s t body slot w se be te = te ∙ ap₂ (λ (v : SegmentValue) (d : BodyValue). placed v slot d) se (be ∙ ap (λ (ts : List (List Field)). new_body ts node_type) is)

module _ (s : SegmentValue) (x y z : ℕ) (one other back : Option Name) (is : s ≡ nodes_of x y z one other back) where
  pub first_lives : LiesAt s x 1 (node x White one other)
  first_lives = record { there = ap (λ (v : SegmentValue). get_or v.rows 1 None) is; slot_is = refl }

  pub second_lives : LiesAt s y 2 (node y White back None)
  second_lives = record { there = ap (λ (v : SegmentValue). get_or v.rows 2 None) is; slot_is = refl }

  -- every object of the segment has two reference fields
  refers_by_serial : (serial : ℕ) (row : Row) → get_or (nodes_of x y z one other back).rows serial None ≡ Some row → HasRef row.fields 0 × HasRef row.fields 1
  refers_by_serial zero row e = absurd (cc)
  refers_by_serial (suc zero) row e = has_both one other row (ap (λ (w : Row). w.fields) (some_one e))
  refers_by_serial (suc (suc zero)) row e = has_both back None row (ap (λ (w : Row). w.fields) (some_one e))
  refers_by_serial (suc (suc (suc zero))) row e = has_both None None row (ap (λ (w : Row). w.fields) (some_one e))
  refers_by_serial (suc (suc (suc (suc serial)))) row e = absurd (cc)

  pub has_refs : (serial : ℕ) (row : Row) → row_at s serial ≡ Some row → HasRef row.fields 0 × HasRef row.fields 1
  has_refs serial row e = refers_by_serial serial row (ap (λ (v : SegmentValue). row_at v serial) (sym is) ∙ e)

-- the first and the second of them have these names
pub first_name : (s : SegmentValue) (link : Link) → s ≡ empty_segment → link.seg.0 ≡ s.number → link.serial.0 ≡ length s.rows → name_of link ≡ node_name 1
first_name s link se seg serial =
    ap₂ (λ m n. record { seg = record { 0 = m }; serial = record { 0 = n } }) (seg ∙ ap (λ (v : SegmentValue). v.number) se) (serial ∙ ap (λ (v : SegmentValue). length v.rows) se)

pub second_name : (s t : SegmentValue) (a : BodyValue) (x : ℕ) (link : Link) → s ≡ empty_segment → t ≡ placed s x a → link.seg.0 ≡ t.number → link.serial.0 ≡ length t.rows → name_of link ≡ node_name 2
second_name s t a x link se te seg serial =
    let whole : t ≡ placed empty_segment x a = te ∙ ap (λ (v : SegmentValue). placed v x a) se in
    ap₂ (λ m n. record { seg = record { 0 = m }; serial = record { 0 = n } }) (seg ∙ ap (λ (v : SegmentValue). v.number) whole) (serial ∙ ap (λ (v : SegmentValue). length v.rows) whole)

-- a reference written into a field of an object that lies in that slot
abbrev pub IsWritten : SegmentValue → SegmentValue → ℕ → ℕ → Link → Type 0
IsWritten s t slot field link =
    (serial : ℕ) (row : Row) → LiesAt s slot serial row → t ≡ with_row s serial (Some (record row { fields = slice_set row.fields field (Refers (option_map name_of (Some link))) }))

pub written_first : (s t : SegmentValue) (x y z : ℕ) (one other back : Option Name) (field : ℕ) (link : Link) (n : Name) → s ≡ nodes_of x y z one other back → name_of link ≡ n → IsWritten s t x field link →
    t ≡ with_row (nodes_of x y z one other back) 1 (Some (record (node x White one other) { fields = slice_set (node x White one other).fields field (Refers (Some n)) }))
written_first s t x y z one other back field link n is name written =
    written 1 (node x White one other) (first_lives s x y z one other back is)
    ∙ ap₂ (λ (v : SegmentValue) (m : Name). with_row v 1 (Some (record (node x White one other) { fields = slice_set (node x White one other).fields field (Refers (Some m)) }))) is name

pub written_second : (s t : SegmentValue) (x y z : ℕ) (one other back : Option Name) (field : ℕ) (link : Link) (n : Name) → s ≡ nodes_of x y z one other back → name_of link ≡ n → IsWritten s t y field link →
    t ≡ with_row (nodes_of x y z one other back) 2 (Some (record (node y White back None) { fields = slice_set (node y White back None).fields field (Refers (Some n)) }))
written_second s t x y z one other back field link n is name written =
    written 2 (node y White back None) (second_lives s x y z one other back is)
    ∙ ap₂ (λ (v : SegmentValue) (m : Name). with_row v 2 (Some (record (node y White back None) { fields = slice_set (node y White back None).fields field (Refers (Some m)) }))) is name

-- after the first reference of the first object, and after both
pub once_written : (s t : SegmentValue) (first second : Link) (p : ArePlaced s first second) → IsWritten s t first.slot.0 0 second → t ≡ nodes_of first.slot.0 second.slot.0 p.z (Some (node_name 2)) None None
once_written s t first second p written = written_first s t first.slot.0 second.slot.0 p.z None None None 0 second (node_name 2) p.is p.second_is written

pub twice_written : (s t u : SegmentValue) (first second : Link) (p : ArePlaced s first second) → IsWritten s t first.slot.0 0 second → IsWritten t u first.slot.0 1 second →
    u ≡ nodes_of first.slot.0 second.slot.0 p.z (Some (node_name 2)) (Some (node_name 2)) None
twice_written s t u first second p once twice =
    written_first t u first.slot.0 second.slot.0 p.z (Some (node_name 2)) None None 1 second (node_name 2) (once_written s t first second p once) p.second_is twice

-- roots: the first is gray
pub rooted : (a b c : AreaValue) → AreNodes a White White White → b ≡ unmarked a → c ≡ grayed b (node_name 1) → AreNodes c Gray White White
rooted a b c n be ce = record { x = n.x; y = n.y; z = n.z; is = ce ∙ ap (λ (v : AreaValue). grayed v (node_name 1)) (be ∙ ap (λ (v : AreaValue). unmarked v) n.is) }

module _ (x y z : ℕ) where
  -- no node refers to the third
  none_by_serial : (serial : ℕ) → some_lead_to (option_map (λ (row : Row). row.fields) (get_or (None ∷ Some (node x Gray (Some (node_name 2)) (Some (node_name 2))) ∷ Some (node y White (Some (node_name 1)) None) ∷ Some (node z White None None) ∷ []) serial None)) (node_name 3) ≡ false
  none_by_serial zero = refl
  none_by_serial (suc zero) = refl
  none_by_serial (suc (suc zero)) = refl
  none_by_serial (suc (suc (suc zero))) = refl
  none_by_serial (suc (suc (suc (suc serial)))) = refl

  none_by_place : (place serial : ℕ) → some_lead_to (option_map (λ (row : Row). row.fields) (row_in_segment (slice_get (three_nodes x y z Gray White White).segments place) serial)) (node_name 3) ≡ false
  none_by_place zero serial = none_by_serial serial
  none_by_place (suc place) serial = refl

  none_to_third : (n : Name) → refers_at (three_nodes x y z Gray White White) n (node_name 3) ≡ false
  none_to_third n = none_by_place (place_of (three_nodes x y z Gray White White).segments n.seg.0) n.serial.0

  third_unreached : (n : Name) → n ≡ node_name 3 → IsReachedIn (three_nodes x y z Gray White White) n → ⊥
  third_unreached _ e (begins n start lives) = false≢true (sym (ap (gray_at (three_nodes x y z Gray White White)) e) ∙ start)
  third_unreached _ e (follows a b from refers lives) = false≢true (sym (none_to_third a) ∙ sym (ap (refers_at (three_nodes x y z Gray White White) a) e) ∙ refers)

  first_reached : IsReachedIn (three_nodes x y z Gray White White) (node_name 1)
  first_reached = begins (node_name 1) refl refl

  second_reached : IsReachedIn (three_nodes x y z Gray White White) (node_name 2)
  second_reached = follows (node_name 1) (node_name 2) first_reached refl refl

-- what an area is of which the unmarked one is known
one_segment : (segments : List SegmentValue) (s : SegmentValue) → map unmarked_segment segments ≡ s ∷ [] → (t : SegmentValue) × (segments ≡ t ∷ []) × (unmarked_segment t ≡ s)
one_segment [] s e = absurd (cc)
one_segment (t ∷ []) s e = (t, refl, cc)
one_segment (t ∷ u ∷ rest) s e = absurd (cc)

gone_row : (rows : List (Option Row)) (others : List (Option Row)) → map unmarked_row rows ≡ None ∷ others → (rest : List (Option Row)) × (rows ≡ None ∷ rest) × (map unmarked_row rest ≡ others)
gone_row [] others e = absurd (cc)
gone_row (None ∷ rest) others e = (rest, refl, cc)
gone_row (Some row ∷ rest) others e = absurd (cc)

live_row : (rows : List (Option Row)) (r : Row) (others : List (Option Row)) → map unmarked_row rows ≡ Some r ∷ others → (color : Color) × (rest : List (Option Row)) × (rows ≡ Some (record r { color = color }) ∷ rest) × (map unmarked_row rest ≡ others)
live_row [] r others e = absurd (cc)
live_row (None ∷ rest) r others e = absurd (cc)
live_row (Some row ∷ rest) r others e =
    let same : record row { color = White } ≡ r = cc in
    (row.color, rest, ap (λ (w : Row). Some (record w { color = row.color }) ∷ rest) same, cc)

no_rows : (rows : List (Option Row)) → map unmarked_row rows ≡ [] → rows ≡ []
no_rows [] e = refl
no_rows (row ∷ rest) e = absurd (cc)

black_color : (c : Color) → is_marked c ≡ true → is_gray c ≡ false → c ≡ Black
black_color White marked gray = absurd (false≢true marked)
black_color Gray marked gray = absurd (false≢true (sym gray))
black_color Black marked gray = refl

white_color : (c : Color) → is_marked c ≡ false → c ≡ White
white_color White marked = refl
white_color Gray marked = absurd (false≢true (sym marked))
white_color Black marked = absurd (false≢true (sym marked))

three_rows : (rows : List (Option Row)) (a b c : Row) → map unmarked_row rows ≡ None ∷ Some a ∷ Some b ∷ Some c ∷ [] →
    (p : Color) × (q : Color) × (r : Color) × (rows ≡ None ∷ Some (record a { color = p }) ∷ Some (record b { color = q }) ∷ Some (record c { color = r }) ∷ [])
three_rows rows a b c e =
    let none = gone_row rows _ e in
    let first = live_row none.0 a _ none.2 in
    let second = live_row first.1 b _ first.3 in
    let third = live_row second.1 c _ second.3 in
    let ends : third.1 ≡ [] = no_rows third.1 third.3 in (
      first.0,
      second.0,
      third.0,
      none.1 ∙ ap (λ rs. None ∷ rs) (first.2 ∙ ap (λ rs. Some (record a { color = first.0 }) ∷ rs) (second.2 ∙ ap (λ rs. Some (record b { color = second.0 }) ∷ rs) (third.2 ∙ ap (λ rs. Some (record c { color = third.0 }) ∷ rs) ends))),
    )

area_from_parts : (a : AreaValue) (s : SegmentValue) (rows : List (Option Row)) → a.segments ≡ s ∷ [] → a.room ≡ 1 → s.number ≡ 1 → s.room ≡ 3 → s.rows ≡ rows →
    a ≡ record { segments = record { number = 1; room = 3; rows = rows } ∷ []; room = 1 }
area_from_parts a s rows segments all number room is =
    let whole : s ≡ record { number = 1; room = 3; rows = rows } = ap₂ (λ m n. record s { number = m; room = n }) number room ∙ ap (λ rs. record { number = 1; room = 3; rows = rs }) is in
    ap₂ (λ (ss : List SegmentValue) n. record { segments = ss; room = n }) (segments ∙ ap (λ (t : SegmentValue). t ∷ []) whole) all

-- what is the three nodes without marks is the three nodes with some
recolored : (x y z : ℕ) (a : AreaValue) → unmarked a ≡ three_nodes x y z White White White → (p : Color) × (q : Color) × (r : Color) × (a ≡ three_nodes x y z p q r)
recolored x y z a e =
    let one = one_segment a.segments _ (ap (λ (v : AreaValue). v.segments) e) in
    let rows = three_rows one.0.rows (node x White (Some (node_name 2)) (Some (node_name 2))) (node y White (Some (node_name 1)) None) (node z White None None) (ap (λ (s : SegmentValue). s.rows) one.2) in (
      rows.0,
      rows.1,
      rows.2,
      area_from_parts a one.0 _ one.1 (ap (λ (v : AreaValue). v.room) e) (ap (λ (s : SegmentValue). s.number) one.2) (ap (λ (s : SegmentValue). s.room) one.2) rows.3,
    )

module _ (x y z : ℕ) (new : AreaValue) (none : (n : Name) → gray_at new n ≡ false) (reached : (n : Name) → (marked_at new n ≡ true) ↔ IsReachedIn (three_nodes x y z Gray White White) n) where
  marks_are : (p q r : Color) → new ≡ three_nodes x y z p q r → new ≡ three_nodes x y z Black Black White
  marks_are p q r is =
      let one : p ≡ Black = black_color p (sym (ap (λ (a : AreaValue). marked_at a (node_name 1)) is) ∙ (reached (node_name 1)).1 (first_reached x y z)) (sym (ap (λ (a : AreaValue). gray_at a (node_name 1)) is) ∙ none (node_name 1)) in
      let two : q ≡ Black = black_color q (sym (ap (λ (a : AreaValue). marked_at a (node_name 2)) is) ∙ (reached (node_name 2)).1 (second_reached x y z)) (sym (ap (λ (a : AreaValue). gray_at a (node_name 2)) is) ∙ none (node_name 2)) in
      let three : r ≡ White = white_color r (sym (ap (λ (a : AreaValue). marked_at a (node_name 3)) is) ∙ false_from_ne_true (marked_at new (node_name 3)) (λ t. third_unreached x y z (node_name 3) refl ((reached (node_name 3)).0 t))) in
      is ∙ ap₂ (λ c d. three_nodes x y z c d r) one two ∙ ap (three_nodes x y z Black Black) three

  marked_is : unmarked new ≡ three_nodes x y z White White White → new ≡ three_nodes x y z Black Black White
  marked_is kept =
      let found = recolored x y z new kept in
      marks_are found.0 found.1 found.2 found.3

-- marks with the first as the root
pub marked_nodes : (old new : AreaValue) → AreNodes old Gray White White → unmarked new ≡ unmarked old → ((n : Name) → gray_at new n ≡ false) →
    ((n : Name) → (marked_at new n ≡ true) ↔ IsReachedIn old n) → AreNodes new Black Black White
marked_nodes old new n kept none reached =
    record {
      x = n.x;
      y = n.y;
      z = n.z;
      is = marked_is n.x n.y n.z new none (subst (λ (a : AreaValue). (m : Name) → (marked_at new m ≡ true) ↔ IsReachedIn a m) n.is reached) (kept ∙ ap (λ (a : AreaValue). unmarked a) n.is);
    }

-- two marked objects and their four reference fields
pub work_of_nodes : (a : AreaValue) → AreNodes a Black Black White → work a ≡ 6
work_of_nodes a n = ap (λ (v : AreaValue). work v) n.is
