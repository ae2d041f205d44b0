-- What looking at fields does to the marks.
use Rattle.std.proofs.Common.{◌≡◌, ◌||◌, ◌&&◌, ◌+◌, ◌⊎◌, not, Bool, true, false, cond, refl, sym, ap, subst, ◌∙◌, inl, inr, List, [], ◌∷◌, count_by, map, Option, Some, None, is_some, option_map, arith}
use Rattle.std.proofs.lemmas.Bool.{false≢true, and_parts, and_from, or_left, or_right, or_cases}
use Rattle.k_laws.specs.k_types.declared.names.Name.{Name}
use Rattle.k_laws.specs.k_types.State.{Content, Refers, Holds, content_leads_to}
use Rattle.k_laws.specs.k_types.Names.{name_eq}
use Rattle.k_space.specs.Segments.{SegmentValue, Row, Color, White, Gray, Black, gray_or_black, some_black, some_marked, is_black, is_marked}
use Rattle.k_space.specs.Areas.{AreaValue, segment_at, row_in_segment, row_of_name, with_row_of, HasDistinct, fields_at, is_foreign, black_at, marked_at, unmarked, grayed, grayed_row}
use Rattle.k_exit.specs.Exits.{ExitRow, has_target, target_marked, targets, marked_if}
use Rattle.k_mark.specs.Marking.{Marks, looked, looked_by, looked_all, fields_lead_to, is_ref}
use Rattle.k_exit.proofs.NameTests.{name_eq-true, name_eq-same}
use Rattle.k_space.proofs.AreaRows.{Found, found, after_same, after_other, after_foreign, after_distinct, after_total, same_unmarked}
use Rattle.k_mark.proofs.Left.{left, todo_row, black_work, black_row}

-- how the marks came out of others by looking at these contents
pub record Looked (m after : Marks) (cs : List Content) : Type 0 where
  pub same : unmarked after.area ≡ unmarked m.area
  pub distinct : HasDistinct m.area.segments → HasDistinct after.area.segments
  pub names : targets after.exits ≡ targets m.exits
  pub black : (n : Name) → black_at after.area n ≡ black_at m.area n
  pub shape : (n : Name) → fields_at after.area n ≡ fields_at m.area n
  pub foreign : (n : Name) → is_foreign after.area n ≡ is_foreign m.area n
  pub more : (n : Name) → marked_at m.area n ≡ true → marked_at after.area n ≡ true
  pub only : (n : Name) → marked_at after.area n ≡ true → (marked_at m.area n ≡ true) ⊎ ((fields_lead_to cs n ≡ true) × (is_some (fields_at m.area n) ≡ true))
  pub all : (n : Name) → fields_lead_to cs n ≡ true → is_some (fields_at m.area n) ≡ true → marked_at after.area n ≡ true
  pub exit_more : (t : Name) → target_marked m.exits t ≡ true → target_marked after.exits t ≡ true
  pub exit_has : (t : Name) → has_target after.exits t ≡ has_target m.exits t
  pub exit_only : (t : Name) → target_marked after.exits t ≡ true → (target_marked m.exits t ≡ true) ⊎ ((fields_lead_to cs t ≡ true) × (is_foreign m.area t ≡ true))
  pub exit_all : (t : Name) → fields_lead_to cs t ≡ true → is_foreign m.area t ≡ true → has_target m.exits t ≡ true → target_marked after.exits t ≡ true
  pub todo : left after.area ≡ left m.area
  pub worked : black_work after.area ≡ black_work m.area

-- nothing changed, and the contents lead nowhere
looked_nothing : (m : Marks) (cs : List Content) → ((n : Name) → fields_lead_to cs n ≡ false) → Looked m m cs
looked_nothing m cs nowhere =
    record {
      same = refl;
      distinct = λ d. d;
      names = refl;
      black = λ n. refl;
      shape = λ n. refl;
      foreign = λ n. refl;
      more = λ n e. e;
      only = λ n e. inl e;
      all = λ n e. absurd (false≢true (sym (nowhere n) ∙ e));
      exit_more = λ t e. e;
      exit_has = λ t. refl;
      exit_only = λ t e. inl e;
      exit_all = λ t e. absurd (false≢true (sym (nowhere t) ∙ e));
      todo = refl;
      worked = refl;
    }

leads_one : (c : Content) (n : Name) → fields_lead_to (c ∷ []) n ≡ true → content_leads_to n c ≡ true
leads_one c n e = elim (or_cases (content_leads_to n c) false e) [ inl t ↦ t | inr f ↦ absurd (false≢true f) ]

-- exit items
abbrev with_exit_marked : List ExitRow → Name → List ExitRow
with_exit_marked exits t = map (marked_if t) exits

exits_has : (es : List ExitRow) (t s : Name) → has_target (with_exit_marked es t) s ≡ has_target es s
exits_has [] t s = refl
exits_has (e ∷ es) t s = ap (λ b. name_eq e.target s || b) (exits_has es t s)

exits_names : (es : List ExitRow) (t : Name) → targets (with_exit_marked es t) ≡ targets es
exits_names [] t = refl
exits_names (e ∷ es) t = ap (λ xs. e.target ∷ xs) (exits_names es t)

exits_more : (es : List ExitRow) (t s : Name) → target_marked es s ≡ true → target_marked (with_exit_marked es t) s ≡ true
exits_more [] t s h = h
exits_more (e ∷ es) t s h =
    elim (or_cases (name_eq e.target s && e.marked) (target_marked es s) h) [
      | inl y ↦
          let p = and_parts (name_eq e.target s) e.marked y in
          or_left (name_eq e.target s && (e.marked || name_eq e.target t)) (target_marked (with_exit_marked es t) s) (and_from (name_eq e.target s) (e.marked || name_eq e.target t) p.0 (or_left e.marked (name_eq e.target t) p.1))
      | inr y ↦ or_right (name_eq e.target s && (e.marked || name_eq e.target t)) (target_marked (with_exit_marked es t) s) (exits_more es t s y)
    ]

exits_only : (es : List ExitRow) (t s : Name) → target_marked (with_exit_marked es t) s ≡ true → (target_marked es s ≡ true) ⊎ (name_eq t s ≡ true)
exits_only [] t s h = inl h
exits_only (e ∷ es) t s h =
    elim (or_cases (name_eq e.target s && (e.marked || name_eq e.target t)) (target_marked (with_exit_marked es t) s) h) [
      | inl y ↦
          let p = and_parts _ _ y in
          elim (or_cases e.marked (name_eq e.target t) p.1) [
            | inl z ↦ inl (or_left _ _ (and_from _ _ p.0 z))
            | inr z ↦ inr (name_eq-same t s (sym (name_eq-true e.target t z) ∙ name_eq-true e.target s p.0))
          ]
      | inr y ↦ elim (exits_only es t s y) [ inl z ↦ inl (or_right _ _ z) | inr z ↦ inr z ]
    ]

exits_all : (es : List ExitRow) (t : Name) → has_target es t ≡ true → target_marked (with_exit_marked es t) t ≡ true
exits_all [] t h = h
exits_all (e ∷ es) t h =
    elim (or_cases (name_eq e.target t) (has_target es t) h) [
      | inl y ↦ or_left _ _ (and_from _ _ y (or_right _ _ y))
      | inr y ↦ or_right _ _ (exits_all es t y)
    ]

looked_exit : (m : Marks) (n : Name) → is_foreign m.area n ≡ true → Looked m (record m { exits = with_exit_marked m.exits n }) (Refers (Some n) ∷ [])
looked_exit m n far =
    record {
      same = refl;
      distinct = λ d. d;
      names = exits_names m.exits n;
      black = λ n. refl;
      shape = λ n. refl;
      foreign = λ n. refl;
      more = λ n e. e;
      only = λ n e. inl e;
      all = λ k e live. absurd (not_live k (name_eq-true n k (leads_one (Refers (Some n)) k e)) live);
      exit_more = exits_more m.exits n;
      exit_has = exits_has m.exits n;
      exit_only = λ t e. elim (exits_only m.exits n t e) [ inl y ↦ inl y | inr y ↦ inr (or_left _ _ y, ap (is_foreign m.area) (sym (name_eq-true n t y)) ∙ far) ];
      exit_all = λ t e f has. let same = name_eq-true n t (leads_one (Refers (Some n)) t e) in
          ap (λ k. target_marked (with_exit_marked m.exits n) k) (sym same) ∙ exits_all m.exits n (ap (has_target m.exits) same ∙ has);
      todo = refl;
      worked = refl;
    }
  where
    not_live : (k : Name) → n ≡ k → is_some (fields_at m.area k) ≡ true → ⊥
    not_live k same live = by_segment (segment_at m.area.segments n.seg.0) refl
      where
        by_segment : (o : Option SegmentValue) → segment_at m.area.segments n.seg.0 ≡ o → ⊥
        by_segment None e =
            let none : is_some (fields_at m.area n) ≡ false = ap (λ (o : Option SegmentValue). is_some (option_map (λ (r : Row). r.fields) (row_in_segment o n.serial.0))) e in
            false≢true (sym none ∙ ap (λ k. is_some (fields_at m.area k)) same ∙ live)
        by_segment (Some s) e = false≢true (sym (ap (λ (o : Option SegmentValue). not (is_some o)) e) ∙ far)

-- another color for one object
pub record Recolored (a : AreaValue) (n : Name) (row : Row) (c : Color) : Type 0 where
  pub there : row_of_name a.segments n ≡ Some row

pub recolored_shape : (a : AreaValue) (n : Name) (row : Row) (c : Color) → row_of_name a.segments n ≡ Some row → (m : Name) → fields_at (with_row_of a n (Some (record row { color = c }))) m ≡ fields_at a m
recolored_shape a n row c e m = by_name (name_eq n m) refl
  where
    f : Found a n row
    f = found a n row e

    by_name : (b : Bool) → name_eq n m ≡ b → fields_at (with_row_of a n (Some (record row { color = c }))) m ≡ fields_at a m
    by_name true t =
        let same = name_eq-true n m t in
        ap (fields_at (with_row_of a n (Some (record row { color = c })))) (sym same) ∙ ap (option_map (λ (r : Row). r.fields)) (after_same a n row (record row { color = c }) f)
        ∙ sym (ap (option_map (λ (r : Row). r.fields)) e) ∙ ap (fields_at a) same
    by_name false t = ap (option_map (λ (r : Row). r.fields)) (after_other a n row (record row { color = c }) f m t)

-- a test of colors after one object has another
pub test_after : (test : Option Row → Bool) (a : AreaValue) (n : Name) (row : Row) (c : Color) → row_of_name a.segments n ≡ Some row → (m : Name) →
    ((name_eq n m ≡ true) × (test (row_of_name (with_row_of a n (Some (record row { color = c }))).segments m) ≡ test (Some (record row { color = c }))) × (test (row_of_name a.segments m) ≡ test (Some row)))
    ⊎ ((name_eq n m ≡ false) × (test (row_of_name (with_row_of a n (Some (record row { color = c }))).segments m) ≡ test (row_of_name a.segments m)))
test_after test a n row c e m = by_name (name_eq n m) refl
  where
    f : Found a n row
    f = found a n row e

    by_name : (b : Bool) → name_eq n m ≡ b →
        ((name_eq n m ≡ true) × (test (row_of_name (with_row_of a n (Some (record row { color = c }))).segments m) ≡ test (Some (record row { color = c }))) × (test (row_of_name a.segments m) ≡ test (Some row)))
        ⊎ ((name_eq n m ≡ false) × (test (row_of_name (with_row_of a n (Some (record row { color = c }))).segments m) ≡ test (row_of_name a.segments m)))
    by_name true t =
        let same = name_eq-true n m t in
        inl (t, ap (λ k. test (row_of_name (with_row_of a n (Some (record row { color = c }))).segments k)) (sym same) ∙ ap test (after_same a n row (record row { color = c }) f), ap (λ k. test (row_of_name a.segments k)) (sym same) ∙ ap test e)
    by_name false t = inr (t, ap test (after_other a n row (record row { color = c }) f m t))

marked_gray : (c : Color) → is_marked (gray_or_black c) ≡ true
marked_gray White = refl
marked_gray Gray = refl
marked_gray Black = refl

pub black_gray : (c : Color) → is_black (gray_or_black c) ≡ is_black c
black_gray White = refl
black_gray Gray = refl
black_gray Black = refl

live_row : (a : AreaValue) (n : Name) → is_some (fields_at a n) ≡ true → (row : Row) × (row_of_name a.segments n ≡ Some row)
live_row a n live = by_row (row_of_name a.segments n) refl live
  where
    by_row : (o : Option Row) → row_of_name a.segments n ≡ o → is_some (option_map (λ (r : Row). r.fields) o) ≡ true → (row : Row) × (row_of_name a.segments n ≡ Some row)
    by_row None e l = absurd (false≢true l)
    by_row (Some row) e l = (row, e)

looked_some : (m : Marks) (n : Name) (row : Row) → row_of_name m.area.segments n ≡ Some row → Looked m (record m { area = with_row_of m.area n (Some (record row { color = gray_or_black row.color })) }) (Refers (Some n) ∷ [])
looked_some m n row e =
    record {
      same = same_unmarked m.area n row (gray_or_black row.color) e;
      distinct = after_distinct m.area n row (record row { color = gray_or_black row.color }) f;
      names = refl;
      black = λ k. blacks k (test_after some_black m.area n row (gray_or_black row.color) e k);
      shape = recolored_shape m.area n row (gray_or_black row.color) e;
      foreign = after_foreign m.area n row (record row { color = gray_or_black row.color }) f;
      more = λ k t. mores k t (test_after some_marked m.area n row (gray_or_black row.color) e k);
      only = λ k t. onlys k t (test_after some_marked m.area n row (gray_or_black row.color) e k);
      all = λ k t live. alls k t (test_after some_marked m.area n row (gray_or_black row.color) e k);
      exit_more = λ t y. y;
      exit_has = λ t. refl;
      exit_only = λ t y. inl y;
      exit_all = λ t y far has. absurd (near t (name_eq-true n t (leads_one (Refers (Some n)) t y)) far);
      todo = lefts;
      worked = works;
    }
  where
    f : Found m.area n row
    f = found m.area n row e

    blacks : (k : Name) → ((name_eq n k ≡ true) × (black_at (with_row_of m.area n (Some (record row { color = gray_or_black row.color }))) k ≡ is_black (gray_or_black row.color)) × (black_at m.area k ≡ is_black row.color))
        ⊎ ((name_eq n k ≡ false) × (black_at (with_row_of m.area n (Some (record row { color = gray_or_black row.color }))) k ≡ black_at m.area k)) →
        black_at (with_row_of m.area n (Some (record row { color = gray_or_black row.color }))) k ≡ black_at m.area k
    blacks k (inl h) = h.1 ∙ black_gray row.color ∙ sym h.2
    blacks k (inr h) = h.1

    mores : (k : Name) → marked_at m.area k ≡ true → ((name_eq n k ≡ true) × (marked_at (with_row_of m.area n (Some (record row { color = gray_or_black row.color }))) k ≡ is_marked (gray_or_black row.color)) × (marked_at m.area k ≡ is_marked row.color))
        ⊎ ((name_eq n k ≡ false) × (marked_at (with_row_of m.area n (Some (record row { color = gray_or_black row.color }))) k ≡ marked_at m.area k)) →
        marked_at (with_row_of m.area n (Some (record row { color = gray_or_black row.color }))) k ≡ true
    mores k t (inl h) = h.1 ∙ marked_gray row.color
    mores k t (inr h) = h.1 ∙ t

    onlys : (k : Name) → marked_at (with_row_of m.area n (Some (record row { color = gray_or_black row.color }))) k ≡ true → ((name_eq n k ≡ true) × (marked_at (with_row_of m.area n (Some (record row { color = gray_or_black row.color }))) k ≡ is_marked (gray_or_black row.color)) × (marked_at m.area k ≡ is_marked row.color))
        ⊎ ((name_eq n k ≡ false) × (marked_at (with_row_of m.area n (Some (record row { color = gray_or_black row.color }))) k ≡ marked_at m.area k)) →
        (marked_at m.area k ≡ true) ⊎ ((fields_lead_to (Refers (Some n) ∷ []) k ≡ true) × (is_some (fields_at m.area k) ≡ true))
    onlys k t (inl h) = inr (or_left (name_eq n k) false h.0, ap (λ x. is_some (fields_at m.area x)) (sym (name_eq-true n k h.0)) ∙ ap (λ (o : Option Row). is_some (option_map (λ (r : Row). r.fields) o)) e)
    onlys k t (inr h) = inl (sym h.1 ∙ t)

    alls : (k : Name) → fields_lead_to (Refers (Some n) ∷ []) k ≡ true → ((name_eq n k ≡ true) × (marked_at (with_row_of m.area n (Some (record row { color = gray_or_black row.color }))) k ≡ is_marked (gray_or_black row.color)) × (marked_at m.area k ≡ is_marked row.color))
        ⊎ ((name_eq n k ≡ false) × (marked_at (with_row_of m.area n (Some (record row { color = gray_or_black row.color }))) k ≡ marked_at m.area k)) →
        marked_at (with_row_of m.area n (Some (record row { color = gray_or_black row.color }))) k ≡ true
    alls k t (inl h) = h.1 ∙ marked_gray row.color
    alls k t (inr h) = absurd (false≢true (sym h.0 ∙ leads_one (Refers (Some n)) k t))

    near : (t : Name) → n ≡ t → is_foreign m.area t ≡ true → ⊥
    near t same far =
        false≢true (sym (ap (λ (o : Option SegmentValue). not (is_some o)) f.at) ∙ ap (is_foreign m.area) same ∙ far)

    lefts : left (with_row_of m.area n (Some (record row { color = gray_or_black row.color }))) ≡ left m.area
    lefts =
        let sums = after_total m.area n row (record row { color = gray_or_black row.color }) f todo_row in
        let same : todo_row (Some (record row { color = gray_or_black row.color })) ≡ todo_row (Some row) = ap (λ b. cond b 0 1) (black_gray row.color) in
        omega (arith, sums, same)

    works : black_work (with_row_of m.area n (Some (record row { color = gray_or_black row.color }))) ≡ black_work m.area
    works =
        let sums = after_total m.area n row (record row { color = gray_or_black row.color }) f black_row in
        let same : black_row (Some (record row { color = gray_or_black row.color })) ≡ black_row (Some row) = ap (λ b. cond b (count_by is_ref row.fields + 1) 0) (black_gray row.color) in
        omega (arith, sums, same)

looked_near : (m : Marks) (n : Name) → is_foreign m.area n ≡ false → Looked m (record m { area = grayed m.area n }) (Refers (Some n) ∷ [])
looked_near m n near = by_row (row_of_name m.area.segments n) refl
  where
    by_row : (o : Option Row) → row_of_name m.area.segments n ≡ o → Looked m (record m { area = grayed m.area n }) (Refers (Some n) ∷ [])
    by_row None e = subst (λ (a : AreaValue). Looked m (record m { area = a }) (Refers (Some n) ∷ [])) (sym (ap (grayed_row m.area n) e)) gone
      where
        gone : Looked m m (Refers (Some n) ∷ [])
        gone = record {
          same = refl;
          distinct = λ d. d;
          names = refl;
          black = λ k. refl;
          shape = λ k. refl;
          foreign = λ k. refl;
          more = λ k t. t;
          only = λ k t. inl t;
          all = λ k t live. absurd (dead k (name_eq-true n k (leads_one (Refers (Some n)) k t)) live);
          exit_more = λ t y. y;
          exit_has = λ t. refl;
          exit_only = λ t y. inl y;
          exit_all = λ t y far has. absurd (false≢true (sym near ∙ ap (is_foreign m.area) (name_eq-true n t (leads_one (Refers (Some n)) t y)) ∙ far));
          todo = refl;
          worked = refl;
        }
          where
            dead : (k : Name) → n ≡ k → is_some (fields_at m.area k) ≡ true → ⊥
            dead k same live = false≢true (sym (ap (λ (o : Option Row). is_some (option_map (λ (r : Row). r.fields) o)) e) ∙ ap (λ x. is_some (fields_at m.area x)) same ∙ live)
    by_row (Some row) e = subst (λ (a : AreaValue). Looked m (record m { area = a }) (Refers (Some n) ∷ [])) (sym (ap (grayed_row m.area n) e)) (looked_some m n row e)

pub looked_one : (m : Marks) (c : Content) → Looked m (looked m c) (c ∷ [])
looked_one m (Refers None) = looked_nothing m (Refers None ∷ []) (λ n. refl)
looked_one m (Holds number) = looked_nothing m (Holds number ∷ []) (λ n. refl)
looked_one m (Refers (Some n)) = by_foreign (is_foreign m.area n) refl
  where
    by_foreign : (b : Bool) → is_foreign m.area n ≡ b → Looked m (looked_by (is_foreign m.area n) m n) (Refers (Some n) ∷ [])
    by_foreign true e = subst (λ (b : Bool). Looked m (looked_by b m n) (Refers (Some n) ∷ [])) (sym e) (looked_exit m n e)
    by_foreign false e = subst (λ (b : Bool). Looked m (looked_by b m n) (Refers (Some n) ∷ [])) (sym e) (looked_near m n e)

looked_both : (m k after : Marks) (c : Content) (cs : List Content) → Looked m k (c ∷ []) → Looked k after cs → Looked m after (c ∷ cs)
looked_both m k after c cs p q =
    record {
      same = q.same ∙ p.same;
      distinct = λ d. q.distinct (p.distinct d);
      names = q.names ∙ p.names;
      black = λ n. q.black n ∙ p.black n;
      shape = λ n. q.shape n ∙ p.shape n;
      foreign = λ n. q.foreign n ∙ p.foreign n;
      more = λ n t. q.more n (p.more n t);
      only = λ n t.
          elim (q.only n t) [
            | inl y ↦ elim (p.only n y) [ inl z ↦ inl z | inr z ↦ inr (or_left (content_leads_to n c) (fields_lead_to cs n) (leads_one c n z.0), z.1) ]
            | inr y ↦ inr (or_right (content_leads_to n c) (fields_lead_to cs n) y.0, ap is_some (sym (p.shape n)) ∙ y.1)
          ];
      all = λ n t live.
          elim (or_cases (content_leads_to n c) (fields_lead_to cs n) t) [
            | inl y ↦ q.more n (p.all n (or_left (content_leads_to n c) false y) live)
            | inr y ↦ q.all n y (ap is_some (p.shape n) ∙ live)
          ];
      exit_more = λ t y. q.exit_more t (p.exit_more t y);
      exit_has = λ t. q.exit_has t ∙ p.exit_has t;
      exit_only = λ t y.
          elim (q.exit_only t y) [
            | inl z ↦ elim (p.exit_only t z) [ inl w ↦ inl w | inr w ↦ inr (or_left (content_leads_to t c) (fields_lead_to cs t) (leads_one c t w.0), w.1) ]
            | inr z ↦ inr (or_right (content_leads_to t c) (fields_lead_to cs t) z.0, sym (p.foreign t) ∙ z.1)
          ];
      exit_all = λ t y far has.
          elim (or_cases (content_leads_to t c) (fields_lead_to cs t) y) [
            | inl z ↦ q.exit_more t (p.exit_all t (or_left (content_leads_to t c) false z) far has)
            | inr z ↦ q.exit_all t z (p.foreign t ∙ far) (p.exit_has t ∙ has)
          ];
      todo = q.todo ∙ p.todo;
      worked = q.worked ∙ p.worked;
    }

pub looked_list : (cs : List Content) (m : Marks) → Looked m (looked_all cs m) cs
looked_list [] m = looked_nothing m [] (λ n. refl)
looked_list (c ∷ cs) m = looked_both m (looked m c) (looked_all cs (looked m c)) c cs (looked_one m c) (looked_list cs (looked m c))
