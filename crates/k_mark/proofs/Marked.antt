-- What marking keeps.
use Rattle.std.proofs.Common.{◌≡◌, ◌+◌, ◌⊎◌, ◌↔◌, cond, Bool, true, false, refl, sym, ap, subst, ◌∙◌, inl, inr, List, count_by, Option, Some, None, is_some, option_map, arith}
use Rattle.std.proofs.lemmas.Bool.{false≢true}
use Rattle.k_laws.specs.k_types.declared.names.Name.{Name}
use Rattle.k_mark.proofs.Looks.{Looked, looked_list, test_after, recolored_shape}
use Rattle.k_laws.specs.k_types.State.{Content}
use Rattle.k_space.specs.Segments.{Row, Color, White, Gray, Black, some_gray, some_black, some_marked, is_gray, is_black, is_marked}
use Rattle.k_space.specs.Areas.{AreaValue, row_of_name, with_row_of, HasDistinct, fields_at, is_foreign, gray_at, black_at, marked_at, unmarked}
use Rattle.k_exit.specs.Exits.{ExitRow, has_target, target_marked, targets}
use Rattle.k_mark.specs.Marking.{Marks, looked_all, fields_lead_to, some_lead_to, refers_at, IsReachedIn, IsExit, is_ref}
use Rattle.k_mark.specs.Reached.{begins, follows}
use Rattle.k_exit.proofs.NameTests.{name_eq-true}
use Rattle.k_space.proofs.AreaRows.{found, after_same, after_foreign, after_distinct, after_total, same_unmarked}
use Rattle.k_mark.proofs.Left.{left, todo_row, black_work, black_row}

-- marking has come so far, where those that are skipped are never looked into
pub record IsMarking (skip : Name → Bool) (old now : AreaValue) (exits items : List ExitRow) : Type 0 where
  pub same : unmarked now ≡ unmarked old
  pub names : targets items ≡ targets exits
  pub distinct : HasDistinct now.segments
  pub shape : (n : Name) → fields_at now n ≡ fields_at old n
  pub foreign : (n : Name) → is_foreign now n ≡ is_foreign old n
  pub has : (t : Name) → has_target items t ≡ has_target exits t
  pub sound : (n : Name) → marked_at now n ≡ true → IsReachedIn old n
  pub roots : (n : Name) → gray_at old n ≡ true → marked_at now n ≡ true
  pub closed : (a b : Name) (fields : List Content) → skip a ≡ false → black_at now a ≡ true → fields_at old a ≡ Some fields → fields_lead_to fields b ≡ true → is_some (fields_at old b) ≡ true → marked_at now b ≡ true
  pub exits_sound : (t : Name) → target_marked items t ≡ true → IsExit old t
  pub exits_closed : (a t : Name) (fields : List Content) → skip a ≡ false → black_at now a ≡ true → fields_at old a ≡ Some fields → fields_lead_to fields t ≡ true → is_foreign old t ≡ true → target_marked items t ≡ true

marked_from_gray : (o : Option Row) → some_gray o ≡ true → some_marked o ≡ true
marked_from_gray None e = e
marked_from_gray (Some row) e = by_color row.color e
  where
    by_color : (c : Color) → is_gray c ≡ true → is_marked c ≡ true
    by_color White e = e
    by_color Gray e = e
    by_color Black e = refl

gray_or_else_black : (o : Option Row) → some_marked o ≡ true → some_black o ≡ false → some_gray o ≡ true
gray_or_else_black None e n = e
gray_or_else_black (Some row) e n = by_color row.color e n
  where
    by_color : (c : Color) → is_marked c ≡ true → is_black c ≡ false → is_gray c ≡ true
    by_color White e n = e
    by_color Gray e n = e
    by_color Black e n = sym n

pub black_from_marked : (o : Option Row) → some_marked o ≡ true → some_gray o ≡ false → some_black o ≡ true
black_from_marked None e n = e
black_from_marked (Some row) e n = by_color row.color e n
  where
    by_color : (c : Color) → is_marked c ≡ true → is_gray c ≡ false → is_black c ≡ true
    by_color White e n = e
    by_color Gray e n = sym n
    by_color Black e n = refl

pub marked_lives : (o : Option Row) → some_marked o ≡ true → is_some (option_map (λ (row : Row). row.fields) o) ≡ true
marked_lives None e = e
marked_lives (Some row) e = refl

-- what an object refers to stands in its fields
pub refers_fields : (a : AreaValue) (n m : Name) → refers_at a n m ≡ true → (fields : List Content) × (fields_at a n ≡ Some fields) × (fields_lead_to fields m ≡ true)
refers_fields a n m e = by_fields (fields_at a n) refl e
  where
    by_fields : (o : Option (List Content)) → fields_at a n ≡ o → some_lead_to o m ≡ true → (fields : List Content) × (fields_at a n ≡ Some fields) × (fields_lead_to fields m ≡ true)
    by_fields None is e = absurd (false≢true e)
    by_fields (Some fields) is e = (fields, is, e)

-- the foreign targets of the fields of objects
pub demands : (old : AreaValue) (exits : List ExitRow) → ((a n : Name) → refers_at old a n ≡ true → is_foreign old n ≡ true → has_target exits n ≡ true) →
    (a t : Name) (fields : List Content) → fields_at old a ≡ Some fields → fields_lead_to fields t ≡ true → is_foreign old t ≡ true → has_target exits t ≡ true
demands old exits h a t fields is leads far = h a t (ap (λ o. some_lead_to o t) is ∙ leads) far

pub begun : (skip : Name → Bool) (old : AreaValue) (exits : List ExitRow) → HasDistinct old.segments → ((n : Name) → black_at old n ≡ false) → ((t : Name) → target_marked exits t ≡ false) → IsMarking skip old old exits exits
begun skip old exits distinct clean unmarked =
    record {
      same = refl;
      names = refl;
      distinct = distinct;
      shape = λ n. refl;
      foreign = λ n. refl;
      has = λ t. refl;
      sound = λ n e. begins n (gray_or_else_black (row_of_name old.segments n) e (clean n)) (marked_lives (row_of_name old.segments n) e);
      roots = λ n e. marked_from_gray (row_of_name old.segments n) e;
      closed = λ a b fields plain e is leads live. absurd (false≢true (sym (clean a) ∙ e));
      exits_sound = λ t e. absurd (false≢true (sym (unmarked t) ∙ e));
      exits_closed = λ a t fields plain e is leads far. absurd (false≢true (sym (clean a) ∙ e));
    }

same_fields : {x y : List Content} → ◌≡◌ {A = Option (List Content)} (Some x) (Some y) → x ≡ y
same_fields e = cc

module _ (skip : Name → Bool) (old now after : AreaValue) (exits items later : List ExitRow) (n : Name) (row : Row) (cs : List Content) (marking : IsMarking skip old now exits items) (there : row_of_name now.segments n ≡ Some row) (gray : row.color ≡ Gray)
    (demand : (a t : Name) (fields : List Content) → fields_at old a ≡ Some fields → fields_lead_to fields t ≡ true → is_foreign old t ≡ true → has_target exits t ≡ true)
    (looked : Looked (record { area = with_row_of now n (Some (record row { color = Black })); exits = items }) (record { area = after; exits = later }) cs)
    (part : (k : Name) → fields_lead_to cs k ≡ true → fields_lead_to row.fields k ≡ true) (whole : skip n ≡ false → cs ≡ row.fields) where
  marked_same : (k : Name) → marked_at (with_row_of now n (Some (record row { color = Black }))) k ≡ marked_at now k
  marked_same k =
      elim (test_after some_marked now n row Black there k) [
        | inl h ↦ h.1 ∙ sym (h.2 ∙ ap is_marked gray)
        | inr h ↦ h.1
      ]

  pub black_cases : (k : Name) → black_at after k ≡ true → (n ≡ k) ⊎ (black_at now k ≡ true)
  black_cases k e =
      elim (test_after some_black now n row Black there k) [
        | inl h ↦ inl (name_eq-true n k h.0)
        | inr h ↦ inr (sym (looked.black k ∙ h.1) ∙ e)
      ]

  was_marked : marked_at now n ≡ true
  was_marked = ap some_marked there ∙ ap is_marked gray

  pub fields_were : fields_at old n ≡ Some row.fields
  fields_were = sym (marking.shape n) ∙ ap (option_map (λ (r : Row). r.fields)) there

  shape_was : (k : Name) → fields_at (with_row_of now n (Some (record row { color = Black }))) k ≡ fields_at old k
  shape_was k = recolored_shape now n row Black there k ∙ marking.shape k

  foreign_was : (k : Name) → is_foreign (with_row_of now n (Some (record row { color = Black }))) k ≡ is_foreign old k
  foreign_was k = after_foreign now n row (record row { color = Black }) (found now n row there) k ∙ marking.foreign k

  pub stepped : IsMarking skip old after exits later
  stepped = record {
    same = looked.same ∙ same_unmarked now n row Black there ∙ marking.same;
    names = looked.names ∙ marking.names;
    distinct = looked.distinct (after_distinct now n row (record row { color = Black }) (found now n row there) marking.distinct);
    shape = λ k. looked.shape k ∙ shape_was k;
    foreign = λ k. looked.foreign k ∙ foreign_was k;
    has = λ t. looked.exit_has t ∙ marking.has t;
    sound = λ k e.
        elim (looked.only k e) [
          | inl h ↦ marking.sound k (sym (marked_same k) ∙ h)
          | inr h ↦ follows n k (marking.sound n was_marked) (ap (λ o. some_lead_to o k) fields_were ∙ part k h.0) (ap is_some (sym (shape_was k)) ∙ h.1)
        ];
    roots = λ k e. looked.more k (marked_same k ∙ marking.roots k e);
    closed = λ a b fields plain e is leads live.
        elim (black_cases a e) [
          | inl same ↦
              let held : fields ≡ cs = same_fields (sym is ∙ ap (fields_at old) (sym same) ∙ fields_were) ∙ sym (whole (ap skip same ∙ plain)) in
              looked.all b (ap (λ f. fields_lead_to f b) (sym held) ∙ leads) (ap is_some (shape_was b) ∙ live)
          | inr h ↦ looked.more b (marked_same b ∙ marking.closed a b fields plain h is leads live)
        ];
    exits_sound = λ t e.
        elim (looked.exit_only t e) [
          | inl h ↦ marking.exits_sound t h
          | inr h ↦ record { from = n; reached = marking.sound n was_marked; refers = ap (λ o. some_lead_to o t) fields_were ∙ part t h.0; foreign = sym (foreign_was t) ∙ h.1 }
        ];
    exits_closed = λ a t fields plain e is leads far.
        elim (black_cases a e) [
          | inl same ↦
              let held : fields ≡ cs = same_fields (sym is ∙ ap (fields_at old) (sym same) ∙ fields_were) ∙ sym (whole (ap skip same ∙ plain)) in
              looked.exit_all t (ap (λ f. fields_lead_to f t) (sym held) ∙ leads) (foreign_was t ∙ far) (marking.has t ∙ demand a t fields is leads far)
          | inr h ↦ looked.exit_more t (marking.exits_closed a t fields plain h is leads far)
        ];
  }

  pub less_left : left after + 1 ≡ left now
  less_left =
      let sums = after_total now n row (record row { color = Black }) (found now n row there) todo_row in
      let on : todo_row (Some row) ≡ 1 = ap (λ c. cond (is_black c) 0 1) gray in
      omega (arith, sums, on, looked.todo)

  pub more_work : black_work after ≡ black_work now + count_by is_ref row.fields + 1
  more_work =
      let sums = after_total now n row (record row { color = Black }) (found now n row there) black_row in
      let off : black_row (Some row) ≡ 0 = ap (λ c. cond (is_black c) (count_by is_ref row.fields + 1) 0) gray in
      omega (arith, sums, off, looked.worked)

module _ (old now : AreaValue) (exits items : List ExitRow) (marking : IsMarking (λ n. false) old now exits items) (done : (n : Name) → gray_at now n ≡ false) where
  black_now : (n : Name) → marked_at now n ≡ true → black_at now n ≡ true
  black_now n e = black_from_marked (row_of_name now.segments n) e (done n)

  reached_marked : (n : Name) → IsReachedIn old n → marked_at now n ≡ true
  reached_marked _ (begins n e l) = marking.roots n e
  reached_marked _ (follows a n r ref live) =
      let held = refers_fields old a n ref in
      marking.closed a n held.0 refl (black_now a (reached_marked a r)) held.1 held.2 live

  pub marked_is : (n : Name) → (marked_at now n ≡ true) ↔ IsReachedIn old n
  marked_is n = (marking.sound n, reached_marked n)

  pub exits_is : (t : Name) → (target_marked items t ≡ true) ↔ IsExit old t
  exits_is t = (
    marking.exits_sound t,
    λ e. let held = refers_fields old e.from t e.refers in marking.exits_closed e.from t held.0 refl (black_now e.from (reached_marked e.from e.reached)) held.1 held.2 e.foreign,
  )

module _ (skip : Name → Bool) (old now black after : AreaValue) (exits items later : List ExitRow) (n : Name) (row : Row) (marking : IsMarking skip old now exits items) (there : row_of_name now.segments n ≡ Some row) (gray : row.color ≡ Gray)
    (is : black ≡ with_row_of now n (Some (record row { color = Black })))
    (demand : (a t : Name) (fields : List Content) → fields_at old a ≡ Some fields → fields_lead_to fields t ≡ true → is_foreign old t ≡ true → has_target exits t ≡ true) where
  row_black : row_of_name black.segments n ≡ Some (record row { color = Black })
  row_black = ap (λ (a : AreaValue). row_of_name a.segments n) is ∙ after_same now n row (record row { color = Black }) (found now n row there)

  pub still_live : is_some (row_of_name black.segments n) ≡ true
  still_live = ap is_some row_black

  pub demand_now : (fields : List Content) (t : Name) → fields_at black n ≡ Some fields → fields_lead_to fields t ≡ true → is_foreign black t ≡ true → has_target items t ≡ true
  demand_now fields t held leads far =
      marking.has t ∙ demand n t fields
      (sym (ap (λ (a : AreaValue). fields_at a n) is ∙ recolored_shape now n row Black there n ∙ marking.shape n) ∙ held) leads
      (sym (ap (λ (a : AreaValue). is_foreign a t) is ∙ after_foreign now n row (record row { color = Black }) (found now n row there) t ∙ marking.foreign t) ∙ far)

  pub looked_now : ((fields : List Content) → fields_at black n ≡ Some fields → record { area = after; exits = later } ≡ looked_all fields (record { area = black; exits = items })) →
      Looked (record { area = with_row_of now n (Some (record row { color = Black })); exits = items }) (record { area = after; exits = later }) row.fields
  looked_now traced =
      let made = traced row.fields (ap (option_map (λ (r : Row). r.fields)) row_black) in
      subst (λ (m : Marks). Looked (record { area = with_row_of now n (Some (record row { color = Black })); exits = items }) m row.fields)
      (sym (made ∙ ap (λ (a : AreaValue). looked_all row.fields (record { area = a; exits = items })) is))
      (looked_list row.fields (record { area = with_row_of now n (Some (record row { color = Black })); exits = items }))

  pub fields_now : fields_at black n ≡ Some row.fields
  fields_now = ap (option_map (λ (r : Row). r.fields)) row_black
