-- Marking where an earlier collection kept objects that are still reached.
use Rattle.std.proofs.Common.{◌≡◌, ◌≢◌, ◌==◌, ◌||◌, ◌⊎◌, ◌↔◌, ◌<◌, ◌≤◌, ℕ, zero, suc, cond, nat_lt, Bool, true, false, refl, sym, ap, ap₂, ◌∙◌, inl, inr, List, [], ◌∷◌, map, take, length, get_or, find, Option, Some, None, is_some, option_map, eq-eqb, ne_eqb, ltb-true, lt-ltb, arith}
use Rattle.std.proofs.lemmas.Bool.{and_from, and_parts, cases_eq, cases_lt, false≢true, or_cases, or_left, or_right}
use Rattle.std.proofs.lemmas.List.Folds.{find_at}
use Rattle.k_exit.proofs.BaseLists.{some_one}
use Rattle.k_laws.specs.k_types.declared.names.Name.{Name}
use Rattle.k_laws.specs.k_types.Names.{name_among}
use Rattle.k_laws.specs.k_types.State.{Content}
use Rattle.k_space.specs.Segments.{Row, SegmentValue, Color, White, Gray, Black, some_gray, some_black, some_marked, is_black, is_marked, blackened_row, blackened_rows, unmarked_row, unmarked_segment}
use Rattle.k_space.specs.Areas.{AreaValue, row_in_segment, row_of_name, segment_at, fields_at, gray_at, black_at, marked_at, blackened, blackened_in, unmarked}
use Rattle.k_space.specs.declared.bound.Bound.{Bound}
use Rattle.k_space.specs.Bounds.{bound_in, is_covered}
use Rattle.k_space.proofs.AreaRows.{number_found}
use Rattle.k_exit.specs.Exits.{ExitRow, marked_first, target_marked, targets}
use Rattle.k_exit.proofs.First.{first_marked}
use Rattle.k_mark.specs.Reached.{IsReached, begins, follows}
use Rattle.k_mark.specs.Kept.{IsBeginning, IsExitFrom, IsKept, IsLedTo, IsReachedFrom, old_at}
use Rattle.k_mark.specs.Marking.{IsReachedIn, IsExit, fields_lead_to, lives_at, refers_at, some_lead_to}
use Rattle.k_mark.proofs.Marked.{IsMarking, black_from_marked, marked_lives, refers_fields}

-- the rows of an area after that
blackened_low : (below i : ℕ) (rows : List (Option Row)) → i < below → get_or (blackened_rows below rows) i None ≡ blackened_row (get_or rows i None)
blackened_low zero i rows low = absurd (omega (arith, low))
blackened_low (suc n) i [] low = refl
blackened_low (suc n) zero (r ∷ rows) low = refl
blackened_low (suc n) (suc i) (r ∷ rows) low = blackened_low n i rows (omega (arith, low))

blackened_high : (below i : ℕ) (rows : List (Option Row)) → below ≤ i → get_or (blackened_rows below rows) i None ≡ get_or rows i None
blackened_high zero i rows high = refl
blackened_high (suc n) i [] high = refl
blackened_high (suc n) zero (r ∷ rows) high = absurd (omega (arith, high))
blackened_high (suc n) (suc i) (r ∷ rows) high = blackened_high n i rows (omega (arith, high))

pub at_find : (xs : List SegmentValue) (k : ℕ) → segment_at xs k ≡ find (λ (s : SegmentValue). s.number == k) xs
at_find xs k = sym (find_at (λ (s : SegmentValue). s.number == k) xs)

pub at_same : (s : SegmentValue) (ss : List SegmentValue) (k : ℕ) → s.number ≡ k → segment_at (s ∷ ss) k ≡ Some s
at_same s ss k e = at_find (s ∷ ss) k ∙ ap (λ b. cond b (Some s) (find (λ (t : SegmentValue). t.number == k) ss)) (eq-eqb s.number k e)

pub at_other : (s : SegmentValue) (ss : List SegmentValue) (k : ℕ) → s.number ≢ k → segment_at (s ∷ ss) k ≡ segment_at ss k
at_other s ss k ne = at_find (s ∷ ss) k ∙ ap (λ b. cond b (Some s) (find (λ (t : SegmentValue). t.number == k) ss)) (ne_eqb s.number k ne) ∙ sym (at_find ss k)

at_blackened : (b : Bound) (segments : List SegmentValue) (k : ℕ) → segment_at (map (blackened_in b) segments) k ≡ option_map (blackened_in b) (segment_at segments k)
at_blackened b [] k = refl
at_blackened b (s ∷ ss) k =
    elim (cases_eq s.number k) [
      | inl e ↦ at_same (blackened_in b s) (map (blackened_in b) ss) k e ∙ sym (ap (option_map (blackened_in b)) (at_same s ss k e))
      | inr ne ↦ at_other (blackened_in b s) (map (blackened_in b) ss) k ne ∙ at_blackened b ss k ∙ sym (ap (option_map (blackened_in b)) (at_other s ss k ne))
    ]

-- the row is black where the bound covers it
rows_black : (b : Bound) (own covered : Bool) (serial : ℕ) (rows : List (Option Row)) → cond own (nat_lt serial b.below) b.others ≡ covered →
    get_or (blackened_rows (cond own b.below (cond b.others (length rows) 0)) rows) serial None ≡ cond covered (blackened_row (get_or rows serial None)) (get_or rows serial None)
rows_black b true true serial rows is = blackened_low b.below serial rows (ltb-true serial b.below is)
rows_black b true false serial rows is =
    elim (cases_lt serial b.below) [
      | inl low ↦ absurd (false≢true (sym is ∙ lt-ltb serial b.below low))
      | inr high ↦ blackened_high b.below serial rows high
    ]
rows_black b false true serial rows is =
    ap (λ x. get_or (blackened_rows (cond x (length rows) 0) rows) serial None) is
    ∙ elim (cases_lt serial (length rows)) [
      | inl low ↦ blackened_low (length rows) serial rows low
      | inr high ↦ blackened_high (length rows) serial rows high ∙ past rows serial high ∙ sym (ap blackened_row (past rows serial high))
    ]
  where
    past : (xs : List (Option Row)) (i : ℕ) → length xs ≤ i → get_or xs i None ≡ None
    past [] i high = refl
    past (x ∷ xs) zero high = absurd (omega (arith, high))
    past (x ∷ xs) (suc i) high = past xs i (omega (arith, high))
rows_black b false false serial rows is = ap (λ x. get_or (blackened_rows (cond x (length rows) 0) rows) serial None) is

row_black : (b : Bound) (a : AreaValue) (n : Name) (covered : Bool) → is_covered b n ≡ covered → row_of_name (blackened b a).segments n ≡ cond covered (blackened_row (row_of_name a.segments n)) (row_of_name a.segments n)
row_black b a n covered is = ap (λ o. row_in_segment o n.serial.0) (at_blackened b a.segments n.seg.0) ∙ by_segment (segment_at a.segments n.seg.0) refl
  where
    none : (c : Bool) → ◌≡◌ {A = Option Row} None (cond c (blackened_row None) None)
    none true = refl
    none false = refl

    by_segment : (o : Option SegmentValue) → segment_at a.segments n.seg.0 ≡ o → row_in_segment (option_map (blackened_in b) o) n.serial.0 ≡ cond covered (blackened_row (row_in_segment o n.serial.0)) (row_in_segment o n.serial.0)
    by_segment None e = none covered
    by_segment (Some s) e =
        let number : s.number ≡ n.seg.0 = number_found a.segments n.seg.0 s e in
        ap (λ k. get_or (blackened_rows (bound_in b k (length s.rows)) s.rows) n.serial.0 None) number ∙ rows_black b (n.seg.0 == b.own.0) covered n.serial.0 s.rows is

-- a test of rows after that
tested : (test : Option Row → Bool) (b : Bound) (a : AreaValue) (n : Name) → ((is_covered b n ≡ true) × (test (row_of_name (blackened b a).segments n) ≡ test (blackened_row (row_of_name a.segments n))))
    ⊎ ((is_covered b n ≡ false) × (test (row_of_name (blackened b a).segments n) ≡ test (row_of_name a.segments n)))
tested test b a n = by_bound (is_covered b n) refl
  where
    by_bound : (c : Bool) → is_covered b n ≡ c →
        ((is_covered b n ≡ true) × (test (row_of_name (blackened b a).segments n) ≡ test (blackened_row (row_of_name a.segments n)))) ⊎ ((is_covered b n ≡ false) × (test (row_of_name (blackened b a).segments n) ≡ test (row_of_name a.segments n)))
    by_bound true e = inl (e, ap test (row_black b a n true e))
    by_bound false e = inr (e, ap test (row_black b a n false e))

-- no mark is left of it
rows_unmarked : (below : ℕ) (rows : List (Option Row)) → map unmarked_row (blackened_rows below rows) ≡ map unmarked_row rows
rows_unmarked zero rows = refl
rows_unmarked (suc n) [] = refl
rows_unmarked (suc n) (None ∷ rows) = ap (λ rs. None ∷ rs) (rows_unmarked n rows)
rows_unmarked (suc n) (Some row ∷ rows) = ap (λ rs. Some (record row { color = White }) ∷ rs) (rows_unmarked n rows)

segments_unmarked : (b : Bound) (segments : List SegmentValue) → map unmarked_segment (map (blackened_in b) segments) ≡ map unmarked_segment segments
segments_unmarked b [] = refl
segments_unmarked b (s ∷ segments) = ap₂ (λ rows ss. record s { rows = rows } ∷ ss) (rows_unmarked (bound_in b s.number (length s.rows)) s.rows) (segments_unmarked b segments)

pub unmarked_same : (below : Bound) (a : AreaValue) → unmarked (blackened below a) ≡ unmarked a
unmarked_same below a = ap (λ ss. record a { segments = ss }) (segments_unmarked below a.segments)

-- its marks
pub none_gray_after : (below : Bound) (a : AreaValue) → ((n : Name) → gray_at a n ≡ false) → (n : Name) → gray_at (blackened below a) n ≡ false
none_gray_after below a none n =
    elim (tested some_gray below a n) [
      | inl h ↦ h.1 ∙ by_row (row_of_name a.segments n)
      | inr h ↦ h.1 ∙ none n
    ]
  where
    by_row : (o : Option Row) → some_gray (blackened_row o) ≡ false
    by_row None = refl
    by_row (Some row) = refl

still_marked : (below : Bound) (a : AreaValue) (n : Name) → marked_at a n ≡ true → marked_at (blackened below a) n ≡ true
still_marked below a n e =
    elim (tested some_marked below a n) [
      | inl h ↦ h.1 ∙ by_row (row_of_name a.segments n) e
      | inr h ↦ h.1 ∙ e
    ]
  where
    by_row : (o : Option Row) → some_marked o ≡ true → some_marked (blackened_row o) ≡ true
    by_row None e = e
    by_row (Some row) e = refl

low_marked : (below : Bound) (a : AreaValue) (n : Name) → is_covered below n ≡ true → is_some (fields_at a n) ≡ true → marked_at (blackened below a) n ≡ true
low_marked below a n low live = ap some_marked (row_black below a n true low) ∙ by_row (row_of_name a.segments n) live
  where
    by_row : (o : Option Row) → is_some (option_map (λ (row : Row). row.fields) o) ≡ true → some_marked (blackened_row o) ≡ true
    by_row None e = e
    by_row (Some row) e = refl

was_marked : (below : Bound) (a : AreaValue) (n : Name) → marked_at (blackened below a) n ≡ true → (marked_at a n ≡ true) ⊎ ((is_covered below n ≡ true) × (is_some (fields_at a n) ≡ true))
was_marked below a n e =
    elim (tested some_marked below a n) [
      | inl h ↦ inr (h.0, by_row (row_of_name a.segments n) (sym h.1 ∙ e))
      | inr h ↦ inl (sym h.1 ∙ e)
    ]
  where
    by_row : (o : Option Row) → some_marked (blackened_row o) ≡ true → is_some (option_map (λ (row : Row). row.fields) o) ≡ true
    by_row None e = e
    by_row (Some row) e = refl

same_shape : (below : Bound) (a : AreaValue) (n : Name) → fields_at (blackened below a) n ≡ fields_at a n
same_shape below a n = by_bound (is_covered below n) refl
  where
    by_row : (o : Option Row) → option_map (λ (row : Row). row.fields) (blackened_row o) ≡ option_map (λ (row : Row). row.fields) o
    by_row None = refl
    by_row (Some row) = refl

    by_bound : (c : Bool) → is_covered below n ≡ c → fields_at (blackened below a) n ≡ fields_at a n
    by_bound true e = ap (option_map (λ (row : Row). row.fields)) (row_black below a n true e) ∙ by_row (row_of_name a.segments n)
    by_bound false e = ap (option_map (λ (row : Row). row.fields)) (row_black below a n false e)

pub marked_of_black : (o : Option Row) → some_black o ≡ true → some_marked o ≡ true
marked_of_black None e = e
marked_of_black (Some row) e = by_color row.color e
  where
    by_color : (c : Color) → is_black c ≡ true → is_marked c ≡ true
    by_color White e = e
    by_color Gray e = refl
    by_color Black e = refl

-- where some are reached along each other they are reached
along : (below : Bound) (old : AreaValue) (start : Name → Bool) (n : Name) → IsReached (old_at old below) (refers_at old) start n → IsReached (lives_at old) (refers_at old) start n
along below old start _ (begins n s l) = begins n s (and_parts (lives_at old n) (is_covered below n) l).0
along below old start _ (follows a n r ref l) = follows a n (along below old start a r) ref (and_parts (lives_at old n) (is_covered below n) l).0

-- the references of black objects that were traced lead to lower serials
abbrev pub AreTracedLower : AreaValue → Bound → AreaValue → Bound → Type 0
AreTracedLower old below now next = (a m : Name) → old_at old below a ≡ false → black_at now a ≡ true → refers_at old a m ≡ true → is_covered next m ≡ true

module _ (below : Bound) (old now : AreaValue) (exits items : List ExitRow) (marking : IsMarking (old_at old below) old now exits items) (done : (n : Name) → gray_at now n ≡ false)
    (start : Name → Bool) (beginning : IsBeginning old below start) (first : ℕ) (led : (n : Name) → (name_among n (take first (targets exits)) ≡ true) ↔ IsLedTo old (old_at old below) n) where
  old_of : (n : Name) → is_covered below n ≡ true → is_some (fields_at old n) ≡ true → old_at old below n ≡ true
  old_of n low live = and_from (lives_at old n) (is_covered below n) live low

  parts : (n : Name) → marked_at (blackened below now) n ≡ true → (marked_at now n ≡ true) ⊎ (old_at old below n ≡ true)
  parts n e =
      elim (was_marked below now n e) [
        | inl h ↦ inl h
        | inr h ↦ inr (old_of n h.0 (ap is_some (sym (marking.shape n)) ∙ h.1))
      ]

  black_then : (n : Name) → marked_at now n ≡ true → black_at now n ≡ true
  black_then n e = black_from_marked (row_of_name now.segments n) e (done n)

  old_marked : (n : Name) → old_at old below n ≡ true → marked_at (blackened below now) n ≡ true
  old_marked n e =
      let both = and_parts (lives_at old n) (is_covered below n) e in
      low_marked below now n both.1 (ap is_some (marking.shape n) ∙ both.0)

  wider : (n : Name) → IsReachedIn old n → IsReachedFrom old start n
  wider _ (begins n e l) = begins n (beginning.gray n e) l
  wider _ (follows a n r ref l) = follows a n (wider a r) ref l

  sound : (n : Name) → marked_at (blackened below now) n ≡ true → IsReachedFrom old start n
  sound n e =
      elim (parts n e) [
        | inl h ↦ wider n (marking.sound n h)
        | inr h ↦ along below old start n (beginning.kept.reached n h)
      ]

  -- an object that was not kept is black, and was traced
  traced : (n : Name) → marked_at (blackened below now) n ≡ true → old_at old below n ≡ false → black_at now n ≡ true
  traced n e plain =
      elim (parts n e) [
        | inl h ↦ black_then n h
        | inr h ↦ absurd (false≢true (sym plain ∙ h))
      ]

  all : (n : Name) → IsReachedFrom old start n → marked_at (blackened below now) n ≡ true
  all _ (begins n e l) =
      elim (beginning.known n e l) [
        | inl gray ↦ still_marked below now n (marking.roots n gray)
        | inr o ↦ old_marked n o
      ]
  all _ (follows a n r ref live) = by_old (old_at old below a) refl (all a r)
    where
      by_old : (b : Bool) → old_at old below a ≡ b → marked_at (blackened below now) a ≡ true → marked_at (blackened below now) n ≡ true
      by_old true o m = old_marked n (old_of n (beginning.kept.closed a n o ref) live)
      by_old false o m = let held = refers_fields old a n ref in still_marked below now n (marking.closed a n held.0 o (traced a m o) held.1 held.2 live)

  pub kept_reached : (n : Name) → (marked_at (blackened below now) n ≡ true) ↔ IsReachedFrom old start n
  kept_reached n = (sound n, all n)

  -- a target is marked in the end if it is one of the first ones or was marked
  marked_then : (t : Name) → target_marked (marked_first first items) t ≡ (name_among t (take first (targets exits)) || target_marked items t)
  marked_then t = first_marked first items t ∙ ap (λ ns. name_among t (take first ns) || target_marked items t) marking.names

  exit_marked : (t : Name) → IsExitFrom old start t → target_marked (marked_first first items) t ≡ true
  exit_marked t e = marked_then t ∙ by_old (old_at old below e.from) refl (all e.from e.reached)
    where
      by_old : (b : Bool) → old_at old below e.from ≡ b → marked_at (blackened below now) e.from ≡ true → (name_among t (take first (targets exits)) || target_marked items t) ≡ true
      by_old true o m = or_left (name_among t (take first (targets exits))) (target_marked items t) ((led t).1 (record { from = e.from; one = o; refers = e.refers; foreign = e.foreign }))
      by_old false o m =
          let held = refers_fields old e.from t e.refers in
          or_right (name_among t (take first (targets exits))) (target_marked items t) (marking.exits_closed e.from t held.0 o (traced e.from m o) held.1 held.2 e.foreign)

  exit_from : (t : Name) → IsExit old t → IsExitFrom old start t
  exit_from t e = record { from = e.from; reached = wider e.from e.reached; refers = e.refers; foreign = e.foreign }

  exit_led : (t : Name) → IsLedTo old (old_at old below) t → IsExitFrom old start t
  exit_led t l = record { from = l.from; reached = along below old start l.from (beginning.kept.reached l.from l.one); refers = l.refers; foreign = l.foreign }

  exit_sound : (t : Name) → target_marked (marked_first first items) t ≡ true → IsExitFrom old start t
  exit_sound t m =
      elim (or_cases (name_among t (take first (targets exits))) (target_marked items t) (sym (marked_then t) ∙ m)) [
        | inl among ↦ exit_led t ((led t).0 among)
        | inr traced_there ↦ exit_from t (marking.exits_sound t traced_there)
      ]

  pub kept_exits : (t : Name) → (target_marked (marked_first first items) t ≡ true) ↔ IsExitFrom old start t
  kept_exits t = (exit_sound t, exit_marked t)

  -- what is kept now
  module _ (next : Bound) (above : (n : Name) → is_covered below n ≡ true → is_covered next n ≡ true) (most : (n : Name) (row : Row) → row_of_name old.segments n ≡ Some row → is_covered next n ≡ true) (lower : AreTracedLower old below now next) where
    black_after : (n : Name) → marked_at (blackened below now) n ≡ true → black_at (blackened below now) n ≡ true
    black_after n e = black_from_marked (row_of_name (blackened below now).segments n) e (none_gray_after below now done n)

    refers_same : (n m : Name) → refers_at (blackened below now) n m ≡ refers_at old n m
    refers_same n m = ap (λ o. some_lead_to o m) (same_shape below now n ∙ marking.shape n)

    low_after : (n : Name) → black_at (blackened below now) n ≡ true → is_covered next n ≡ true
    low_after n e = by_row (row_of_name old.segments n) refl (sym (ap is_some (same_shape below now n ∙ marking.shape n)) ∙ marked_lives (row_of_name (blackened below now).segments n) (marked_of_black (row_of_name (blackened below now).segments n) e))
      where
        by_row : (o : Option Row) → row_of_name old.segments n ≡ o → is_some (option_map (λ (row : Row). row.fields) o) ≡ true → is_covered next n ≡ true
        by_row None is l = absurd (false≢true l)
        by_row (Some row) is l = most n row is

    closed_after : (n m : Name) → black_at (blackened below now) n ≡ true → refers_at (blackened below now) n m ≡ true → is_covered next m ≡ true
    closed_after n m e ref = by_old (old_at old below n) refl
      where
        by_old : (b : Bool) → old_at old below n ≡ b → is_covered next m ≡ true
        by_old true o = above m (beginning.kept.closed n m o (sym (refers_same n m) ∙ ref))
        by_old false o = lower n m o (traced n (marked_of_black (row_of_name (blackened below now).segments n) e) o) (sym (refers_same n m) ∙ ref)

    reached_after : (n : Name) → IsReachedFrom old start n → IsReached (black_at (blackened below now)) (refers_at (blackened below now)) start n
    reached_after _ (begins n e l) = begins n e (black_after n (all n (begins n e l)))
    reached_after _ (follows a n r ref l) = follows a n (reached_after a r) (refers_same a n ∙ ref) (black_after n (all n (follows a n r ref l)))

    pub kept_next : IsKept (black_at (blackened below now)) (refers_at (blackened below now)) start next
    kept_next = record {
      low = low_after;
      closed = closed_after;
      reached = λ n e. reached_after n (sound n (marked_of_black (row_of_name (blackened below now).segments n) e));
    }

-- an object with a lower serial that is found gray was kept
pub found_old : (below : Bound) (old now : AreaValue) (exits items : List ExitRow) (n : Name) (row : Row) → IsMarking (old_at old below) old now exits items → row_of_name now.segments n ≡ Some row → is_covered below n ≡ true → old_at old below n ≡ true
found_old below old now exits items n row marking there low =
    and_from (lives_at old n) (is_covered below n) (ap is_some (sym (marking.shape n) ∙ ap (option_map (λ (r : Row). r.fields)) there)) low

-- one more object is black, and traced where it was not kept
pub lower_more : (below next : Bound) (old now after : AreaValue) (n : Name) (fields : List Content) → ((k : Name) → black_at after k ≡ true → (n ≡ k) ⊎ (black_at now k ≡ true)) → fields_at old n ≡ Some fields →
    (old_at old below n ≡ false → (m : Name) → fields_lead_to fields m ≡ true → is_covered next m ≡ true) → AreTracedLower old below now next → AreTracedLower old below after next
lower_more below next old now after n fields cases were here was a m plain black ref =
    elim (cases a black) [
      | inl same ↦
          let held = refers_fields old a m ref in
          let one : held.0 ≡ fields = some_one (sym held.1 ∙ ap (fields_at old) (sym same) ∙ were) in
          here (ap (old_at old below) same ∙ plain) m (ap (λ f. fields_lead_to f m) (sym one) ∙ held.2)
      | inr before ↦ was a m plain before ref
    ]
