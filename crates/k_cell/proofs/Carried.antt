-- What a cell knows of its last collection after each change.
use Rattle.std.proofs.Common.{◌≡◌, ◌==◌, ◌↔◌, ◌&&◌, ◌||◌, ◌<◌, ◌≤◌, not, ℕ, zero, suc, nat_lt, Bool, true, false, cond, refl, sym, ap, ap₂, subst, ◌∙◌, inl, inr, List, [], ◌∷◌, ◌++◌, length, take, slice_get, slice_set, Vec, Global, Option, Some, None, is_some, option_map, ltb-true, lt-ltb, arith}
use Rattle.std.specs.List.{list_any}
use Rattle.std.proofs.lemmas.Bool.{and_parts, cases_eq, cases_lt, false≢true, or_cases, or_left, or_right}
use Rattle.std.proofs.lemmas.List.{get_or_append_left, length-append, length-map, map-append, take_all}
use Rattle.std.proofs.lemmas.Option.{slice_get_within}
use Rattle.k_mark.specs.k_types.declared.names.Name.{Name}
use Rattle.k_mark.specs.k_types.declared.names.Link.{Link}
use Rattle.k_mark.specs.k_types.declared.names.CellPhase.{CellPhase}
use Rattle.k_mark.specs.k_types.declared.names.CellPhase.TheVariants.{Idle, Begun, Marked}
use Rattle.k_mark.specs.k_types.Names.{name_among, name_eq, name_of}
use Rattle.k_mark.specs.k_types.State.{Content, Holds, Refers, content_leads_to}
use Rattle.k_mark.proofs.Lists.{some_one}
use Rattle.k_agree.proofs.NameTests.{name_eq-true}
use Rattle.k_mark.specs.k_space.Objects.{BodyValue}
use Rattle.k_mark.specs.k_space.declared.bound.Bound.{Bound}
use Rattle.k_mark.specs.k_space.Bounds.{is_covered, nothing}
use Rattle.k_mark.specs.k_space.Segments.{Row, SegmentValue, unmarked_segment, is_marked, new_row, placed, some_black, some_gray, some_marked, unmarked_row}
use Rattle.k_mark.specs.k_space.Areas.{AreaValue, black_at, fields_at, gray_at, is_foreign, row_in_segment, row_of_name, segment_at, unmarked, with_segment}
use Rattle.k_mark.proofs.AreaRows.{found, after_foreign, after_other, after_same, number_found}
use Rattle.k_mark.proofs.Segs.{unmarked_twice}
use Rattle.k_mark.specs.k_exit.Exits.{ExitList, ExitRow, IsTaken, has_target, target_marked, targets, unmarked as unmarked_exits, with_target}
use Rattle.k_mark.specs.Kept.{IsKept, IsLedTo, old_at}
use Rattle.k_mark.specs.Marking.{lives_at, refers_at, some_lead_to}
use Rattle.k_mark.specs.Sweeping.{survivor, swept, swept_segment}
use Rattle.k_mark.proofs.Found.{at_map, at_set_same, at_set_other}
use Rattle.k_mark.proofs.Looked.{row_swept, row_unmarked}
use Rattle.k_mark.proofs.Named.{marked_named, targets_named}
use Rattle.k_cell.specs.declared.carrying.Carried.{Carried}
use Rattle.k_cell.specs.Carried.{AreMarkedFor, AreMarkedIn, IsCarried, IsWhole, known_bound}
use Rattle.k_cell.specs.Holdings.{AreHoldings}
use Rattle.k_cell.specs.Looks.{holds_int, row_fields}
use Rattle.k_cell.specs.Placed.{IsIntAt, IsPlacedIn, IsWrittenIf, IsWrittenIn}
use Rattle.k_cell.proofs.Lists.{all_rows_marked, unmarked_targets}
use Rattle.k_cell.proofs.Marks.{IsMarkedBy, was_unmarked}
use Rattle.k_mark.proofs.OfParts.{black_marked}
use Rattle.k_mark.proofs.KeptMarked.{marked_of_black}
use Rattle.k_cell.proofs.Keeps.{fields_whole, led_from, none_old, same_fields_kept, same_kept, through, whole_same}

-- no collection is open
idle_marked : (phase : CellPhase) (a : AreaValue) (items : List ExitRow) (these : Name → Bool) (below : Bound) (roots : List Name) → phase ≡ Idle → AreMarkedIn phase a items these below roots
idle_marked Idle a items these below roots e = tt
idle_marked Begun a items these below roots e = absurd (cc)
idle_marked Marked a items these below roots e = absurd (cc)

pub idle_carried : (phase : CellPhase) (a : AreaValue) (items : List ExitRow) (c : Carried) → phase ≡ Idle → (c.whole ≡ true → IsWhole a items c.bound c.first c.roots.items) → IsCarried phase a items c
idle_carried phase a items c idle whole = record {
  whole = whole;
  swept = λ t. idle_marked phase a items (old_at a c.bound) c.bound c.roots.items idle;
  noted = λ t. idle_marked phase a items (black_at a) c.next c.pending.items idle;
}

-- in one segment a covered object has a lower serial than one that is not covered
covered_lower : (below : Bound) (n m : Name) → n.seg.0 ≡ m.seg.0 → is_covered below n ≡ true → is_covered below m ≡ false → n.serial.0 < m.serial.0
covered_lower below n m same on off = by_segment (n.seg.0 == below.own.0) on (ap (λ k. cond (k == below.own.0) (nat_lt m.serial.0 below.below) below.others) same ∙ off)
  where
    by_segment : (b : Bool) → cond b (nat_lt n.serial.0 below.below) below.others ≡ true → cond b (nat_lt m.serial.0 below.below) below.others ≡ false → n.serial.0 < m.serial.0
    by_segment true on off =
        let low = ltb-true n.serial.0 below.below on in
        elim (cases_lt m.serial.0 below.below) [
          | inl lower ↦ absurd (false≢true (sym off ∙ lt-ltb m.serial.0 below.below lower))
          | inr high ↦ omega (arith, low, high)
        ]
    by_segment false on off = absurd (false≢true (sym off ∙ on))

-- an object placed
module _ (a new : AreaValue) (number : ℕ) (below : Bound) (body : BodyValue) (link : Link) (p : IsPlacedIn a new number body link) (high : is_covered below (name_of link) ≡ false) where
  own : (placed p.segment link.slot.0 body).number ≡ number
  own = number_found a.segments number p.segment p.there

  fields_placed : (n : Name) → is_covered below n ≡ true → fields_at new n ≡ fields_at a n
  fields_placed n low =
      ap (λ (x : AreaValue). fields_at x n) p.placed
      ∙ ap (option_map (λ (row : Row). row.fields))
      (elim (cases_eq n.seg.0 number) [
        | inl same ↦
            ap (λ k. row_in_segment (segment_at (with_segment a number (placed p.segment link.slot.0 body)).segments k) n.serial.0) same
            ∙ ap (λ o. row_in_segment o n.serial.0) (at_set_same a.segments number p.segment (placed p.segment link.slot.0 body) p.there own)
            ∙ get_or_append_left p.segment.rows (Some (new_row link.slot.0 body) ∷ []) None n.serial.0 (let under = covered_lower below n (name_of link) (same ∙ sym p.seg) low high in omega (arith, under, p.serial))
            ∙ sym (ap (λ k. row_in_segment (segment_at a.segments k) n.serial.0) same ∙ ap (λ o. row_in_segment o n.serial.0) p.there)
        | inr differs ↦ ap (λ o. row_in_segment o n.serial.0) (at_set_other a.segments number p.segment (placed p.segment link.slot.0 body) p.there own n.seg.0 differs)
      ])

foreign_placed : (a new : AreaValue) (number : ℕ) (body : BodyValue) (link : Link) → IsPlacedIn a new number body link → (n : Name) → is_foreign new n ≡ is_foreign a n
foreign_placed a new number body link p n =
    ap (λ (x : AreaValue). is_foreign x n) p.placed
    ∙ elim (cases_eq n.seg.0 number) [
      | inl same ↦
          ap (λ k. not (is_some (segment_at (with_segment a number after).segments k))) same
          ∙ ap (λ (o : Option SegmentValue). not (is_some o)) (at_set_same a.segments number p.segment after p.there number_is)
          ∙ sym (ap (λ k. not (is_some (segment_at a.segments k))) same ∙ ap (λ (o : Option SegmentValue). not (is_some o)) p.there)
      | inr differs ↦ ap (λ (o : Option SegmentValue). not (is_some o)) (at_set_other a.segments number p.segment after p.there number_is n.seg.0 differs)
    ]
  where
    after : SegmentValue
    after = placed p.segment link.slot.0 body

    number_is : after.number ≡ number
    number_is = number_found a.segments number p.segment p.there

pub placed_carried : (phase : CellPhase) (a new : AreaValue) (items : List ExitRow) (c : Carried) (after : Bool) (number : ℕ) (body : BodyValue) (link : Link) → IsCarried phase a items c → phase ≡ Idle → IsPlacedIn a new number body link →
    (after ≡ true → (c.whole ≡ true) × (is_covered c.bound (name_of link) ≡ false)) → IsCarried phase new items (record c { whole = after })
placed_carried phase a new items c after number body link was idle p still = idle_carried phase new items (record c { whole = after }) idle (λ t.
    let s = still t in
    fields_whole a new items c.bound c.first c.roots.items (fields_placed a new number c.bound body link p s.1) (foreign_placed a new number body link p) (was.whole s.0))

-- a field written
fields_written : (a new : AreaValue) (at : Name) (field : ℕ) (below : Bound) (content : Content) → IsWrittenIn a new at field content → is_covered below at ≡ false → (n : Name) → is_covered below n ≡ true → fields_at new n ≡ fields_at a n
fields_written a new at field below content w high n low =
    ap (λ (x : AreaValue). fields_at x n) w.written
    ∙ ap (option_map (λ (row : Row). row.fields)) (after_other a at w.row (record w.row { fields = slice_set w.row.fields field content }) (found a at w.row w.there) n (differ (name_eq at n) refl))
  where
    differ : (b : Bool) → name_eq at n ≡ b → name_eq at n ≡ false
    differ false e = e
    differ true e = absurd (false≢true (sym high ∙ ap (is_covered below) (name_eq-true at n e) ∙ low))

foreign_written : (a new : AreaValue) (at : Name) (field : ℕ) (content : Content) → IsWrittenIn a new at field content → (n : Name) → is_foreign new n ≡ is_foreign a n
foreign_written a new at field content w n =
    ap (λ (x : AreaValue). is_foreign x n) w.written ∙ after_foreign a at w.row (record w.row { fields = slice_set w.row.fields field content }) (found a at w.row w.there) n

pub written_carried : (phase : CellPhase) (a new : AreaValue) (items : List ExitRow) (c : Carried) (after : Bool) (field : ℕ) (at : Name) (content : Content) → IsCarried phase a items c → phase ≡ Idle → IsWrittenIn a new at field content →
    (after ≡ true → (c.whole ≡ true) × (is_covered c.bound at ≡ false)) → IsCarried phase new items (record c { whole = after })
written_carried phase a new items c after field at content was idle w still = idle_carried phase new items (record c { whole = after }) idle (λ t.
    let s = still t in
    fields_whole a new items c.bound c.first c.roots.items (fields_written a new at field c.bound content w s.1) (foreign_written a new at field content w) (was.whole s.0))

pub stored_carried : (b : Bool) (phase : CellPhase) (a new : AreaValue) (items : List ExitRow) (c : Carried) (after : Bool) (field : ℕ) (at : Name) (content : Content) → IsCarried phase a items c → phase ≡ Idle → IsWrittenIf b a new at field content →
    (after ≡ true → (c.whole ≡ true) × (is_covered c.bound at ≡ false)) → IsCarried phase new items (record c { whole = after })
stored_carried true phase a new items c after field at content was idle w still = written_carried phase a new items c after field at content was idle w still
stored_carried false phase a new items c after field at content was idle same still =
    subst (λ (x : AreaValue). IsCarried phase x items (record c { whole = after })) (sym same) (idle_carried phase a items (record c { whole = after }) idle (λ t. was.whole (still t).0))

-- marks
pub unmarked_fields : (a : AreaValue) (n : Name) → fields_at (unmarked a) n ≡ fields_at a n
unmarked_fields a n = ap (option_map (λ (row : Row). row.fields)) (row_unmarked a n) ∙ by_row (row_of_name a.segments n)
  where
    by_row : (o : Option Row) → option_map (λ (row : Row). row.fields) (unmarked_row o) ≡ option_map (λ (row : Row). row.fields) o
    by_row None = refl
    by_row (Some row) = refl

pub marks_kept : (a new : AreaValue) (start : Name → Bool) (below : Bound) → unmarked new ≡ unmarked a → IsKept (old_at a below) (refers_at a) start below → IsKept (old_at new below) (refers_at new) start below
marks_kept a new start below same was = same_fields_kept a new start below (λ n low. sym (unmarked_fields new n) ∙ ap (λ (x : AreaValue). fields_at x n) same ∙ unmarked_fields a n) was

pub foreign_alike : (a b : AreaValue) (n : Name) → unmarked b ≡ unmarked a → is_foreign b n ≡ is_foreign a n
foreign_alike a b n same = sym (plain b) ∙ ap (λ (x : AreaValue). is_foreign x n) same ∙ plain a
  where
    there : (o : Option SegmentValue) → not (is_some (option_map unmarked_segment o)) ≡ not (is_some o)
    there None = refl
    there (Some s) = refl

    plain : (x : AreaValue) → is_foreign (unmarked x) n ≡ is_foreign x n
    plain x = ap (λ (o : Option SegmentValue). not (is_some o)) (at_map unmarked_segment (λ s. refl) x.segments n.seg.0) ∙ there (segment_at x.segments n.seg.0)

pub marks_whole : (a new : AreaValue) (items others : List ExitRow) (below : Bound) (first : ℕ) (roots : List Name) → unmarked new ≡ unmarked a → targets others ≡ targets items → IsWhole a items below first roots → IsWhole new others below first roots
marks_whole a new items others below first roots same names was =
    let fields : (n : Name) → fields_at new n ≡ fields_at a n = λ n. sym (unmarked_fields new n) ∙ ap (λ (x : AreaValue). fields_at x n) same ∙ unmarked_fields a n in
    let long : length (targets others) ≡ length (targets items) = ap (λ (ns : List Name). length ns) names in
    whole_same a new items others below first roots (λ n low. ap is_some (fields n)) (λ n m low. ap (λ o. some_lead_to o m) (fields n)) (λ n. foreign_alike a new n same)
    (λ e. omega (arith, e, long, length-map items (λ (x : ExitRow). x.target), length-map others (λ (x : ExitRow). x.target))) (λ e. ap (take first) names) was

-- roots
pub any_name : (n : Name) (xs : List Name) → name_among n xs ≡ true → (i : ℕ) × (slice_get xs i ≡ Some n)
any_name n [] e = absurd (false≢true e)
any_name n (x ∷ xs) e =
    elim (or_cases (name_eq x n) (name_among n xs) e) [
      | inl here ↦ (0, ap Some (name_eq-true x n here))
      | inr later ↦ let a = any_name n xs later in (suc a.0, a.1)
    ]

pub all_gray : (a : AreaValue) (below : Bound) (roots : List Name) → ((k : ℕ) (r : Name) → k < length roots → slice_get roots k ≡ Some r → old_at a below r ≡ true → gray_at a r ≡ true) → (n : Name) → name_among n roots ≡ true → old_at a below n ≡ true →
    gray_at a n ≡ true
all_gray a below roots each n among old = let at = any_name n roots among in each at.0 n (slice_get_within roots at.0 n at.1) at.1 old

pub old_lives : (a : AreaValue) (below : Bound) (n : Name) → old_at a below n ≡ true → is_some (row_of_name a.segments n) ≡ true
old_lives a below n e = by_row (row_of_name a.segments n) (and_parts (lives_at a n) (is_covered below n) e).0
  where
    by_row : (o : Option Row) → is_some (option_map (λ (row : Row). row.fields) o) ≡ true → is_some o ≡ true
    by_row None e = e
    by_row (Some row) e = refl

-- what marking may leave untraced
none_led : (a : AreaValue) (items : List ExitRow) (own : ℕ) (n : Name) → (name_among n (take 0 (targets items)) ≡ true) ↔ IsLedTo a (old_at a (nothing own)) n
none_led a items own n = (λ e. absurd (false≢true e), λ l. absurd (none_old a own l.from l.one))

pub known_led : (a new : AreaValue) (items : List ExitRow) (whole known : Bool) (below covered : Bound) (first after : ℕ) (roots : List Name) → unmarked new ≡ unmarked a → (whole ≡ true → IsWhole a items below first roots) → (known ≡ true → whole ≡ true) →
    covered ≡ known_bound known below → (known ≡ true → after ≡ first) → (known ≡ false → after ≡ 0) → (after ≤ length items) × ((n : Name) → (name_among n (take after (targets items)) ≡ true) ↔ IsLedTo new (old_at new covered) n)
known_led a new items whole true below covered first after roots same was is_whole bound is none =
    let w = marks_whole a new items items below first roots same refl (was (is_whole refl)) in (
      omega (arith, w.most, is refl),
      λ n.
          subst (λ (b : Bound). (name_among n (take after (targets items)) ≡ true) ↔ IsLedTo new (old_at new b) n) (sym bound)
          (subst (λ k. (name_among n (take k (targets items)) ≡ true) ↔ IsLedTo new (old_at new below) n) (sym (is refl)) (w.led n)),
    )
known_led a new items whole false below covered first after roots same was is_whole bound is none = (
  omega (arith, none refl),
  λ n.
      subst (λ (b : Bound). (name_among n (take after (targets items)) ≡ true) ↔ IsLedTo new (old_at new b) n) (sym bound)
      (subst (λ k. (name_among n (take k (targets items)) ≡ true) ↔ IsLedTo new (old_at new (nothing below.own.0)) n) (sym (none refl)) (none_led new items below.own.0 n)),
)

-- a number written: the references are as they were
one_test : (p : Content → Bool) (xs : List Content) (i : ℕ) (x y : Content) → slice_get xs i ≡ Some x → p x ≡ p y → list_any p (slice_set xs i y) ≡ list_any p xs
one_test p [] i x y e same = refl
one_test p (c ∷ xs) zero x y e same = ap (λ b. b || list_any p xs) (sym same ∙ ap p (sym (some_one e)))
one_test p (c ∷ xs) (suc i) x y e same = ap (λ b. p c || b) (one_test p xs i x y e same)

-- a collection begins
pub none_gray : (a : AreaValue) (n : Name) → gray_at (unmarked a) n ≡ false
none_gray a n = ap some_gray (row_unmarked a n) ∙ by_row (row_of_name a.segments n)
  where
    by_row : (o : Option Row) → some_gray (unmarked_row o) ≡ false
    by_row None = refl
    by_row (Some row) = refl

pub begun_carried : (phase : CellPhase) (a new : AreaValue) (e after : ExitList) (c : Carried) → IsCarried phase a e.items c → new ≡ unmarked a → after ≡ unmarked_exits e → IsCarried Begun new after.items c
begun_carried phase a new e after c was is exits_is = record {
  whole = λ t.
      marks_whole a new e.items after.items c.bound c.first c.roots.items (ap unmarked is ∙ unmarked_twice a) (ap (λ (x : ExitList). targets x.items) exits_is ∙ unmarked_targets e.items) (was.whole t);
  swept = λ t. tt;
  noted = λ t. tt;
}

-- roots
pub rooted_carried : (phase : CellPhase) (a new : AreaValue) (items : List ExitRow) (c : Carried) → IsCarried phase a items c → phase ≡ Begun → unmarked new ≡ unmarked a → IsCarried phase new items c
rooted_carried Idle a new items c was begun same = absurd (cc)
rooted_carried Marked a new items c was begun same = absurd (cc)
rooted_carried Begun a new items c was begun same = record { whole = λ t. marks_whole a new items items c.bound c.first c.roots.items same refl (was.whole t); swept = λ t. tt; noted = λ t. tt }

-- objects marked
pub marked_led : (a new : AreaValue) (e after : ExitList) → IsMarkedBy a new e after → (n : Name) → (target_marked after.items n ≡ true) ↔ IsLedTo new (black_at new) n
marked_led a new e after m n = through (m.exits n) (
  λ x. record { from = x.from; one = black_marked new m.black x.from ∙ (m.reached x.from).1 x.reached; refers = refers x.from n ∙ x.refers; foreign = foreign_alike a new n m.kept ∙ x.foreign },
  λ l. record { from = l.from; reached = (m.reached l.from).0 (sym (black_marked new m.black l.from) ∙ l.one); refers = sym (refers l.from n) ∙ l.refers; foreign = sym (foreign_alike a new n m.kept) ∙ l.foreign },
)
  where
    refers : (k t : Name) → refers_at new k t ≡ refers_at a k t
    refers k t = ap (λ o. some_lead_to o t) (sym (unmarked_fields new k) ∙ ap (λ (x : AreaValue). fields_at x k) m.kept ∙ unmarked_fields a k)

pub marked_carried : (phase : CellPhase) (a new : AreaValue) (e after : ExitList) (c : Carried) (still : Bool) (next : Bound) (pending : Vec Name Global) → IsCarried phase a e.items c → phase ≡ Begun → IsMarkedBy a new e after →
    (still ≡ true → IsKept (black_at new) (refers_at new) (λ n. name_among n pending.items) next) → IsCarried Marked new after.items (record c { swept = false; noted = still; next = next; pending = pending })
marked_carried phase a new e after c still next pending was begun m found = record {
  whole = λ t. marks_whole a new e.items after.items c.bound c.first c.roots.items m.kept m.targets (was.whole t);
  swept = λ t. absurd (false≢true t);
  noted = λ t. record { kept = found t; led = marked_led a new e after m };
}

-- objects swept
lives_swept : (a : AreaValue) → ((n : Name) → gray_at a n ≡ false) → (n : Name) → lives_at (swept a) n ≡ black_at a n
lives_swept a off n = ap (λ o. is_some (option_map (λ (row : Row). row.fields) o)) (row_swept a n) ∙ by_row (row_of_name a.segments n) ∙ sym (black_marked a off n)
  where
    by_color : (row : Row) (b : Bool) → is_some (option_map (λ (r : Row). r.fields) (cond b (Some row) None)) ≡ b
    by_color row true = refl
    by_color row false = refl

    by_row : (o : Option Row) → is_some (option_map (λ (row : Row). row.fields) (survivor o)) ≡ some_marked o
    by_row None = refl
    by_row (Some row) = by_color row (is_marked row.color)

fields_swept : (a : AreaValue) (n : Name) → black_at a n ≡ true → fields_at (swept a) n ≡ fields_at a n
fields_swept a n e = ap (option_map (λ (row : Row). row.fields)) (row_swept a n) ∙ by_row (row_of_name a.segments n) e
  where
    by_row : (o : Option Row) → some_black o ≡ true → option_map (λ (row : Row). row.fields) (survivor o) ≡ option_map (λ (row : Row). row.fields) o
    by_row None e = refl
    by_row (Some row) e = ap (λ b. option_map (λ (r : Row). r.fields) (cond b (Some row) None)) (marked_of_black (Some row) e)

swept_same : (a : AreaValue) (next : Bound) → ((n : Name) → gray_at a n ≡ false) → ((n : Name) → black_at a n ≡ true → is_covered next n ≡ true) → (n : Name) → old_at (swept a) next n ≡ black_at a n
swept_same a next off low n = by_black (black_at a n) refl
  where
    by_black : (b : Bool) → black_at a n ≡ b → old_at (swept a) next n ≡ black_at a n
    by_black true e = ap₂ (λ x y. x && y) (lives_swept a off n ∙ e) (low n e) ∙ sym e
    by_black false e = ap (λ x. x && is_covered next n) (lives_swept a off n ∙ e) ∙ sym e

swept_here : (a : AreaValue) (start : Name → Bool) (next : Bound) → ((n : Name) → gray_at a n ≡ false) → IsKept (black_at a) (refers_at a) start next → IsKept (old_at (swept a) next) (refers_at (swept a)) start next
swept_here a start next off k = same_kept (black_at a) (old_at (swept a) next) (refers_at a) (refers_at (swept a)) start next (swept_same a next off k.low) (λ n m e. ap (λ o. some_lead_to o m) (fields_swept a n e)) k

foreign_swept : (a : AreaValue) (n : Name) → is_foreign (swept a) n ≡ is_foreign a n
foreign_swept a n = ap (λ (o : Option SegmentValue). not (is_some o)) (at_map swept_segment (λ s. refl) a.segments n.seg.0) ∙ there (segment_at a.segments n.seg.0)
  where
    there : (o : Option SegmentValue) → not (is_some (option_map swept_segment o)) ≡ not (is_some o)
    there None = refl
    there (Some s) = refl

marked_swept : (a : AreaValue) (items : List ExitRow) (next : Bound) (roots : List Name) → ((n : Name) → gray_at a n ≡ false) → AreMarkedFor a items (black_at a) next roots → AreMarkedFor (swept a) items (old_at (swept a) next) next roots
marked_swept a items next roots off m = record {
  kept = swept_here a (λ n. name_among n roots) next off m.kept;
  led = λ n. through (m.led n) (led_from a (swept a) (black_at a) (old_at (swept a) next) (swept_same a next off m.kept.low) (λ k t e. ap (λ o. some_lead_to o t) (fields_swept a k e)) (foreign_swept a) n);
}

pub swept_carried : (phase : CellPhase) (a new : AreaValue) (items : List ExitRow) (c : Carried) (bound bytes : ℕ) → IsCarried phase a items c → phase ≡ Marked → AreHoldings bound bytes phase a items → new ≡ swept a →
    IsCarried phase new items (record c { whole = false; swept = c.noted; bound = c.next; roots = c.pending; noted = false; pending = c.roots })
swept_carried Idle a new items c bound bytes was marked kept is = absurd (cc)
swept_carried Begun a new items c bound bytes was marked kept is = absurd (cc)
swept_carried Marked a new items c bound bytes was marked kept is = record {
  whole = λ t. absurd (false≢true t);
  swept = λ t. subst (λ (x : AreaValue). AreMarkedFor x items (old_at x c.next) c.next c.pending.items) (sym is) (marked_swept a items c.next c.pending.items kept.marks (was.noted t));
  noted = λ t. absurd (false≢true t);
}

-- an exit item added
take_left : (count : ℕ) (xs ys : List Name) → count ≤ length xs → take count (xs ++ ys) ≡ take count xs
take_left zero xs ys most = refl
take_left (suc count) [] ys most = absurd (omega (arith, most))
take_left (suc count) (x ∷ xs) ys most = ap (λ (ns : List Name). x ∷ ns) (take_left count xs ys (omega (arith, most)))

added_first : (e : ExitList) (n : Name) (first : ℕ) → first ≤ length e.items → (first ≤ length (with_target e n).items) × (take first (targets (with_target e n).items) ≡ take first (targets e.items))
added_first e n first most = by_test (has_target e.items n)
  where
    by_test : (b : Bool) → let now = cond b e (record e { items = e.items ++ record { target = n; marked = false } ∷ [] }) in (first ≤ length now.items) × (take first (targets now.items) ≡ take first (targets e.items))
    by_test true = (most, refl)
    by_test false =
        let x : List ExitRow = record { target = n; marked = false } ∷ [] in (
          omega (arith, most, length-append e.items x),
          ap (take first) (map-append (λ (r : ExitRow). r.target) e.items x) ∙ take_left first (targets e.items) (n ∷ []) (omega (arith, most, length-map e.items (λ (r : ExitRow). r.target))),
        )

pub added_carried : (phase : CellPhase) (a : AreaValue) (e after : ExitList) (c : Carried) (n : Name) → IsCarried phase a e.items c → phase ≡ Idle → after ≡ with_target e n → IsCarried phase a after.items c
added_carried phase a e after c n was idle is =
    subst (λ (x : ExitList). IsCarried phase a x.items c) (sym is)
    (idle_carried phase a (with_target e n).items c idle (λ t.
    whole_same a a e.items (with_target e n).items c.bound c.first c.roots.items (λ k low. refl) (λ k m low. refl) (λ k. refl) (λ most. (added_first e n c.first most).0) (λ most. (added_first e n c.first most).1) (was.whole t)))

-- an exit item taken
pub forgotten : (phase : CellPhase) (a : AreaValue) (items : List ExitRow) (c : Carried) → IsCarried phase a items (record c { whole = false; swept = false; noted = false })
forgotten phase a items c = record { whole = λ t. absurd (false≢true t); swept = λ t. absurd (false≢true t); noted = λ t. absurd (false≢true t) }

marks_left : (e after : ExitList) (link : Link) (row : ExitRow) → IsTaken e after link row → row.marked ≡ false → (n : Name) → target_marked after.items n ≡ target_marked e.items n
marks_left e after link row taken off n = taken.marks n ∙ by_name (name_eq row.target n) refl
  where
    plain : (b : Bool) → (b && true) ≡ b
    plain true = refl
    plain false = refl

    by_name : (b : Bool) → name_eq row.target n ≡ b → (target_marked e.items n && not b) ≡ target_marked e.items n
    by_name false is = plain (target_marked e.items n)
    by_name true is =
        let none : target_marked e.items n ≡ false =
        ap (target_marked e.items) (sym (sym taken.target ∙ name_eq-true row.target n is)) ∙ sym (marked_named e.items (name_of link)) ∙ was_unmarked 0 Marked (record { segments = []; room = 0 }) e after link row taken off in
        ap (λ b. b && false) none ∙ sym none

marked_after : (phase : CellPhase) (a : AreaValue) (items others : List ExitRow) (these : Name → Bool) (below : Bound) (roots : List Name) → ((n : Name) → target_marked others n ≡ target_marked items n) → AreMarkedIn phase a items these below roots → AreMarkedIn phase a others these below roots
marked_after Idle a items others these below roots same m = tt
marked_after Begun a items others these below roots same m = tt
marked_after Marked a items others these below roots same m = record { kept = m.kept; led = λ n. subst (λ b. (b ≡ true) ↔ IsLedTo a these n) (sym (same n)) (m.led n) }

pub taken_carried : (phase : CellPhase) (a : AreaValue) (e after : ExitList) (c : Carried) (link : Link) (row : ExitRow) → IsCarried phase a e.items c → IsTaken e after link row → row.marked ≡ false → IsCarried phase a after.items (record c { whole = false })
taken_carried phase a e after c link row was taken off = record {
  whole = λ t. absurd (false≢true t);
  swept = λ t. marked_after phase a e.items after.items (old_at a c.bound) c.bound c.roots.items (marks_left e after link row taken off) (was.swept t);
  noted = λ t. marked_after phase a e.items after.items (black_at a) c.next c.pending.items (marks_left e after link row taken off) (was.noted t);
}

-- each exit item that is left is marked
marked_there : (items : List ExitRow) (n : Name) → target_marked items n ≡ true → has_target items n ≡ true
marked_there [] n t = t
marked_there (x ∷ items) n t =
    elim (or_cases (name_eq x.target n && x.marked) (target_marked items n) t) [
      | inl here ↦ or_left (name_eq x.target n) (has_target items n) (and_parts (name_eq x.target n) x.marked here).0
      | inr later ↦ or_right (name_eq x.target n) (has_target items n) (marked_there items n later)
    ]

settled_whole : (a : AreaValue) (items : List ExitRow) (below : Bound) (left : ℕ) (roots : List Name) → AreMarkedFor a items (old_at a below) below roots → ((i : ℕ) (row : ExitRow) → slice_get items i ≡ Some row → row.marked ≡ true) → left ≡ length items → IsWhole a items below left roots
settled_whole a items below left roots m all is = record {
  kept = m.kept;
  most = omega (arith, is);
  led = λ n. through (names n) (m.led n);
}
  where
    every : take left (targets items) ≡ targets items
    every = take_all left (targets items) (omega (arith, is, length-map items (λ (r : ExitRow). r.target)))

    names : (n : Name) → (name_among n (take left (targets items)) ≡ true) ↔ (target_marked items n ≡ true)
    names n = (
      λ t. all_rows_marked items all n (sym (targets_named items n) ∙ ap (name_among n) (sym every) ∙ t),
      λ t. ap (name_among n) every ∙ targets_named items n ∙ marked_there items n t,
    )

pub settled_carried : (phase : CellPhase) (a : AreaValue) (items : List ExitRow) (c after : Carried) (left : ℕ) → IsCarried phase a items c → phase ≡ Marked → ((i : ℕ) (row : ExitRow) → slice_get items i ≡ Some row → row.marked ≡ true) →
    left ≡ length items → (c.swept ≡ true → after ≡ record c { whole = true; first = left }) → (c.swept ≡ false → after ≡ c) → IsCarried phase a items after
settled_carried Idle a items c after left was marked all is on off = absurd (cc)
settled_carried Begun a items c after left was marked all is on off = absurd (cc)
settled_carried Marked a items c after left was marked all is on off = by_swept c.swept refl
  where
    by_swept : (b : Bool) → c.swept ≡ b → IsCarried Marked a items after
    by_swept false e = subst (IsCarried Marked a items) (sym (off e)) was
    by_swept true e = subst (IsCarried Marked a items) (sym (on e)) (record { whole = λ t. settled_whole a items c.bound left c.roots.items (was.swept e) all is; swept = was.swept; noted = was.noted })

-- a collection ends
pub ended_carried : (phase : CellPhase) (a : AreaValue) (items : List ExitRow) (c : Carried) → IsCarried phase a items c → IsCarried Idle a items c
ended_carried phase a items c was = record { whole = was.whole; swept = λ t. tt; noted = λ t. tt }

-- a number written
module _ (a new : AreaValue) (at : Name) (field number : ℕ) (w : IsWrittenIn a new at field (Holds number)) (was : IsIntAt a.segments at field) where
  there_too : was.row ≡ w.row
  there_too = some_one (sym was.there ∙ w.there)

  int_there : slice_get w.row.fields field ≡ Some (Holds was.is.number)
  int_there = ap (λ (r : Row). slice_get r.fields field) (sym there_too) ∙ was.is.is

  fields_now : fields_at new at ≡ Some (slice_set w.row.fields field (Holds number))
  fields_now = ap (λ (x : AreaValue). fields_at x at) w.written ∙ ap (option_map (λ (row : Row). row.fields)) (after_same a at w.row (record w.row { fields = slice_set w.row.fields field (Holds number) }) (found a at w.row w.there))

  fields_were : fields_at a at ≡ Some w.row.fields
  fields_were = ap (option_map (λ (row : Row). row.fields)) w.there

  fields_else : (n : Name) → name_eq at n ≡ false → fields_at new n ≡ fields_at a n
  fields_else n differs =
      ap (λ (x : AreaValue). fields_at x n) w.written
      ∙ ap (option_map (λ (row : Row). row.fields)) (after_other a at w.row (record w.row { fields = slice_set w.row.fields field (Holds number) }) (found a at w.row w.there) n differs)

  lives_same : (n : Name) → lives_at new n ≡ lives_at a n
  lives_same n = by_name (name_eq at n) refl
    where
      by_name : (b : Bool) → name_eq at n ≡ b → lives_at new n ≡ lives_at a n
      by_name false e = ap is_some (fields_else n e)
      by_name true e = subst (λ (k : Name). lives_at new k ≡ lives_at a k) (name_eq-true at n e) (ap is_some fields_now ∙ sym (ap is_some fields_were))

  refers_same : (n m : Name) → refers_at new n m ≡ refers_at a n m
  refers_same n m = by_name (name_eq at n) refl
    where
      by_name : (b : Bool) → name_eq at n ≡ b → refers_at new n m ≡ refers_at a n m
      by_name false e = ap (λ o. some_lead_to o m) (fields_else n e)
      by_name true e =
          subst (λ (k : Name). refers_at new k m ≡ refers_at a k m) (name_eq-true at n e)
          (ap (λ o. some_lead_to o m) fields_now ∙ one_test (content_leads_to m) w.row.fields field (Holds was.is.number) (Holds number) int_there refl ∙ sym (ap (λ o. some_lead_to o m) fields_were))

pub number_carried : (phase : CellPhase) (a new : AreaValue) (items : List ExitRow) (c : Carried) (field : ℕ) (at : Name) (number : ℕ) → IsCarried phase a items c → phase ≡ Idle → IsWrittenIn a new at field (Holds number) → IsIntAt a.segments at field →
    IsCarried phase new items c
number_carried phase a new items c field at number was idle w int = idle_carried phase new items c idle (λ t.
    whole_same a new items items c.bound c.first c.roots.items (λ n low. lives_same a new at field number w int n) (λ n m low. refers_same a new at field number w int n m) (foreign_written a new at field (Holds number) w) (λ e. e) (λ e. refl) (was.whole t))

pub put_carried : (found : Option Content) (phase : CellPhase) (a new : AreaValue) (items : List ExitRow) (c : Carried) (field : ℕ) (at : Name) (number : ℕ) → IsCarried phase a items c → phase ≡ Idle →
    found ≡ slice_get (row_fields (row_of_name a.segments at)) field → IsWrittenIf (holds_int found) a new at field (Holds number) → IsCarried phase new items c
put_carried None phase a new items c field at number was idle is same = subst (λ (x : AreaValue). IsCarried phase x items c) (sym same) was
put_carried (Some (Refers target)) phase a new items c field at number was idle is same = subst (λ (x : AreaValue). IsCarried phase x items c) (sym same) was
put_carried (Some (Holds held)) phase a new items c field at number was idle is w =
    number_carried phase a new items c field at number was idle w
    (record { row = w.row; there = w.there; is = record { number = held; is = ap (λ o. slice_get (row_fields o) field) (sym w.there) ∙ sym is } })
