-- That references stay inside one segment or have exit items, through all that a measurement does to it.
use Rattle.std.proofs.Common.{◌≡◌, ◌&&◌, ◌||◌, ◌⊎◌, not, ℕ, zero, suc, Bool, true, false, cond, refl, sym, ap, ap₂, subst, ◌∙◌, inl, inr, List, [], ◌∷◌, ◌++◌, map, set, get_or, slice_get, slice_set, Option, Some, None, is_some, option_map, IfSome}
use Rattle.std.proofs.lemmas.Bool.{false≢true, or_cases, or_left, or_right}
use Rattle.std.proofs.lemmas.List.Folds.{list_any-append}
use Rattle.std.proofs.Math.ListN.{get_or-map}
use Rattle.k_types.specs.declared.names.Name.{Name}
use Rattle.k_types.specs.declared.names.Link.{Link}
use Rattle.k_types.specs.declared.names.TypeId.{TypeId}
use Rattle.k_types.specs.declared.names.Field.{Field}
use Rattle.k_types.specs.declared.names.Field.TheVariants.{Ref, Int}
use Rattle.k_types.specs.Names.{name_eq, name_of}
use Rattle.k_types.specs.State.{Content, Refers, Holds, content_leads_to, field_kind, fresh}
use Rattle.k_types.specs.Types.{type_row}
use Rattle.k_space.specs.Objects.{BodyValue, HasRef, new_body}
use Rattle.k_space.specs.Segments.{SegmentValue, Row, LiesAt, Color, White, Gray, Black, row_at, with_row, placed, new_row, unmarked_row, unmarked_segment, is_marked, some_black, gray_or_black}
use Rattle.k_space.specs.Areas.{AreaValue, HasDistinct, place_of, segment_at, row_in_segment, row_of_name, fields_at, is_foreign, black_at, grayed, grayed_row, unmarked}
use Rattle.k_exit.specs.Exits.{ExitList, ExitRow, has_target, target_marked, with_target, unmarked_row as unmarked_exit}
use Rattle.k_mark.specs.Marking.{fields_lead_to, refers_at}
use Rattle.k_mark.specs.Sweeping.{survivor, swept, swept_segment}
use Rattle.k_space.proofs.AreaRows.{found, same_unmarked}
use Rattle.k_space.proofs.Numbers.{distinct_from, found_at}
use Rattle.k_types.proofs.Lists.{some_one}
use Rattle.k_types.proofs.NameTests.{name_eq-true, name_eq_refl}
use Rattle.k_mark.proofs.Looks.{test_after, black_gray}
use Rattle.k_mark.proofs.Marked.{refers_fields}
use Rattle.k_measure.specs.Inside.{LeadNowhere, LeadTo, AllLeadTo, IsInside, IsInsideOrExit, AreNew, KeepsInside, KeepsExits, IsOne, IsOneWith, HasNoBlack}
use Rattle.k_space.proofs.Segs.{unmarked_twice}
use Rattle.k_mark.proofs.Rows.{black_unmarked}

-- what stands in a list with one more element stood there, or is that element
at_pushed : (rows : List (Option Row)) (new row : Row) (i : ℕ) → get_or (rows ++ Some new ∷ []) i None ≡ Some row → (get_or rows i None ≡ Some row) ⊎ (new ≡ row)
at_pushed [] new row zero e = inr (cc)
at_pushed [] new row (suc i) e = absurd (cc)
at_pushed (r ∷ rows) new row zero e = inl e
at_pushed (r ∷ rows) new row (suc i) e = at_pushed rows new row i e

-- what stands in a list with another element in one place stood there, or is that element
at_set : (rows : List (Option Row)) (new row : Row) (i j : ℕ) → get_or (set rows i (Some new)) j None ≡ Some row → (get_or rows j None ≡ Some row) ⊎ (new ≡ row)
at_set [] new row i j e = inl e
at_set (r ∷ rows) new row zero zero e = inr (cc)
at_set (r ∷ rows) new row zero (suc j) e = inl e
at_set (r ∷ rows) new row (suc i) zero e = inl e
at_set (r ∷ rows) new row (suc i) (suc j) e = at_set rows new row i j e

field_set : (fields : List Content) (new content : Content) (i j : ℕ) → slice_get (set fields i new) j ≡ Some content → (slice_get fields j ≡ Some content) ⊎ (new ≡ content)
field_set [] new content i j e = inl e
field_set (c ∷ fields) new content zero zero e = inr (cc)
field_set (c ∷ fields) new content zero (suc j) e = inl e
field_set (c ∷ fields) new content (suc i) zero e = inl e
field_set (c ∷ fields) new content (suc i) (suc j) e = field_set fields new content i j e

-- new bodies refer to nothing
kinds_nowhere : (kinds : List Field) → LeadNowhere (map fresh kinds)
kinds_nowhere [] field n e = absurd (cc)
kinds_nowhere (Ref ∷ kinds) zero n e = absurd (cc)
kinds_nowhere (Int ∷ kinds) zero n e = absurd (cc)
kinds_nowhere (kind ∷ kinds) (suc field) n e = kinds_nowhere kinds field n e

pub body_nowhere : (types : List (List Field)) (ty : TypeId) → LeadNowhere (new_body types ty).fields
body_nowhere types ty = kinds_nowhere (type_row types ty)

body_pushed : (bodies : List BodyValue) (new b : BodyValue) (i : ℕ) → slice_get (bodies ++ new ∷ []) i ≡ Some b → (slice_get bodies i ≡ Some b) ⊎ (new ≡ b)
body_pushed [] new b zero e = inr (cc)
body_pushed [] new b (suc i) e = absurd (cc)
body_pushed (x ∷ bodies) new b zero e = inl e
body_pushed (x ∷ bodies) new b (suc i) e = body_pushed bodies new b i e

pub new_pushed : (bodies : List BodyValue) (new : BodyValue) → LeadNowhere new.fields → AreNew bodies → AreNew (bodies ++ new ∷ [])
new_pushed bodies new nowhere are i b at field n e =
    elim (body_pushed bodies new b i at) [
      | inl old ↦ are i b old field n e
      | inr same ↦ nowhere field n (ap (λ (x : BodyValue). slice_get x.fields field) same ∙ e)
    ]

pub placed_inside : (s : SegmentValue) (slot : ℕ) (body : BodyValue) → LeadNowhere body.fields → KeepsInside s → KeepsInside (placed s slot body)
placed_inside s slot body nowhere inside serial row at field n e =
    elim (at_pushed s.rows (new_row slot body) row serial at) [
      | inl old ↦ inside serial row old field n e
      | inr new ↦ absurd (nowhere field n (ap (λ (r : Row). slice_get r.fields field) new ∙ e))
    ]

pub written_to : (Is : Name → Type 0) (s : SegmentValue) (serial : ℕ) (row : Row) (field : ℕ) (target : Option Name) → row_at s serial ≡ Some row → ((n : Name) → target ≡ Some n → Is n) → AllLeadTo Is s →
    AllLeadTo Is (with_row s serial (Some (record row { fields = slice_set row.fields field (Refers target) })))
written_to Is s serial row field target at leads inside j now there k n e =
    elim (at_set s.rows (record row { fields = slice_set row.fields field (Refers target) }) now serial j there) [
      | inl old ↦ inside j now old k n e
      | inr new ↦
          elim (field_set row.fields (Refers target) (Refers (Some n)) field k (ap (λ (r : Row). slice_get r.fields k) new ∙ e)) [
            | inl old ↦ inside serial row at k n old
            | inr same ↦ leads n (same_target same)
          ]
    ]
  where
    same_target : Refers target ≡ Refers (Some n) → target ≡ Some n
    same_target same = cc

-- where a search by serial finds a slot, the object lies there
pub found_lies : (s : SegmentValue) (serial slot : ℕ) → Some slot ≡ option_map (λ (row : Row). row.slot) (row_at s serial) → (row : Row) × LiesAt s slot serial row
found_lies s serial slot e = by_row (row_at s serial) refl e
  where
    by_row : (o : Option Row) → row_at s serial ≡ o → Some slot ≡ option_map (λ (row : Row). row.slot) o → (row : Row) × LiesAt s slot serial row
    by_row None is e = absurd (cc)
    by_row (Some row) is e = (row, record { there = is; slot_is = cc })

-- a field of that kind holds a reference
pub ref_there : (fields : List Content) (field : ℕ) → Some Ref ≡ option_map field_kind (slice_get fields field) → HasRef fields field
ref_there fields field e = by_content (slice_get fields field) refl e
  where
    by_content : (o : Option Content) → slice_get fields field ≡ o → Some Ref ≡ option_map field_kind o → HasRef fields field
    by_content None is e = absurd (cc)
    by_content (Some (Refers target)) is e = record { target = target; is = is }
    by_content (Some (Holds number)) is e = absurd (cc)

-- the name for which a reference stands lies in its segment
pub target_into : (target : Option Link) (number : ℕ) → IfSome target (λ link. link.seg.0 ≡ number) → (n : Name) → option_map name_of target ≡ Some n → n.seg.0 ≡ number
target_into None number into n e = absurd (cc)
target_into (Some link) number into n e = ap seg_or (sym e) ∙ into
  where
    seg_or : Option Name → ℕ
    seg_or None = 0
    seg_or (Some m) = m.seg.0

-- what fields lead to is what one of them refers to
pub lead_to : (Is : Name → Type 0) (fields : List Content) → LeadTo Is fields → (n : Name) → fields_lead_to fields n ≡ true → Is n
lead_to Is [] leads n e = absurd (false≢true e)
lead_to Is (c ∷ fields) leads n e =
    elim (or_cases (content_leads_to n c) (fields_lead_to fields n) e) [
      | inl here ↦ first c (leads zero) here
      | inr later ↦ lead_to Is fields (λ field m at. leads (suc field) m at) n later
    ]
  where
    first : (x : Content) → ((m : Name) → ◌≡◌ {A = Option Content} (Some x) (Some (Refers (Some m))) → Is m) → content_leads_to n x ≡ true → Is n
    first (Refers None) is here = absurd (false≢true here)
    first (Refers (Some m)) is here = subst Is (name_eq-true m n here) (is m refl)
    first (Holds number) is here = absurd (false≢true here)

-- a list of one has no other
single : (s t : SegmentValue) (i : ℕ) → slice_get (s ∷ []) i ≡ Some t → t ≡ s
single s t zero e = cc
single s t (suc i) e = absurd (cc)

pub single_distinct : (s : SegmentValue) → HasDistinct (s ∷ [])
single_distinct s = distinct_from (s ∷ []) same
  where
    same : (i j : ℕ) (x y : SegmentValue) → slice_get (s ∷ []) i ≡ Some x → slice_get (s ∷ []) j ≡ Some y → x.number ≡ y.number → i ≡ j
    same zero zero x y a b n = refl
    same zero (suc j) x y a b n = absurd (cc)
    same (suc i) j x y a b n = absurd (cc)

-- a segment that an area of one segment finds is that one
single_found : (a : AreaValue) (s : SegmentValue) → a.segments ≡ s ∷ [] → (number : ℕ) (t : SegmentValue) → segment_at a.segments number ≡ Some t → t ≡ s
single_found a s only number t e =
    single s t (place_of a.segments number) (ap (λ (xs : List SegmentValue). slice_get xs (place_of a.segments number)) (sym only) ∙ e)

pub one_found : (a : AreaValue) (one : IsOne a) (number : ℕ) (t : SegmentValue) → segment_at a.segments number ≡ Some t → t ≡ one.segment
one_found a one number t e = single_found a one.segment one.only number t e

-- its number is there once
pub only_distinct : (a : AreaValue) (s : SegmentValue) → a.segments ≡ s ∷ [] → HasDistinct a.segments
only_distinct a s only = subst (λ (xs : List SegmentValue). HasDistinct xs) (sym only) (single_distinct s)

pub same_fields : (x y : List Content) → ◌≡◌ {A = Option (List Content)} (Some x) (Some y) → x ≡ y
same_fields x y e = cc

-- what the object holds, if there is one
abbrev fields_or_none : Option Row → List Content
fields_or_none None = []
fields_or_none (Some row) = row.fields

-- what the fields of an object of the area lead to
module _ (Is : Name → Type 0) (a : AreaValue) (s : SegmentValue) (only : a.segments ≡ s ∷ []) (all : AllLeadTo Is s) where
  fields_lead : (m : Name) (fields : List Content) → fields_at a m ≡ Some fields → LeadTo Is fields
  fields_lead m fields e = by_row (row_of_name a.segments m) refl e
    where
      by_row : (o : Option Row) → row_of_name a.segments m ≡ o → option_map (λ (r : Row). r.fields) o ≡ Some fields → LeadTo Is fields
      by_row None is e = absurd (cc)
      by_row (Some row) is e =
          let f = found a m row is in
          let at : row_at s m.serial.0 ≡ Some row = ap (λ (x : SegmentValue). row_at x m.serial.0) (sym (single_found a s only m.seg.0 f.space f.at)) ∙ f.there in
          subst (λ (fs : List Content). LeadTo Is fs) (same_fields row.fields fields e) (all m.serial.0 row at)

  leads_there : (m n : Name) → refers_at a m n ≡ true → Is n
  leads_there m n e = let r = refers_fields a m n e in lead_to Is r.0 (fields_lead m r.0 r.1) n r.2

-- an object of its number is not foreign
own_here : (a : AreaValue) (s : SegmentValue) → a.segments ≡ s ∷ [] → (n : Name) → IsInside s.number n → is_foreign a n ≡ false
own_here a s only n number =
    let here : segment_at a.segments n.seg.0 ≡ Some s =
    ap (λ (xs : List SegmentValue). segment_at xs n.seg.0) only ∙ ap (segment_at (s ∷ [])) number ∙ found_at (s ∷ []) (single_distinct s) zero s refl in
    ap (λ (o : Option SegmentValue). not (is_some o)) here

pub exits_there : (a : AreaValue) (exits : List ExitRow) → IsOne a → (m n : Name) → refers_at a m n ≡ true → is_foreign a n ≡ true → has_target exits n ≡ true
exits_there a exits one m n refers far =
    absurd (false≢true (sym (own_here a one.segment one.only n (leads_there (IsInside one.segment.number) a one.segment one.only one.inside m n refers)) ∙ far))

pub exits_kept : (a : AreaValue) (exits : List ExitRow) → IsOneWith exits a → (m n : Name) → refers_at a m n ≡ true → is_foreign a n ≡ true → has_target exits n ≡ true
exits_kept a exits one m n refers far =
    elim (leads_there (IsInsideOrExit one.segment.number exits) a one.segment one.only one.kept m n refers) [
      | inl inside ↦ absurd (false≢true (sym (own_here a one.segment one.only n inside) ∙ far))
      | inr there ↦ there
    ]

-- the same objects, with any marks
unmarked_fields : (s t : SegmentValue) (serial : ℕ) (row : Row) → map unmarked_row t.rows ≡ map unmarked_row s.rows → row_at t serial ≡ Some row → (was : Row) × (row_at s serial ≡ Some was) × (was.fields ≡ row.fields)
unmarked_fields s t serial row same at =
    by_row (row_at s serial) refl (sym (get_or-map unmarked_row s.rows serial None) ∙ ap (λ (rows : List (Option Row)). get_or rows serial None) (sym same) ∙ get_or-map unmarked_row t.rows serial None ∙ ap unmarked_row at)
  where
    by_row : (o : Option Row) → row_at s serial ≡ o → unmarked_row o ≡ Some (record row { color = White }) → (was : Row) × (row_at s serial ≡ Some was) × (was.fields ≡ row.fields)
    by_row None is e = absurd (cc)
    by_row (Some was) is e = (was, is, ap fields_or_none e)

unmarked_to : (Is : Name → Type 0) (s t : SegmentValue) → unmarked_segment t ≡ unmarked_segment s → AllLeadTo Is s → AllLeadTo Is t
unmarked_to Is s t same inside serial row at field n e =
    let was = unmarked_fields s t serial row (ap (λ (x : SegmentValue). x.rows) same) at in
    inside serial was.0 was.1 field n (ap (λ (fs : List Content). slice_get fs field) was.2 ∙ e)

pub unmarked_inside : (s t : SegmentValue) → unmarked_segment t ≡ unmarked_segment s → KeepsInside s → KeepsInside t
unmarked_inside s t same inside =
    subst (λ (k : ℕ). AllLeadTo (IsInside k) t) (ap (λ (x : SegmentValue). x.number) (sym same)) (unmarked_to (IsInside s.number) s t same inside)

unmarked_kept : (exits : List ExitRow) (s t : SegmentValue) → unmarked_segment t ≡ unmarked_segment s → KeepsExits exits s → KeepsExits exits t
unmarked_kept exits s t same kept =
    subst (λ (k : ℕ). AllLeadTo (IsInsideOrExit k exits) t) (ap (λ (x : SegmentValue). x.number) (sym same)) (unmarked_to (IsInsideOrExit s.number exits) s t same kept)

-- the one element of a list whose image is a list of one
single_of : (f : SegmentValue → SegmentValue) (xs : List SegmentValue) (y : SegmentValue) → map f xs ≡ y ∷ [] → (x : SegmentValue) × (xs ≡ x ∷ []) × (f x ≡ y)
single_of f [] y e = absurd (cc)
single_of f (x ∷ []) y e = (x, refl, cc)
single_of f (x ∷ z ∷ xs) y e = absurd (cc)

-- an area of one segment, with any marks
only_same : (a b : AreaValue) (s : SegmentValue) → unmarked b ≡ unmarked a → a.segments ≡ s ∷ [] → (x : SegmentValue) × (b.segments ≡ x ∷ []) × (unmarked_segment x ≡ unmarked_segment s)
only_same a b s same only =
    single_of unmarked_segment b.segments (unmarked_segment s)
    (ap (λ (x : AreaValue). x.segments) same ∙ ap (λ (xs : List SegmentValue). map unmarked_segment xs) only)

pub one_same : (a b : AreaValue) → unmarked b ≡ unmarked a → IsOne a → IsOne b
one_same a b same one =
    let s = only_same a b one.segment same one.only in
    record { segment = s.0; only = s.1; inside = unmarked_inside one.segment s.0 s.2 one.inside }

pub with_same : (exits : List ExitRow) (a b : AreaValue) → unmarked b ≡ unmarked a → IsOneWith exits a → IsOneWith exits b
with_same exits a b same one =
    let s = only_same a b one.segment same one.only in
    record { segment = s.0; only = s.1; kept = unmarked_kept exits one.segment s.0 s.2 one.kept }

pub one_unmarked : (a : AreaValue) → IsOne a → IsOne (unmarked a)
one_unmarked a one = one_same a (unmarked a) (unmarked_twice a) one

pub grayed_by : (a : AreaValue) (n : Name) (o : Option Row) → row_of_name a.segments n ≡ o → unmarked (grayed_row a n o) ≡ unmarked a
grayed_by a n None e = refl
grayed_by a n (Some row) e = same_unmarked a n row (gray_or_black row.color) e

black_by : (a : AreaValue) (n : Name) (o : Option Row) → row_of_name a.segments n ≡ o → (m : Name) → black_at (grayed_row a n o) m ≡ black_at a m
black_by a n None e m = refl
black_by a n (Some row) e m =
    elim (test_after some_black a n row (gray_or_black row.color) e m) [
      | inl t ↦ t.1 ∙ black_gray row.color ∙ sym t.2
      | inr t ↦ t.1
    ]

pub clean_grayed : (a : AreaValue) (n : Name) → HasNoBlack a → HasNoBlack (grayed a n)
clean_grayed a n clean m = black_by a n (row_of_name a.segments n) refl m ∙ clean m

found_unmarked : (xs : List SegmentValue) (i serial : ℕ) → some_black (row_in_segment (slice_get (map unmarked_segment xs) i) serial) ≡ false
found_unmarked [] i serial = refl
found_unmarked (x ∷ xs) zero serial = ap some_black (get_or-map unmarked_row x.rows serial None) ∙ black_unmarked (row_at x serial)
found_unmarked (x ∷ xs) (suc i) serial = found_unmarked xs i serial

pub clean_unmarked : (a : AreaValue) → HasNoBlack (unmarked a)
clean_unmarked a n = found_unmarked a.segments (place_of (map unmarked_segment a.segments) n.seg.0) n.serial.0

-- and with more exit items all are kept
pub kept_with : (old new : List ExitRow) (s : SegmentValue) → ((n : Name) → has_target old n ≡ true → has_target new n ≡ true) → KeepsExits old s → KeepsExits new s
kept_with old new s more kept serial row at field n e = elim (kept serial row at field n e) [ inl inside ↦ inl inside | inr there ↦ inr (more n there) ]

target_unmarked : (items : List ExitRow) (t : Name) → has_target (map unmarked_exit items) t ≡ has_target items t
target_unmarked [] t = refl
target_unmarked (e ∷ items) t = ap (λ b. name_eq e.target t || b) (target_unmarked items t)

pub kept_unmarked : (items : List ExitRow) (a : AreaValue) → IsOneWith items a → IsOneWith (map unmarked_exit items) a
kept_unmarked items a one = record {
  segment = one.segment;
  only = one.only;
  kept = kept_with items (map unmarked_exit items) one.segment (λ n there. target_unmarked items n ∙ there) one.kept;
}

-- a target that is added is there, and so are those that were
pub targets_more : (e : ExitList) (t n : Name) → has_target e.items n ≡ true → has_target (with_target e t).items n ≡ true
targets_more e t n there = by_test (has_target e.items t)
  where
    by_test : (b : Bool) → has_target (cond b e (record e { items = e.items ++ record { target = t; marked = false } ∷ [] })).items n ≡ true
    by_test true = there
    by_test false = list_any-append (λ (x : ExitRow). name_eq x.target n) e.items (record { target = t; marked = false } ∷ []) ∙ or_left _ _ there

pub target_added : (e : ExitList) (t : Name) → has_target (with_target e t).items t ≡ true
target_added e t = by_test (has_target e.items t) refl
  where
    by_test : (b : Bool) → has_target e.items t ≡ b → has_target (cond b e (record e { items = e.items ++ record { target = t; marked = false } ∷ [] })).items t ≡ true
    by_test true is = is
    by_test false is =
        list_any-append (λ (x : ExitRow). name_eq x.target t) e.items (record { target = t; marked = false } ∷ [])
        ∙ or_right (has_target e.items t) _ (or_left _ _ (name_eq_refl t))

-- a segment keeps to its exit items where one is added, also where a field then refers to its target
pub kept_added : (old new : ExitList) (s : SegmentValue) (t : Name) → new ≡ with_target old t → KeepsExits old.items s → KeepsExits new.items s
kept_added old new s t added kept =
    subst (λ (e : ExitList). KeepsExits e.items s) (sym added) (kept_with old.items (with_target old t).items s (targets_more old t) kept)

pub kept_referred : (old new : ExitList) (s : SegmentValue) (t : Name) (serial : ℕ) (row : Row) (field : ℕ) → new ≡ with_target old t → row_at s serial ≡ Some row → KeepsExits old.items s →
    KeepsExits new.items (with_row s serial (Some (record row { fields = slice_set row.fields field (Refers (Some t)) })))
kept_referred old new s t serial row field added at kept =
    written_to (IsInsideOrExit s.number new.items) s serial row field (Some t) at
    (λ n is. inr (ap (has_target new.items) (sym (some_one is)) ∙ ap (λ (e : ExitList). has_target e.items t) added ∙ target_added old t))
    (kept_added old new s t added kept)

-- no exit item is marked
pub exits_unmarked : (items : List ExitRow) (t : Name) → target_marked (map unmarked_exit items) t ≡ false
exits_unmarked [] t = refl
exits_unmarked (e ∷ items) t = or_false (and_false (name_eq e.target t)) (exits_unmarked items t)
  where
    and_false : (b : Bool) → (b && false) ≡ false
    and_false true = refl
    and_false false = refl

    or_false : {x y : Bool} → x ≡ false → y ≡ false → (x || y) ≡ false
    or_false e f = ap₂ (λ a b. a || b) e f

-- what survives a sweep
survivor_row : (o : Option Row) (row : Row) → survivor o ≡ Some row → o ≡ Some row
survivor_row None row e = absurd (cc)
survivor_row (Some was) row e = by_color was.color refl
  where
    by_color : (c : Color) → was.color ≡ c → Some was ≡ Some row
    by_color White is = absurd (none (ap (λ b. cond b (Some was) None) (ap is_marked is)) e)
      where
        none : survivor (Some was) ≡ None → survivor (Some was) ≡ Some row → ⊥
        none a b = cc
    by_color Gray is = sym (ap (λ b. cond b (Some was) None) (ap is_marked is)) ∙ e
    by_color Black is = sym (ap (λ b. cond b (Some was) None) (ap is_marked is)) ∙ e

swept_inside : (s : SegmentValue) → KeepsInside s → KeepsInside (swept_segment s)
swept_inside s inside serial row at = inside serial row (survivor_row (row_at s serial) row (sym (get_or-map survivor s.rows serial None) ∙ at))

pub one_swept : (a : AreaValue) → IsOne a → IsOne (swept a)
one_swept a one = record {
  segment = swept_segment one.segment;
  only = ap (λ (xs : List SegmentValue). map swept_segment xs) one.only;
  inside = swept_inside one.segment one.inside;
}
