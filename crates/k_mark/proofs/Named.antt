-- The lists of names of an area and of exit items.
use Rattle.std.proofs.Common.{◌≡◌, ◌&&◌, ◌||◌, ℕ, zero, suc, ◌≤◌, Bool, true, false, cond, refl, sym, ap, ap₂, ◌∙◌, inl, inr, List, [], ◌∷◌, length, map, filter, get_or, Option, Some, None, is_some, option_map, arith}
use Rattle.std.proofs.lemmas.Bool.{cases_lt, or_parts}
use Rattle.k_laws.specs.k_types.declared.names.Name.{Name}
use Rattle.k_laws.specs.k_types.Names.{name_eq, name_among}
use Rattle.k_laws.specs.k_types.Numbers.{numbers_from}
use Rattle.k_laws.specs.k_types.State.{Object}
use Rattle.k_exit.proofs.Objects.{has-kept, names_have}
use Rattle.k_space.specs.Segments.{Row, SegmentValue, made, some_gray, some_black, unmarked_row as white_row}
use Rattle.k_space.specs.Areas.{AreaValue, segment_at, row_of_name, gray_at, black_at, unmarked}
use Rattle.k_laws.proofs.NameTests.{name_eq_refl}
use Rattle.k_exit.specs.Exits.{ExitRow, has_target, target_marked, targets, unmarked_row}
use Rattle.k_mark.specs.Shown.{area_objects, HasNoneFrom}
use Rattle.k_mark.specs.Lists.{made_list, names_where, gray_names, black_names, marked_targets}
use Rattle.k_mark.proofs.Foreign.{area_has}
use Rattle.k_mark.proofs.Looked.{row_unmarked}
use Rattle.k_laws.proofs.Lists.{at_number, mapped_length}

numbered_past : (f : ℕ → Option ℕ) (first n i : ℕ) → n ≤ i → get_or (map f (numbers_from first n)) i None ≡ None
numbered_past f first zero i past = refl
numbered_past f first (suc n) zero past = absurd (omega (arith, past))
numbered_past f first (suc n) (suc i) past = numbered_past f (suc first) n i (omega (arith, past))

pub made_listed : (segments : List SegmentValue) (bound number : ℕ) → HasNoneFrom segments bound → get_or (made_list bound segments) number None ≡ option_map made (segment_at segments number)
made_listed segments bound number none =
    elim (cases_lt number bound) [
      | inl within ↦ at_number (λ k. option_map made (segment_at segments k)) 0 bound number None within ∙ ap (λ k. option_map made (segment_at segments k)) (omega arith)
      | inr past ↦ numbered_past (λ k. option_map made (segment_at segments k)) 0 bound number past ∙ sym (ap (option_map made) (none number past))
    ]

pub made_length : (segments : List SegmentValue) (bound : ℕ) → length (made_list bound segments) ≡ bound
made_length segments bound = mapped_length (λ k. option_map made (segment_at segments k)) 0 bound

-- of those that pass a test which only what is there passes
named_where : (t : Name → Bool) (g : Option Row → Bool) (segments : List SegmentValue) (bound : ℕ) (n : Name) → t n ≡ g (row_of_name segments n) → g None ≡ false → HasNoneFrom segments bound →
    name_among n (names_where t bound segments) ≡ t n
named_where t g segments bound n is off none =
    names_have (filter (λ o. t o.name) (area_objects bound segments)) n
    ∙ has-kept t (area_objects bound segments) n
    ∙ ap₂ (λ a b. a && b) (area_has segments bound none n) is
    ∙ by_row (row_of_name segments n)
    ∙ sym is
  where
    by_row : (o : Option Row) → (is_some o && g o) ≡ g o
    by_row None = sym off
    by_row (Some row) = refl

pub gray_named : (a : AreaValue) (bound : ℕ) (n : Name) → HasNoneFrom a.segments bound → name_among n (gray_names bound a) ≡ gray_at a n
gray_named a bound n none = named_where (gray_at a) some_gray a.segments bound n refl refl none

pub black_named : (a : AreaValue) (bound : ℕ) (n : Name) → HasNoneFrom a.segments bound → name_among n (black_names bound a) ≡ black_at a n
black_named a bound n none = named_where (black_at a) some_black a.segments bound n refl refl none

-- a test that nothing passes
none_pass : (t : Name → Bool) (os : List Object) → ((n : Name) → t n ≡ false) → map (λ (o : Object). o.name) (filter (λ o. t o.name) os) ≡ []
none_pass t [] off = refl
none_pass t (o ∷ os) off = ap (λ b. map (λ (x : Object). x.name) (cond b (o ∷ filter (λ x. t x.name) os) (filter (λ x. t x.name) os))) (off o.name) ∙ none_pass t os off

pub gray_empty : (a : AreaValue) (bound : ℕ) → ((n : Name) → gray_at a n ≡ false) → gray_names bound a ≡ []
gray_empty a bound off = none_pass (gray_at a) (area_objects bound a.segments) off

pub black_empty : (a : AreaValue) (bound : ℕ) → ((n : Name) → black_at a n ≡ false) → black_names bound a ≡ []
black_empty a bound off = none_pass (black_at a) (area_objects bound a.segments) off

white_off : (g : Option Row → Bool) → ((o : Option Row) → g (white_row o) ≡ false) → (a : AreaValue) (n : Name) → g (row_of_name (unmarked a).segments n) ≡ false
white_off g off a n = ap g (row_unmarked a n) ∙ off (row_of_name a.segments n)

not_gray : (o : Option Row) → some_gray (white_row o) ≡ false
not_gray None = refl
not_gray (Some row) = refl

not_black : (o : Option Row) → some_black (white_row o) ≡ false
not_black None = refl
not_black (Some row) = refl

pub unmarked_gray_empty : (a : AreaValue) (bound : ℕ) → gray_names bound (unmarked a) ≡ []
unmarked_gray_empty a bound = gray_empty (unmarked a) bound (white_off some_gray not_gray a)

pub unmarked_black_empty : (a : AreaValue) (bound : ℕ) → black_names bound (unmarked a) ≡ []
unmarked_black_empty a bound = black_empty (unmarked a) bound (white_off some_black not_black a)

-- exit items
pub targets_named : (items : List ExitRow) (n : Name) → name_among n (targets items) ≡ has_target items n
targets_named [] n = refl
targets_named (e ∷ items) n = ap (λ b. name_eq e.target n || b) (targets_named items n)

pub marked_named : (items : List ExitRow) (n : Name) → name_among n (marked_targets items) ≡ target_marked items n
marked_named [] n = refl
marked_named (e ∷ items) n = by_mark (marked_named items n) e.marked
  where
    and_true : (b : Bool) → b ≡ (b && true)
    and_true true = refl
    and_true false = refl

    and_false : (b : Bool) → false ≡ (b && false)
    and_false true = refl
    and_false false = refl

    by_mark : name_among n (marked_targets items) ≡ target_marked items n → (b : Bool) → name_among n (targets (cond b (e ∷ filter (λ x. x.marked) items) (filter (λ x. x.marked) items))) ≡ ((name_eq e.target n && b) || target_marked items n)
    by_mark rest true = ap₂ (λ a b. a || b) (and_true (name_eq e.target n)) rest
    by_mark rest false = rest ∙ ap (λ a. a || target_marked items n) (and_false (name_eq e.target n))

pub exits_empty : (items : List ExitRow) → ((n : Name) → target_marked items n ≡ false) → marked_targets items ≡ []
exits_empty [] off = refl
exits_empty (e ∷ items) off =
    let own : e.marked ≡ false = ap (λ b. b && e.marked) (sym (name_eq_refl e.target)) ∙ (or_parts (name_eq e.target e.target && e.marked) (target_marked items e.target) (off e.target)).0 in
    ap (λ b. targets (cond b (e ∷ filter (λ x. x.marked) items) (filter (λ x. x.marked) items))) own
    ∙ exits_empty items (λ n. (or_parts (name_eq e.target n && e.marked) (target_marked items n) (off n)).1)

pub unmarked_exits_empty : (items : List ExitRow) → marked_targets (map unmarked_row items) ≡ []
unmarked_exits_empty [] = refl
unmarked_exits_empty (e ∷ items) = unmarked_exits_empty items
