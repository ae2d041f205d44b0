-- Marks beside the objects, and lists of them beside the segments.
use Rattle.std.proofs.Common.{◌≡◌, ℕ, zero, suc, ◌+◌, ◌<◌, ◌&&◌, ◌||◌, not, cond, Bool, true, false, refl, sym, ap, ap₂, ◌∙◌, inl, inr, List, [], ◌∷◌, ◌++◌, map, Option, replicate, length, get_or, set, count_by, arith}
use Rattle.std.proofs.lemmas.Bool.{and_parts, and_from, or_left, or_right, or_cases, false≢true, cases_Bool, cases_lt}
use Rattle.std.proofs.lemmas.List.{get_or-map, get_or_past, length-replicate, map-append}
use Rattle.std.proofs.lemmas.List.Sums.{sum_by-set}
use Rattle.k_types.specs.declared.names.Name.{Name}
use Rattle.k_types.specs.Names.{name_eq, name_lt}
use Rattle.k_types.specs.State.{Object, State, has}
use Rattle.k_types.specs.Sound.{IsOrdered, IsOrderedFrom}
use Rattle.k_types.proofs.NameTests.{name_eq-true, name_eq_refl, name_lt_irrefl}
use Rattle.k_types.specs.Numbers.{numbers_below}
use Rattle.k_types.specs.Trace.{Trace, segment_count}
use Rattle.k_types.specs.declared.names.Heap.{Heap}
use Rattle.k_types.proofs.Lists.{at_number, numbers_push}
use Rattle.k_state.specs.Segments.{objects_in}
use Rattle.k_state.proofs.Split.{has_in, in_parts, ordered_in}
use Rattle.k_scan.specs.Marks.{AreMarks, covers, is_marked, is_marked_in, lengths, sizes_of}
use Rattle.k_types.proofs.Ordered.{ordered_tail, ordered_later}

set_first : (a b m : Bool) → ((a && true) || m) ≡ (((a && b) || m) || a)
set_first true b m = grind arith
set_first false b m = grind arith

set_later : (a b m s e : Bool) → s ≡ (m || e) → ((a && b) || s) ≡ (((a && b) || m) || e)
set_later a b m s e ih = grind (arith, ih)

-- one more mark
pub marked-set : (xs : List Object) (marks : List Bool) (k : ℕ) (d : Object) → k < length xs → k < length marks →
    (n : Name) → is_marked_in xs (set marks k true) n ≡ (is_marked_in xs marks n || name_eq (get_or xs k d).name n)
marked-set [] marks k d inside there n = absurd (omega arith)
marked-set (x ∷ xs) [] k d inside there n = absurd (omega arith)
marked-set (x ∷ xs) (b ∷ marks) zero d inside there n = set_first (name_eq x.name n) b (is_marked_in xs marks n)
marked-set (x ∷ xs) (b ∷ marks) (suc k) d inside there n =
    set_later (name_eq x.name n) b (is_marked_in xs marks n) _ (name_eq (get_or xs k d).name n) (marked-set xs marks k d (omega arith) (omega arith) n)

-- the object at a marked place is marked
pub marked_at : (xs : List Object) (marks : List Bool) (k : ℕ) (d : Object) (n : Name) → k < length xs → get_or marks k false ≡ true → name_eq (get_or xs k d).name n ≡ true → is_marked_in xs marks n ≡ true
marked_at [] marks k d n inside t e = absurd (omega arith)
marked_at (x ∷ xs) [] k d n inside t e = absurd (false≢true t)
marked_at (x ∷ xs) (b ∷ marks) zero d n inside t e = or_left _ _ (and_from _ _ e t)
marked_at (x ∷ xs) (b ∷ marks) (suc k) d n inside t e = or_right _ _ (marked_at xs marks k d n (omega arith) t e)

-- what is marked is there
pub marked_has : (xs : List Object) (marks : List Bool) (n : Name) → is_marked_in xs marks n ≡ true → has xs n ≡ true
marked_has [] marks n t = t
marked_has (x ∷ xs) [] n t = absurd (false≢true t)
marked_has (x ∷ xs) (b ∷ marks) n t =
    elim (or_cases (name_eq x.name n && b) (is_marked_in xs marks n) t) [
      | inl here ↦ or_left _ _ (and_parts (name_eq x.name n) b here).0
      | inr there ↦ or_right (name_eq x.name n) _ (marked_has xs marks n there)
    ]

-- nothing is marked at first
pub none_marked : (xs : List Object) (k : ℕ) (n : Name) → is_marked_in xs (replicate k false) n ≡ false
none_marked [] k n = refl
none_marked (x ∷ xs) zero n = refl
none_marked (x ∷ xs) (suc k) n = grind (arith, none_marked xs k n)

-- the first object's name is that of no ordered_later one
apart : (x : Object) (xs : List Object) (marks : List Bool) → IsOrderedFrom x.name xs → is_marked_in xs marks x.name ≡ false
apart x xs marks ordered =
    elim (cases_Bool (is_marked_in xs marks x.name)) [
      | inl t ↦ absurd (name_lt_irrefl x.name (ordered_later x.name xs x.name ordered (marked_has xs marks x.name t)))
      | inr f ↦ f
    ]

first_mark : (a b m : Bool) → a ≡ true → m ≡ false → b ≡ ((a && b) || m)
first_mark a b m t f = grind arith

-- the marks of objects in order are what is said of their names
pub marks_are : (xs : List Object) (marks : List Bool) (f : Name → Bool) → IsOrdered xs → length marks ≡ length xs →
    ((n : Name) → has xs n ≡ true → is_marked_in xs marks n ≡ f n) → marks ≡ map (λ o. f o.name) xs
marks_are [] [] f ordered size each = refl
marks_are [] (b ∷ marks) f ordered size each = absurd (omega arith)
marks_are (x ∷ xs) [] f ordered size each = absurd (omega arith)
marks_are (x ∷ xs) (b ∷ marks) f ordered size each =
    ap₂ (λ c ms. c ∷ ms)
    (first_mark (name_eq x.name x.name) b (is_marked_in xs marks x.name) (name_eq_refl x.name) (apart x xs marks ordered)
    ∙ each x.name (or_left _ _ (name_eq_refl x.name)))
    (marks_are xs marks f (ordered_tail x.name xs ordered) (omega arith)
    (λ n there.
    sym (elim (name_eq x.name n) as (λ e. name_eq x.name n ≡ e → ((e && b) || is_marked_in xs marks n) ≡ is_marked_in xs marks n) [
      | true ↦ λ e. absurd (name_lt_irrefl x.name (ap (name_lt x.name) (name_eq-true x.name n e) ∙ ordered_later x.name xs n ordered there))
      | false ↦ λ e. refl
    ] refl)
    ∙ each n (or_right (name_eq x.name n) _ there)))

-- one mark more, one unmarked less
pub left-set : (marks : List Bool) (k : ℕ) → k < length marks → get_or marks k false ≡ false → count_by not (set marks k true) + 1 ≡ count_by not marks
left-set marks k inside f =
    let free : Bool → ℕ = λ b. cond (not b) 1 0 in
    let one : free (get_or marks k false) ≡ 1 = ap free f in
    omega (arith, sum_by-set free marks k true false inside, one)

-- a mark is what is said of its element
pub mark_is : {A : Type 0} (f : A → Bool) (xs : List A) (marks : List Bool) (i : ℕ) (x : A) → marks ≡ map f xs → i < length xs → x ≡ get_or xs i x → get_or marks i false ≡ f x
mark_is f xs marks i x are inside is = ap (λ ms. get_or ms i false) are ∙ get_or-map f xs i x false inside ∙ ap f (sym is)

-- how many marks a segment has
pub length_at : (marks : List (List Bool)) (seg : ℕ) → get_or (lengths marks) seg 0 ≡ length (get_or marks seg [])
length_at [] seg = refl
length_at (list ∷ marks) zero = refl
length_at (list ∷ marks) (suc seg) = length_at marks seg

-- lists of marks of which none is set
abbrev pub blank : Trace → State → Option Heap → ℕ → List Bool
blank trace st heap seg = replicate (cond (covers trace st heap seg) (length (objects_in st.objects seg)) 0) false

module _ (trace : Trace) (st : State) (heap : Option Heap) where
  blank_lengths : (ns : List ℕ) → lengths (map (blank trace st heap) ns) ≡ map (λ seg. cond (covers trace st heap seg) (length (objects_in st.objects seg)) 0) ns
  blank_lengths [] = refl
  blank_lengths (n ∷ ns) =
      ap₂ (λ k ks. k ∷ ks) (length-replicate {A = Bool} (cond (covers trace st heap n) (length (objects_in st.objects n)) 0) false) (blank_lengths ns)

  pub blank_sizes : lengths (map (blank trace st heap) (numbers_below (segment_count trace))) ≡ sizes_of trace st heap
  unfolding sizes_of
  blank_sizes = blank_lengths (numbers_below (segment_count trace))

  pub blank_clear : (ns : List ℕ) (xs : List Object) (k : ℕ) (n : Name) → is_marked_in xs (get_or (map (blank trace st heap) ns) k []) n ≡ false
  blank_clear [] xs k n = none_marked xs 0 n
  blank_clear (m ∷ ns) xs zero n = none_marked xs (cond (covers trace st heap m) (length (objects_in st.objects m)) 0) n
  blank_clear (m ∷ ns) xs (suc k) n = blank_clear ns xs k n

  pub blank_next : (k : ℕ) → map (blank trace st heap) (numbers_below (k + 1)) ≡ map (blank trace st heap) (numbers_below k) ++ blank trace st heap k ∷ []
  blank_next k =
      let one : k + 1 ≡ suc k = omega arith in
      let at : 0 + k ≡ k = omega arith in
      ap (λ n. map (blank trace st heap) (numbers_below n)) one
      ∙ ap (map (blank trace st heap)) (numbers_push 0 k)
      ∙ map-append (blank trace st heap) (numbers_below k) ((0 + k) ∷ [])
      ∙ ap (λ n. map (blank trace st heap) (numbers_below k) ++ blank trace st heap n ∷ []) at

  -- a segment of those that have marks has one for each of its objects
  pub sized_at : (marks : List (List Bool)) (seg : ℕ) → lengths marks ≡ sizes_of trace st heap → covers trace st heap seg ≡ true → seg < segment_count trace →
      get_or (lengths marks) seg 0 ≡ length (objects_in st.objects seg)
  unfolding sizes_of
  sized_at marks seg sized covered low =
      let size : ℕ → ℕ = λ s. cond (covers trace st heap s) (length (objects_in st.objects s)) 0 in
      let at : 0 + seg ≡ seg = omega arith in
      ap (λ ks. get_or ks seg 0) sized
      ∙ at_number size 0 (segment_count trace) seg 0 low
      ∙ ap size at
      ∙ ap (λ b. cond b (length (objects_in st.objects seg)) 0) covered

  -- the marks of those segments are what is said of the names of their objects
  pub lists_are : (marks : List (List Bool)) (test : Name → Bool) → IsOrdered st.objects → lengths marks ≡ sizes_of trace st heap →
      ((n : Name) → covers trace st heap n.seg.0 ≡ true → has st.objects n ≡ true → is_marked st.objects marks n ≡ test n) → AreMarks trace st heap marks test
  lists_are marks test ordered sized each = λ seg low covered.
      marks_are (objects_in st.objects seg) (get_or marks seg []) test (ordered_in st.objects seg ordered) (sym (length_at marks seg) ∙ sized_at marks seg sized covered low)
      (λ n there.
      let parts = in_parts st.objects seg n there in
      ap (λ s. is_marked_in (objects_in st.objects s) (get_or marks s []) n) (sym parts.1)
      ∙ each n (ap (covers trace st heap) parts.1 ∙ covered) parts.0)

-- a list that has marks is one of the lists
pub list_there : (marks : List (List Bool)) (seg k : ℕ) → k < length (get_or marks seg []) → seg < length marks
list_there marks seg k inside =
    elim (cases_lt seg (length marks)) [
      | inl there ↦ there
      | inr past ↦
          let none : length (get_or marks seg []) ≡ 0 = ap (λ (list : List Bool). length list) (get_or_past marks seg [] past) in
          absurd (omega (arith, none, inside))
    ]

-- what is marked is there
pub marks_has : (xs : List Object) (marks : List (List Bool)) (n : Name) → is_marked xs marks n ≡ true → has xs n ≡ true
marks_has xs marks n t = sym (has_in xs n) ∙ marked_has (objects_in xs n.seg.0) (get_or marks n.seg.0 []) n t
