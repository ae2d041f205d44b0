-- Objects in the lists of their segments.
use Rattle.std.proofs.Common.{◌≡◌, ◌≢◌, ℕ, zero, suc, ◌+◌, ◌<◌, ◌≤◌, ◌==◌, ◌&&◌, ◌||◌, not, cond, Bool, true, false, refl, ap, ap₂, sym, ◌∙◌, inl, inr, subst, List, [], ◌∷◌, ◌++◌, length, map, filter, replicate, get_or, get_or-set_other, get_or-set_same, set, append_assoc, arith, eq-eqb, ne_eqb, Option, Some, None}
use Rattle.std.specs.Prelude.{IfSome, IsTrue}
use Rattle.std.specs.List.{AllByRecursion}
use Rattle.std.proofs.lemmas.Bool.{and_parts, cases_lt, eqb-true, false≢true, or_cases, or_right}
use Rattle.std.proofs.lemmas.List.{append-nil, get_or_past, get_or_read, length-replicate, map-append}
use Rattle.std.proofs.lemmas.List.Elements.{filter-append}
use Rattle.std.proofs.lemmas.List.Folds.{list_any_at}
use Rattle.k_types.specs.declared.names.Name.{Name}
use Rattle.k_types.specs.Names.{name_eq, name_lt}
use Rattle.k_types.specs.Sound.{AreNumbered, IsOrdered}
use Rattle.k_types.specs.State.{Content, Object, has, object_at}
use Rattle.k_types.specs.Trace.{Trace, segment_count}
use Rattle.k_types.specs.Updates.{object_after_write, with_object}
use Rattle.k_laws.proofs.NameTests.{by_segment_lt, by_serial_lt, name_eq-false, name_eq-true, name_eq_refl, name_lt_asym}
use Rattle.k_laws.proofs.Objects.{has-kept, object_at-kept, written_name}
use Rattle.k_laws.proofs.Ordered.{ordered_later, ordered_tail}
use Rattle.k_state.specs.Machines.{IsDeclared}
use Rattle.k_state.specs.Marks.{marked}
use Rattle.k_state.specs.Places.{IsNamedAt}
use Rattle.k_state.specs.Segments.{AreFrom, AreIn, AreOf, joined, objects_in}
use Rattle.k_state.proofs.Marked.{all_marked, marked_filter, marked_passing}
use Rattle.k_state.proofs.Placed.{ordered_marked, written_none, written_once}

-- what holds of two lists holds of them one after the other
pub all_append : (P : Object → Type 0) (xs ys : List Object) → AllByRecursion P xs → AllByRecursion P ys → AllByRecursion P (xs ++ ys)
all_append P [] ys first then = then
all_append P (x ∷ xs) ys first then = (first.0, all_append P xs ys first.1 then)

in_from : (s : ℕ) (xs : List Object) → AreIn s xs → AreFrom s xs
in_from s [] all = tt
in_from s (x ∷ xs) all = (let is = all.0 in omega (arith, is), in_from s xs all.1)

from_less : (s k : ℕ) (xs : List Object) → k ≤ s → AreFrom s xs → AreFrom k xs
from_less s k [] low all = tt
from_less s k (x ∷ xs) low all = (let is = all.0 in omega (arith, is, low), from_less s k xs low all.1)

-- and of what a test keeps
pub all_kept : (P : Object → Type 0) (p : Object → Bool) (xs : List Object) → AllByRecursion P xs → AllByRecursion P (filter p xs)
all_kept P p [] all = tt
all_kept P p (x ∷ xs) all =
    elim (p x) as (λ b. AllByRecursion P (cond b (x ∷ filter p xs) (filter p xs))) [
      | true ↦ (all.0, all_kept P p xs all.1)
      | false ↦ all_kept P p xs all.1
    ]

pub from_split : (s : ℕ) (lists : List (List Object)) → AreOf s lists → AreFrom s (joined lists)
from_split s [] of = tt
from_split s (xs ∷ lists) of =
    all_append (λ (o : Object). s ≤ o.name.seg.0) xs (joined lists) (in_from s xs of.0) (from_less (suc s) s (joined lists) (omega arith) (from_split (suc s) lists of.1))

-- a test that all pass, or none
module _ (p : Object → Bool) (s : ℕ) where
  pub whole_in : ((o : Object) → o.name.seg.0 ≡ s → p o ≡ true) → (xs : List Object) → AreIn s xs → filter p xs ≡ xs
  whole_in h [] all = refl
  whole_in h (x ∷ xs) all = ap (λ b. cond b (x ∷ filter p xs) (filter p xs)) (h x all.0) ∙ ap (λ ys. x ∷ ys) (whole_in h xs all.1)

  whole_from : ((o : Object) → s ≤ o.name.seg.0 → p o ≡ true) → (xs : List Object) → AreFrom s xs → filter p xs ≡ xs
  whole_from h [] all = refl
  whole_from h (x ∷ xs) all = ap (λ b. cond b (x ∷ filter p xs) (filter p xs)) (h x all.0) ∙ ap (λ ys. x ∷ ys) (whole_from h xs all.1)

  pub nothing_in : ((o : Object) → o.name.seg.0 ≡ s → p o ≡ false) → (xs : List Object) → AreIn s xs → filter p xs ≡ []
  nothing_in h [] all = refl
  nothing_in h (x ∷ xs) all = ap (λ b. cond b (x ∷ filter p xs) (filter p xs)) (h x all.0) ∙ nothing_in h xs all.1

  pub nothing_from : ((o : Object) → s ≤ o.name.seg.0 → p o ≡ false) → (xs : List Object) → AreFrom s xs → filter p xs ≡ []
  nothing_from h [] all = refl
  nothing_from h (x ∷ xs) all = ap (λ b. cond b (x ∷ filter p xs) (filter p xs)) (h x all.0) ∙ nothing_from h xs all.1

pub alike_in : (p q : Object → Bool) (s : ℕ) → ((o : Object) → o.name.seg.0 ≡ s → p o ≡ q o) → (xs : List Object) → AreIn s xs → filter p xs ≡ filter q xs
alike_in p q s h [] all = refl
alike_in p q s h (x ∷ xs) all = ap₂ (λ b ys. cond b (x ∷ ys) ys) (h x all.0) (alike_in p q s h xs all.1)

-- the objects of a segment are of that segment
pub are_in : (xs : List Object) (seg : ℕ) → AreIn seg (objects_in xs seg)
are_in [] seg = tt
are_in (x ∷ xs) seg =
    elim (x.name.seg.0 == seg) as (λ b. (x.name.seg.0 == seg) ≡ b → AreIn seg (cond b (x ∷ objects_in xs seg) (objects_in xs seg))) [
      | true ↦ λ e. (eqb-true x.name.seg.0 seg e, are_in xs seg)
      | false ↦ λ e. are_in xs seg
    ] refl

-- the objects of a segment are those of its list
pub in_split : (s k : ℕ) (lists : List (List Object)) → AreOf s lists → objects_in (joined lists) (s + k) ≡ get_or lists k []
in_split s k [] of = refl
in_split s zero (xs ∷ lists) of =
    let here : s + zero ≡ s = omega arith in
    ap (objects_in (xs ++ joined lists)) here
    ∙ filter-append (λ (o : Object). o.name.seg.0 == s) xs (joined lists)
    ∙ ap₂ (λ ys zs. ys ++ zs)
    (whole_in (λ (o : Object). o.name.seg.0 == s) s (λ o is. eq-eqb o.name.seg.0 s is) xs of.0)
    (nothing_from (λ (o : Object). o.name.seg.0 == s) (suc s) (λ o from. ne_eqb o.name.seg.0 s (λ e. omega (arith, e, from))) (joined lists) (from_split (suc s) lists of.1))
    ∙ append-nil xs
in_split s (suc k) (xs ∷ lists) of =
    let next : s + suc k ≡ suc s + k = omega arith in
    ap (objects_in (xs ++ joined lists)) next
    ∙ filter-append (λ (o : Object). o.name.seg.0 == suc s + k) xs (joined lists)
    ∙ ap (λ ys. ys ++ objects_in (joined lists) (suc s + k))
    (nothing_in (λ (o : Object). o.name.seg.0 == suc s + k) s (λ o is. ne_eqb o.name.seg.0 (suc s + k) (λ e. omega (arith, e, is))) xs of.0)
    ∙ in_split (suc s) k lists of.1

pub in_at : (k : ℕ) (lists : List (List Object)) → AreOf 0 lists → objects_in (joined lists) k ≡ get_or lists k []
in_at k lists of = let at : k ≡ 0 + k = omega arith in ap (objects_in (joined lists)) at ∙ in_split 0 k lists of

-- another list for one segment
pub of_set : (s k : ℕ) (lists : List (List Object)) (ys : List Object) → AreOf s lists → AreIn (s + k) ys → AreOf s (set lists k ys)
of_set s k [] ys of all = tt
of_set s zero (xs ∷ lists) ys of all = let here : s + zero ≡ s = omega arith in (subst (λ n. AreIn n ys) here all, of.1)
of_set s (suc k) (xs ∷ lists) ys of all =
    let next : s + suc k ≡ suc s + k = omega arith in
    (of.0, of_set (suc s) k lists ys of.1 (subst (λ n. AreIn n ys) next all))

pub of_get : (s k : ℕ) (lists : List (List Object)) → AreOf s lists → AreIn (s + k) (get_or lists k [])
of_get s k [] of = tt
of_get s zero (xs ∷ lists) of = let here : s ≡ s + zero = omega arith in subst (λ n. AreIn n xs) here of.0
of_get s (suc k) (xs ∷ lists) of =
    let next : suc s + k ≡ s + suc k = omega arith in
    subst (λ n. AreIn n (get_or lists k [])) next (of_get (suc s) k lists of.1)

pub in_written : (s : ℕ) (n : Name) (i : ℕ) (c : Content) (xs : List Object) → AreIn s xs → AreIn s (map (object_after_write n i c) xs)
in_written s n i c [] all = tt
in_written s n i c (x ∷ xs) all = (ap (λ (m : Name). m.seg.0) (written_name n i c x) ∙ all.0, in_written s n i c xs all.1)

-- no objects in so many segments
pub of_none : (s n : ℕ) → AreOf s (replicate n [])
of_none s zero = tt
of_none s (suc n) = (tt, of_none (suc s) n)

pub joined_none : (n : ℕ) → joined (replicate n []) ≡ []
joined_none zero = refl
joined_none (suc n) = joined_none n

-- an object that comes after all of its segment goes to the end of it
module _ (o : Object) where
  pub with_later : (xs ys : List Object) → AllByRecursion (λ (x : Object). IsTrue (name_lt x.name o.name)) xs → with_object o (xs ++ ys) ≡ xs ++ with_object o ys
  with_later [] ys all = refl
  with_later (x ∷ xs) ys all =
      ap (λ b. cond b (x ∷ with_object o (xs ++ ys)) (o ∷ x ∷ (xs ++ ys))) all.0 ∙ ap (λ zs. x ∷ zs) (with_later xs ys all.1)

  with_first : (s : ℕ) (xs : List Object) → o.name.seg.0 < s → AreFrom s xs → with_object o xs ≡ o ∷ xs
  with_first s [] low all = refl
  with_first s (x ∷ xs) low all =
      let from = all.0 in
      ap (λ b. cond b (x ∷ with_object o xs) (o ∷ x ∷ xs)) (name_lt_asym o.name x.name (by_segment_lt o.name x.name (omega (arith, low, from))))

  earlier : (s : ℕ) (xs : List Object) → s < o.name.seg.0 → AreIn s xs → AllByRecursion (λ (x : Object). IsTrue (name_lt x.name o.name)) xs
  earlier s [] low all = tt
  earlier s (x ∷ xs) low all = (by_segment_lt x.name o.name (let is = all.0 in omega (arith, is, low)), earlier s xs low all.1)

  pub placed_split : (s k : ℕ) (lists : List (List Object)) → AreOf s lists → k < length lists → o.name.seg.0 ≡ s + k →
      AllByRecursion (λ (x : Object). IsTrue (name_lt x.name o.name)) (get_or lists k []) →
      with_object o (joined lists) ≡ joined (set lists k (get_or lists k [] ++ o ∷ []))
  placed_split s k [] of inside is last = absurd (omega (arith, inside))
  placed_split s zero (xs ∷ lists) of inside is last =
      with_later xs (joined lists) last
      ∙ ap (λ ys. xs ++ ys) (with_first (suc s) (joined lists) (omega (arith, is)) (from_split (suc s) lists of.1))
      ∙ sym (append_assoc xs (o ∷ []) (joined lists))
  placed_split s (suc k) (xs ∷ lists) of inside is last =
      with_later xs (joined lists) (earlier s xs (omega (arith, is)) of.0)
      ∙ ap (λ ys. xs ++ ys) (placed_split (suc s) k lists of.1 (omega (arith, inside)) (omega (arith, is)) last)

  -- all of the segment come before an object whose serial is above those that were given
  pub newest : (xs : List Object) (made : List ℕ) → AreNumbered xs made → get_or made o.name.seg.0 0 < o.name.serial.0 →
      AllByRecursion (λ (x : Object). IsTrue (name_lt x.name o.name)) (objects_in xs o.name.seg.0)
  newest [] made numbered above = tt
  newest (x ∷ xs) made numbered above =
      let rest = newest xs made (λ n there. numbered n (or_right (name_eq x.name n) (has xs n) there)) above in
      let seg = o.name.seg.0 in
      let P : Object → Type 0 = λ (y : Object). IsTrue (name_lt y.name o.name) in
      elim (x.name.seg.0 == seg) as (λ b. (x.name.seg.0 == seg) ≡ b → AllByRecursion P (cond b (x ∷ objects_in xs seg) (objects_in xs seg))) [
        | true ↦ λ e.
            let same = eqb-true x.name.seg.0 seg e in
            let low = numbered x.name (ap (λ b. b || has xs x.name) (name_eq_refl x.name)) in
            let at = ap (λ k. get_or made k 0) same in
            (by_serial_lt x.name o.name same (omega (arith, low, at, above)), rest)
        | false ↦ λ e. rest
      ] refl

none_in : (n : Name) (s : ℕ) (xs : List Object) → AreIn s xs → n.seg.0 ≢ s → has xs n ≡ false
none_in n s [] all apart = refl
none_in n s (x ∷ xs) all apart =
    ap₂ (λ a b. a || b) (name_eq-false x.name n (λ e. apart (ap (λ (m : Name). m.seg.0) (sym e) ∙ all.0))) (none_in n s xs all.1 apart)

none_from : (n : Name) (s : ℕ) (xs : List Object) → AreFrom s xs → n.seg.0 < s → has xs n ≡ false
none_from n s [] all low = refl
none_from n s (x ∷ xs) all low =
    ap₂ (λ a b. a || b)
    (name_eq-false x.name n (λ e. let same = ap (λ (m : Name). m.seg.0) e in let from = all.0 in omega (arith, same, from, low)))
    (none_from n s xs all.1 low)

-- a write changes the list of one segment
pub written_split : (s k : ℕ) (lists : List (List Object)) (n : Name) (i : ℕ) (c : Content) → AreOf s lists → n.seg.0 ≡ s + k →
    map (object_after_write n i c) (joined lists) ≡ joined (set lists k (map (object_after_write n i c) (get_or lists k [])))
written_split s k [] n i c of is = refl
written_split s zero (xs ∷ lists) n i c of is =
    map-append (object_after_write n i c) xs (joined lists)
    ∙ ap (λ ys. map (object_after_write n i c) xs ++ ys)
    (written_none n i c (joined lists) (none_from n (suc s) (joined lists) (from_split (suc s) lists of.1) (omega (arith, is))))
written_split s (suc k) (xs ∷ lists) n i c of is =
    map-append (object_after_write n i c) xs (joined lists)
    ∙ ap₂ (λ ys zs. ys ++ zs)
    (written_none n i c xs (none_in n s xs of.0 (λ e. omega (arith, e, is))))
    (written_split (suc s) k lists n i c of.1 (omega (arith, is)))

-- what is left where one segment keeps what passes
abbrev passing : (Name → Bool) → ℕ → Object → Bool
passing passes s o = not (o.name.seg.0 == s) || passes o.name

pub kept_split : (s k : ℕ) (lists : List (List Object)) (stays : List Bool) (passes : Name → Bool) → AreOf s lists →
    stays ≡ map (λ (o : Object). passes o.name) (get_or lists k []) →
    joined (set lists k (marked stays (get_or lists k []))) ≡ filter (passing passes (s + k)) (joined lists)
kept_split s k [] stays passes of say = refl
kept_split s zero (xs ∷ lists) stays passes of say =
    let p = passing passes (s + zero) in
    let own : marked stays xs ≡ filter p xs
    = marked_passing (λ (o : Object). passes o.name) stays xs say
    ∙ alike_in (λ (o : Object). passes o.name) p s (λ o is. sym (ap (λ b. not b || passes o.name) (eq-eqb o.name.seg.0 (s + zero) (omega (arith, is))))) xs of.0 in
    let rest : joined lists ≡ filter p (joined lists)
    = sym (whole_from p (suc s) (λ o from. ap (λ b. not b || passes o.name) (ne_eqb o.name.seg.0 (s + zero) (λ e. omega (arith, e, from)))) (joined lists) (from_split (suc s) lists of.1)) in
    ap₂ (λ ys zs. ys ++ zs) own rest ∙ sym (filter-append p xs (joined lists))
kept_split s (suc k) (xs ∷ lists) stays passes of say =
    let p = passing passes (s + suc k) in
    let next : suc s + k ≡ s + suc k = omega arith in
    let own : xs ≡ filter p xs
    = sym (whole_in p s (λ o is. ap (λ b. not b || passes o.name) (ne_eqb o.name.seg.0 (s + suc k) (λ e. omega (arith, e, is)))) xs of.0) in
    let rest : joined (set lists k (marked stays (get_or lists k []))) ≡ filter p (joined lists)
    = kept_split (suc s) k lists stays passes of.1 say ∙ ap (λ n. filter (passing passes n) (joined lists)) next in
    ap₂ (λ ys zs. ys ++ zs) own rest ∙ sym (filter-append p xs (joined lists))

marked_append : (ms ns : List Bool) (xs ys : List Object) → length ms ≡ length xs → marked (ms ++ ns) (xs ++ ys) ≡ marked ms xs ++ marked ns ys
marked_append [] ns [] ys same = refl
marked_append [] ns (x ∷ xs) ys same = absurd (omega (arith, same))
marked_append (m ∷ ms) ns [] ys same = absurd (omega (arith, same))
marked_append (true ∷ ms) ns (x ∷ xs) ys same = ap (λ zs. x ∷ zs) (marked_append ms ns xs ys (omega (arith, same)))
marked_append (false ∷ ms) ns (x ∷ xs) ys same = marked_append ms ns xs ys (omega (arith, same))

marked_whole : (xs : List Object) → marked (replicate (length xs) true) xs ≡ xs
marked_whole [] = refl
marked_whole (x ∷ xs) = ap (λ ys. x ∷ ys) (marked_whole xs)

-- the marks of one segment are marks of all
pub some_marks : (k : ℕ) (lists : List (List Object)) (stays : List Bool) → length stays ≡ length (get_or lists k []) →
    (marks : List Bool) × (joined (set lists k (marked stays (get_or lists k []))) ≡ marked marks (joined lists))
some_marks k [] stays same = ([], refl)
some_marks zero (xs ∷ lists) stays same =
    let rest : List Bool = replicate (length (joined lists)) true in
    (stays ++ rest, sym (marked_append stays rest xs (joined lists) same ∙ ap (λ ys. marked stays xs ++ ys) (marked_whole (joined lists))))
some_marks (suc k) (xs ∷ lists) stays same =
    let first : List Bool = replicate (length xs) true in
    let rest = some_marks k lists stays same in (
      first ++ rest.0,
      ap (λ ys. xs ++ ys) rest.1
          ∙ sym (marked_append first rest.0 xs (joined lists) (length-replicate {A = Bool} (length xs) true) ∙ ap (λ ys. ys ++ marked rest.0 (joined lists)) (marked_whole xs)),
    )

-- an object is found in its segment
pub with_true : (a : Bool) → (a && true) ≡ a
with_true true = refl
with_true false = refl

pub has_in : (xs : List Object) (n : Name) → has (objects_in xs n.seg.0) n ≡ has xs n
has_in xs n =
    has-kept (λ m. m.seg.0 == n.seg.0) xs n ∙ ap (λ b. has xs n && b) (eq-eqb n.seg.0 n.seg.0 refl) ∙ with_true (has xs n)

pub in_parts : (xs : List Object) (seg : ℕ) (n : Name) → has (objects_in xs seg) n ≡ true → (has xs n ≡ true) × (n.seg.0 ≡ seg)
in_parts xs seg n there =
    let parts = and_parts (has xs n) (n.seg.0 == seg) (sym (has-kept (λ m. m.seg.0 == seg) xs n) ∙ there) in
    (parts.0, eqb-true n.seg.0 seg parts.1)

pub object_in : (xs : List Object) (n : Name) → object_at (objects_in xs n.seg.0) n ≡ object_at xs n
object_in xs n =
    object_at-kept (λ m. m.seg.0 == n.seg.0) xs n ∙ ap (λ b. cond b (object_at xs n) None) (eq-eqb n.seg.0 n.seg.0 refl)

pub ordered_in : (xs : List Object) (seg : ℕ) → IsOrdered xs → IsOrdered (objects_in xs seg)
ordered_in xs seg ordered =
    let p : Object → Bool = λ o. o.name.seg.0 == seg in
    subst IsOrdered (marked_filter p xs) (ordered_marked (map p xs) xs ordered)

-- a segment that keeps some of its objects
module _ (lists : List (List Object)) (s : ℕ) (stays : List Bool) (v : List Object) (of : AreOf 0 lists) (inside : s < length lists) (kept : v ≡ marked stays (get_or lists s [])) where
  pub kept_of : AreOf 0 (set lists s v)
  kept_of =
      of_set 0 s lists v of
      (subst (AreIn (0 + s)) (sym kept) (all_marked (λ (o : Object). o.name.seg.0 ≡ 0 + s) stays (get_or lists s []) (of_get 0 s lists of)))

  now_is : objects_in (joined (set lists s v)) s ≡ v
  now_is = in_at s (set lists s v) kept_of ∙ get_or-set_same lists s v [] inside

  pub kept_is : v ≡ objects_in (joined (set lists s v)) s
  kept_is = sym now_is

  pub kept_own : objects_in (joined (set lists s v)) s ≡ marked stays (objects_in (joined lists) s)
  kept_own = now_is ∙ kept ∙ ap (marked stays) (sym (in_at s lists of))

  pub kept_others : (k : ℕ) → k ≢ s → objects_in (joined (set lists s v)) k ≡ objects_in (joined lists) k
  kept_others k ne = in_at k (set lists s v) kept_of ∙ get_or-set_other lists s k v [] ne ∙ sym (in_at k lists of)

  pub kept_some : length stays ≡ length (get_or lists s []) → (marks : List Bool) × (joined (set lists s v) ≡ marked marks (joined lists))
  kept_some same = let some = some_marks s lists stays same in (some.0, ap (λ ys. joined (set lists s ys)) kept ∙ some.1)

  pub kept_passing : (passes : Name → Bool) → stays ≡ map (λ (o : Object). passes o.name) (objects_in (joined lists) s) →
      joined (set lists s v) ≡ filter (λ o. not (o.name.seg.0 == s) || passes o.name) (joined lists)
  kept_passing passes say =
      let at : 0 + s ≡ s = omega arith in
      ap (λ ys. joined (set lists s ys)) kept
      ∙ kept_split 0 s lists stays passes of (say ∙ ap (map (λ (o : Object). passes o.name)) (in_at s lists of))
      ∙ ap (λ n. filter (passing passes n) (joined lists)) at

-- an object at the end of its segment
module _ (lists : List (List Object)) (o : Object) (v : List Object) (of : AreOf 0 lists) (inside : o.name.seg.0 < length lists)
    (pushed : v ≡ get_or lists o.name.seg.0 [] ++ o ∷ []) where
  pub pushed_of : AreOf 0 (set lists o.name.seg.0 v)
  pushed_of =
      let s = o.name.seg.0 in
      let at : s ≡ 0 + s = omega arith in
      of_set 0 s lists v of
      (subst (AreIn (0 + s)) (sym pushed) (all_append (λ (x : Object). x.name.seg.0 ≡ 0 + s) (get_or lists s []) (o ∷ []) (of_get 0 s lists of) (at, tt)))

  pub pushed_last : AllByRecursion (λ (x : Object). IsTrue (name_lt x.name o.name)) (objects_in (joined lists) o.name.seg.0) →
      joined (set lists o.name.seg.0 v) ≡ with_object o (joined lists)
  pushed_last last =
      let s = o.name.seg.0 in
      let at : s ≡ 0 + s = omega arith in
      let P : Object → Type 0 = λ (x : Object). IsTrue (name_lt x.name o.name) in
      ap (λ ys. joined (set lists s ys)) pushed
      ∙ sym (placed_split o 0 s lists of inside at (subst (AllByRecursion P) (in_at s lists of) last))

  -- one that comes after all
  pub pushed_end : AllByRecursion (λ (x : Object). IsTrue (name_lt x.name o.name)) (joined lists) → joined (set lists o.name.seg.0 v) ≡ joined lists ++ o ∷ []
  pushed_end last =
      pushed_last (all_kept (λ (x : Object). IsTrue (name_lt x.name o.name)) (λ (x : Object). x.name.seg.0 == o.name.seg.0) (joined lists) last)
      ∙ ap (with_object o) (sym (append-nil (joined lists)))
      ∙ with_later o (joined lists) [] last

-- objects in order: the rest of a list comes after its front
pub ordered_front : (xs : List Object) (o : Object) (ys : List Object) → IsOrdered (xs ++ o ∷ ys) → AllByRecursion (λ (x : Object). IsTrue (name_lt x.name o.name)) xs
ordered_front [] o ys ordered = tt
ordered_front (x ∷ xs) o ys ordered =
    (ordered_later x.name (xs ++ o ∷ ys) o.name ordered (has_middle xs o ys), ordered_front xs o ys (ordered_tail x.name (xs ++ o ∷ ys) ordered))
  where
    has_middle : (xs : List Object) (o : Object) (ys : List Object) → has (xs ++ o ∷ ys) o.name ≡ true
    has_middle [] o ys = ap (λ b. b || has ys o.name) (name_eq_refl o.name)
    has_middle (x ∷ xs) o ys = or_right (name_eq x.name o.name) (has (xs ++ o ∷ ys) o.name) (has_middle xs o ys)

pub all_middle : (P : Object → Type 0) (xs : List Object) (o : Object) (ys : List Object) → AllByRecursion P (xs ++ o ∷ ys) → P o
all_middle P [] o ys all = all.0
all_middle P (x ∷ xs) o ys all = all_middle P xs o ys all.1

-- an object that is put at the end of the list that stands at its segment
module _ (lists : List (List Object)) (o : Object) (n : Name) (list v : List Object) (named : n ≡ o.name) (of : AreOf 0 lists)
    (got : list ≡ get_or lists n.seg.0 list) (then : v ≡ list ++ o ∷ []) where
  put_is : o.name.seg.0 < length lists → v ≡ get_or lists o.name.seg.0 [] ++ o ∷ []
  put_is inside =
      then
      ∙ ap (λ xs. xs ++ o ∷ []) (get_or_read lists o.name.seg.0 list inside (got ∙ ap (λ (m : Name). get_or lists m.seg.0 list) named) [])

  pub put_of : o.name.seg.0 < length lists → AreOf 0 (set lists n.seg.0 v)
  put_of inside = subst (λ (m : Name). AreOf 0 (set lists m.seg.0 v)) (sym named) (pushed_of lists o v of inside (put_is inside))

  pub put_last : o.name.seg.0 < length lists → AllByRecursion (λ (x : Object). IsTrue (name_lt x.name o.name)) (objects_in (joined lists) o.name.seg.0) →
      joined (set lists n.seg.0 v) ≡ with_object o (joined lists)
  put_last inside last = ap (λ (m : Name). joined (set lists m.seg.0 v)) named ∙ pushed_last lists o v of inside (put_is inside) last

  -- and the same of objects in order
  module _ (ys rest all : List Object) (count : ℕ) (so_far : joined lists ≡ ys) (whole : ys ++ o ∷ rest ≡ all) (long : length lists ≡ count)
      (ordered : IsOrdered all) (known : AllByRecursion (λ (x : Object). x.name.seg.0 < count) all) where
    there : o.name.seg.0 < length lists
    there =
        let low : o.name.seg.0 < count
        = all_middle (λ (x : Object). x.name.seg.0 < count) ys o rest (subst (AllByRecursion (λ (x : Object). x.name.seg.0 < count)) (sym whole) known) in
        omega (arith, low, long)

    pub put_there : n.seg.0 < length lists
    put_there = subst (λ (m : Name). m.seg.0 < length lists) (sym named) there

    pub put_next_of : AreOf 0 (set lists n.seg.0 v)
    put_next_of = put_of there

    pub put_next : joined (set lists n.seg.0 v) ≡ ys ++ o ∷ []
    put_next =
        let P : Object → Type 0 = λ (x : Object). IsTrue (name_lt x.name o.name) in
        let last : AllByRecursion P ys = ordered_front ys o rest (subst IsOrdered (sym whole) ordered) in
        ap (λ (m : Name). joined (set lists m.seg.0 v)) named
        ∙ pushed_end lists o v of there (put_is there) (subst (AllByRecursion P) (sym so_far) last)
        ∙ ap (λ xs. xs ++ o ∷ []) so_far

-- a write in a segment
module _ (lists : List (List Object)) (n : Name) (i : ℕ) (c : Content) (k : ℕ) (v : List Object) (of : AreOf 0 lists) (ordered : IsOrdered (joined lists))
    (named : IsNamedAt (objects_in (joined lists) n.seg.0) k n)
    (wrote : (d : Object) → v ≡ set (get_or lists n.seg.0 []) k (object_after_write n i c (get_or (get_or lists n.seg.0 []) k d))) where
  written_is : v ≡ map (object_after_write n i c) (get_or lists n.seg.0 [])
  written_is =
      let s = n.seg.0 in
      let own = in_at s lists of in
      let d : Object = record { name = n; ty = None; fields = [] } in
      let here : IsNamedAt (get_or lists s []) k n = subst (λ xs. IsNamedAt xs k n) own named in
      wrote d
      ∙ sym (written_once n i c (get_or lists s []) k d (subst IsOrdered own (ordered_in (joined lists) s ordered)) here.0 (here.1 d))

  pub written_of : AreOf 0 (set lists n.seg.0 v)
  written_of =
      of_set 0 n.seg.0 lists v of
      (subst (AreIn (0 + n.seg.0)) (sym written_is) (in_written (0 + n.seg.0) n i c (get_or lists n.seg.0 []) (of_get 0 n.seg.0 lists of)))

  pub written_all : joined (set lists n.seg.0 v) ≡ map (object_after_write n i c) (joined lists)
  written_all =
      let at : n.seg.0 ≡ 0 + n.seg.0 = omega arith in
      ap (λ ys. joined (set lists n.seg.0 ys)) written_is ∙ sym (written_split 0 n.seg.0 lists n i c of at)

-- the list of a segment that has an object of the name is there
pub named_inside : (lists : List (List Object)) (n : Name) (k : ℕ) → AreOf 0 lists → IsNamedAt (objects_in (joined lists) n.seg.0) k n →
    (n.seg.0 < length lists) × (k < length (get_or lists n.seg.0 []))
named_inside lists n k of named =
    let here : k < length (get_or lists n.seg.0 []) = subst (λ (xs : List Object). k < length xs) (in_at n.seg.0 lists of) named.0 in (
      elim (cases_lt n.seg.0 (length lists)) [
        | inl there ↦ there
        | inr past ↦ let none = ap (λ (xs : List Object). length xs) (get_or_past lists n.seg.0 [] past) in absurd (omega (arith, none, here))
      ],
      here,
    )

-- the segment of an object is one of the setup
pub has_known : (setup : Trace) (xs : List Object) (n : Name) → AllByRecursion (IsDeclared setup) xs → has xs n ≡ true → n.seg.0 < segment_count setup
has_known setup [] n all there = absurd (false≢true there)
has_known setup (x ∷ xs) n all there =
    elim (or_cases (name_eq x.name n) (has xs n) there) [
      | inl same ↦ let at = ap (λ (m : Name). m.seg.0) (name_eq-true x.name n same) in let low = (all.0).seg in omega (arith, at, low)
      | inr later ↦ has_known setup xs n all.1 later
    ]

named_known : (setup : Trace) (xs : List Object) (n : Name) (k : ℕ) → AllByRecursion (IsDeclared setup) xs → IsNamedAt (objects_in xs n.seg.0) k n → n.seg.0 < segment_count setup
named_known setup xs n k all named =
    let d : Object = record { name = n; ty = None; fields = [] } in
    has_known setup xs n all (sym (has_in xs n) ∙ list_any_at (λ (o : Object). name_eq o.name n) (objects_in xs n.seg.0) k d named.0 (named.1 d))

pub known_if : (setup : Trace) (xs : List Object) (n : Name) (r : Option ℕ) → AllByRecursion (IsDeclared setup) xs → IfSome r (λ k. IsNamedAt (objects_in xs n.seg.0) k n) →
    IfSome r (λ k. n.seg.0 < segment_count setup)
known_if setup xs n None all named = tt
known_if setup xs n (Some k) all named = named_known setup xs n k all named
