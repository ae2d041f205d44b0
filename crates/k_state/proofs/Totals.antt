-- The bytes of segments, and of heaps by their segments.
use Rattle.std.proofs.Common.{◌≡◌, ◌≢◌, ℕ, zero, suc, ◌+◌, ◌*◌, ◌<◌, ◌≤◌, ◌==◌, ◌&&◌, nat_lt, Bool, true, false, cond, refl, ap, ap₂, sym, ◌∙◌, inl, inr, List, [], ◌∷◌, ◌++◌, length, map, filter, take, drop, get_or, set, arith, eq-eqb, ne_eqb, length-set, get_or-set_same, get_or-set_other}
use Rattle.std.proofs.lemmas.Bool.{cases_eq}
use Rattle.std.specs.List.{AllByRecursion}
use Rattle.k_types.specs.Totals.{total}
use Rattle.k_types.specs.declared.names.Heap.{Heap}
use Rattle.k_types.specs.declared.names.Name.{Name}
use Rattle.k_types.specs.Names.{heap_eq, name_lt}
use Rattle.k_types.specs.Owners.{bytes_by, object_bytes}
use Rattle.k_types.specs.State.{Content, Object}
use Rattle.k_types.specs.Trace.{Trace, segment_count}
use Rattle.k_types.specs.Updates.{object_after_write, with_object}
use Rattle.std.proofs.Math.Seq.{take-append_seam}
use Rattle.k_laws.proofs.Lists.{get_or-set_cases}
use Rattle.k_laws.proofs.Objects.{written_name}
use Rattle.k_state.specs.Machines.{AreTotals, IsDeclared, segment_bytes}
use Rattle.k_state.specs.Segments.{objects_in}
use Rattle.k_state.proofs.Sums.{total_filter}
use Rattle.k_laws.proofs.Bytes.{object_bytes-written}

-- what the object adds to the bytes of the segment
abbrev pub share_of : Object → ℕ → ℕ
share_of o seg = cond (o.name.seg.0 == seg) (object_bytes o) 0

pub segment_first : (o : Object) (xs : List Object) (seg : ℕ) → segment_bytes (o ∷ xs) seg ≡ share_of o seg + segment_bytes xs seg
unfolding segment_bytes
segment_first o xs seg = total_filter object_bytes (λ (x : Object). x.name.seg.0 == seg) o xs

pub segment_none : (seg : ℕ) → segment_bytes [] seg ≡ 0
unfolding segment_bytes
segment_none seg = refl

-- one object more from the left
pub segment_next : (xs : List Object) (i seg : ℕ) (o : Object) → i < length xs → o ≡ get_or xs i o →
    segment_bytes (take (i + 1) xs) seg ≡ segment_bytes (take i xs) seg + share_of o seg
segment_next [] i seg o inside is = absurd (omega arith)
segment_next (x ∷ xs) zero seg o inside is =
    let one = segment_first x [] seg in
    let none = segment_none seg in
    let same = ap (λ (y : Object). share_of y seg) is in
    omega (arith, one, none, same)
segment_next (x ∷ xs) (suc i) seg o inside is =
    let ih = segment_next xs i seg o (omega arith) is in
    let more = segment_first x (take (i + 1) xs) seg in
    let before = segment_first x (take i xs) seg in
    let shift : suc i + 1 ≡ suc (i + 1) = omega arith in
    let at = ap (λ k. segment_bytes (take k (x ∷ xs)) seg) shift in
    omega (arith, ih, more, before, at)

pub segment_placed : (o : Object) (xs : List Object) (seg : ℕ) → segment_bytes (with_object o xs) seg ≡ share_of o seg + segment_bytes xs seg
segment_placed o [] seg = segment_first o [] seg
segment_placed o (x ∷ xs) seg =
    elim (name_lt x.name o.name) as (λ b. segment_bytes (cond b (x ∷ with_object o xs) (o ∷ x ∷ xs)) seg ≡ share_of o seg + segment_bytes (x ∷ xs) seg) [
      | true ↦
          let ih = segment_placed o xs seg in
          let after = segment_first x (with_object o xs) seg in
          let before = segment_first x xs seg in
          omega (arith, ih, after, before)
      | false ↦ segment_first o (x ∷ xs) seg
    ]

pub segment_written : (n : Name) (i : ℕ) (c : Content) (xs : List Object) (seg : ℕ) → segment_bytes (map (object_after_write n i c) xs) seg ≡ segment_bytes xs seg
segment_written n i c [] seg = refl
segment_written n i c (x ∷ xs) seg =
    let y : Object = object_after_write n i c x in
    let same : share_of y seg ≡ share_of x seg
    = ap₂ (λ (m : Name) k. cond (m.seg.0 == seg) k 0) (written_name n i c x) (object_bytes-written n i c x) in
    let ih = segment_written n i c xs seg in
    let after = segment_first y (map (object_after_write n i c) xs) seg in
    let before = segment_first x xs seg in
    omega (arith, same, ih, after, before)

pub fewer : (p : Object → Bool) (xs : List Object) → total object_bytes (filter p xs) ≤ total object_bytes xs
fewer p [] = omega arith
fewer p (x ∷ xs) =
    elim (p x) as (λ b. total object_bytes (cond b (x ∷ filter p xs) (filter p xs)) ≤ object_bytes x + total object_bytes xs) [
      | true ↦ omega (arith, fewer p xs)
      | false ↦ omega (arith, fewer p xs)
    ]

all_small : (setup : Trace) (xs : List Object) → AllByRecursion (IsDeclared setup) xs → total object_bytes xs ≤ 144 * length xs
all_small setup [] all = omega arith
all_small setup (x ∷ xs) all =
    let few = (all.0).fields in
    omega (arith, few, all_small setup xs all.1)

pub segment_small : (setup : Trace) (xs : List Object) (seg : ℕ) → AllByRecursion (IsDeclared setup) xs → segment_bytes xs seg ≤ 144 * length xs
unfolding segment_bytes
segment_small setup xs seg all = omega (arith, fewer (λ (x : Object). x.name.seg.0 == seg) xs, all_small setup xs all)

-- a number that is below the next one is below this one or is it
one_step : (g : ℕ → Bool) (s k n : ℕ) → cond (nat_lt s (k + 1) && g s) n 0 ≡ cond (nat_lt s k && g s) n 0 + cond (g k) (cond (s == k) n 0) 0
one_step g s k n =
    elim (cases_eq s k) [
      | inl e ↦
          let next : nat_lt s (k + 1) ≡ true = grind arith in
          let out : nat_lt s k ≡ false = grind arith in
          let same = ap g e in
          let is = eq-eqb s k e in
          grind (arith, next, out, same, is)
      | inr ne ↦
          let next : nat_lt s (k + 1) ≡ nat_lt s k = grind arith in
          let other = ne_eqb s k ne in
          grind (arith, next, other)
    ]

module _ (own : ℕ → Heap) (h : Heap) where
  -- the object is the heap's, in a segment below that one
  abbrev is_below : ℕ → Object → Bool
  is_below k o = nat_lt o.name.seg.0 k && heap_eq (own o.name.seg.0) h

  -- the bytes of the heap's objects in the segments below that one
  abbrev pub below : ℕ → List Object → ℕ
  below k xs = total object_bytes (filter (is_below k) xs)

  pub below_none : (xs : List Object) → below 0 xs ≡ 0
  below_none [] = refl
  below_none (x ∷ xs) =
      let out : is_below 0 x ≡ false = grind arith in
      let first = total_filter object_bytes (is_below 0) x xs in
      let nothing = ap (λ b. cond b (object_bytes x) 0) out in
      omega (arith, first, nothing, below_none xs)

  below_one : (k : ℕ) (o : Object) → cond (is_below (k + 1) o) (object_bytes o) 0 ≡ cond (is_below k o) (object_bytes o) 0 + cond (heap_eq (own k) h) (share_of o k) 0
  below_one k o = one_step (λ s. heap_eq (own s) h) o.name.seg.0 k (object_bytes o)

  pub below_next : (k : ℕ) (xs : List Object) → below (k + 1) xs ≡ below k xs + cond (heap_eq (own k) h) (segment_bytes xs k) 0
  below_next k [] =
      let nothing = segment_none k in
      elim (heap_eq (own k) h) as (λ b. 0 ≡ 0 + cond b (segment_bytes [] k) 0) [
        | true ↦ omega (arith, nothing)
        | false ↦ omega arith
      ]
  below_next k (x ∷ xs) =
      let after = total_filter object_bytes (is_below (k + 1)) x xs in
      let before = total_filter object_bytes (is_below k) x xs in
      let one = below_one k x in
      let ih = below_next k xs in
      elim (heap_eq (own k) h) as (λ b. heap_eq (own k) h ≡ b → below (k + 1) (x ∷ xs) ≡ below k (x ∷ xs) + cond b (segment_bytes (x ∷ xs) k) 0) [
        | true ↦ λ e.
            let first = segment_first x xs k in
            let one' = ap (λ b. cond b (share_of x k) 0) e in
            let ih' = ap (λ b. cond b (segment_bytes xs k) 0) e in
            omega (arith, after, before, one, ih, first, one', ih')
        | false ↦ λ e.
            let one' = ap (λ b. cond b (share_of x k) 0) e in
            let ih' = ap (λ b. cond b (segment_bytes xs k) 0) e in
            omega (arith, after, before, one, ih, one', ih')
      ] refl

  pub below_all : (setup : Trace) (xs : List Object) → AllByRecursion (IsDeclared setup) xs → below (segment_count setup) xs ≡ bytes_by own h xs
  unfolding bytes_by
  below_all setup [] all = refl
  below_all setup (x ∷ xs) all =
      let n = segment_count setup in
      let inside : nat_lt x.name.seg.0 n ≡ true = let low = (all.0).seg in grind arith in
      let same : is_below n x ≡ heap_eq (own x.name.seg.0) h = ap (λ b. b && heap_eq (own x.name.seg.0) h) inside in
      total_filter object_bytes (is_below n) x xs
      ∙ ap₂ (λ b k. cond b (object_bytes x) 0 + k) same (below_all setup xs all.1)
      ∙ sym (total_filter object_bytes (λ (o : Object). heap_eq (own o.name.seg.0) h) x xs)

  pub below_small : (setup : Trace) (k : ℕ) (xs : List Object) → AllByRecursion (IsDeclared setup) xs → below k xs ≤ 144 * length xs
  below_small setup k xs all = omega (arith, fewer (is_below k) xs, all_small setup xs all)

-- the totals after an object is made in a segment
pub totals_placed : (o : Object) (xs : List Object) (totals : List ℕ) (n : ℕ) → AreTotals xs totals → n ≡ get_or totals o.name.seg.0 0 →
    AreTotals (with_object o xs) (set totals o.name.seg.0 (n + object_bytes o))
totals_placed o xs totals n are is seg inside =
    let seg' = o.name.seg.0 in
    let long = length-set totals seg' (n + object_bytes o) in
    let was = are seg (omega (arith, long)) in
    let more = segment_placed o xs seg in
    elim (cases_eq seg' seg) [
      | inl e ↦
          let here = get_or-set_same totals seg (n + object_bytes o) 0 (omega (arith, long)) in
          let at = ap (λ k. get_or (set totals k (n + object_bytes o)) seg 0) e in
          let add = ap (λ b. cond b (object_bytes o) 0) (eq-eqb seg' seg e) in
          let there = ap (λ k. get_or totals k 0) e in
          omega (arith, was, more, here, at, add, there, is)
      | inr ne ↦
          let here : get_or (set totals seg' (n + object_bytes o)) seg 0 ≡ get_or totals seg 0 = grind (arith, get_or-set_other) in
          let add = ap (λ b. cond b (object_bytes o) 0) (ne_eqb seg' seg ne) in
          omega (arith, was, more, here, add)
    ]

pub totals_written : (n : Name) (i : ℕ) (c : Content) (xs : List Object) (totals : List ℕ) → AreTotals xs totals → AreTotals (map (object_after_write n i c) xs) totals
totals_written n i c xs totals are seg inside = are seg inside ∙ sym (segment_written n i c xs seg)

-- the totals of one object more from the left, which is in a segment that has a total
pub counted_here : (xs : List Object) (i : ℕ) (o : Object) (totals : List ℕ) (n : ℕ) → i < length xs → o ≡ get_or xs i o → AreTotals (take i xs) totals →
    n ≡ get_or totals o.name.seg.0 0 → AreTotals (take (i + 1) xs) (set totals o.name.seg.0 (n + object_bytes o))
counted_here xs i o totals n low at are is seg inside =
    let seg' = o.name.seg.0 in
    let long = length-set totals seg' (n + object_bytes o) in
    let was = are seg (omega (arith, inside, long)) in
    let more = segment_next xs i seg o low at in
    elim (cases_eq seg' seg) [
      | inl e ↦
          let here = get_or-set_same totals seg (n + object_bytes o) 0 (omega (arith, inside, long)) in
          let there = ap (λ k. get_or (set totals k (n + object_bytes o)) seg 0) e in
          let add = ap (λ b. cond b (object_bytes o) 0) (eq-eqb seg' seg e) in
          let old = ap (λ k. get_or totals k 0) e in
          omega (arith, was, more, here, there, add, old, is)
      | inr ne ↦
          let here : get_or (set totals seg' (n + object_bytes o)) seg 0 ≡ get_or totals seg 0 = grind (arith, get_or-set_other) in
          let add = ap (λ b. cond b (object_bytes o) 0) (ne_eqb seg' seg ne) in
          omega (arith, was, more, here, add)
    ]

-- and which is in no such segment
pub counted_past : (xs : List Object) (i : ℕ) (o : Object) (totals : List ℕ) → i < length xs → o ≡ get_or xs i o → AreTotals (take i xs) totals →
    length totals ≤ o.name.seg.0 → AreTotals (take (i + 1) xs) totals
counted_past xs i o totals low at are past seg inside =
    let was = are seg inside in
    let more = segment_next xs i seg o low at in
    let add = ap (λ b. cond b (object_bytes o) 0) (ne_eqb o.name.seg.0 seg (λ e. omega (arith, e, past, inside))) in
    omega (arith, was, more, add)

pub small_after : (totals : List ℕ) (s n bytes bound : ℕ) → ((seg : ℕ) → seg < length totals → get_or totals seg 0 ≤ bound) → n ≡ get_or totals s 0 →
    s < length totals → bytes ≤ 144 → (seg : ℕ) → seg < length (set totals s (n + bytes)) → get_or (set totals s (n + bytes)) seg 0 ≤ bound + 144
small_after totals s n bytes bound small is there few seg inside =
    elim (get_or-set_cases totals s seg (n + bytes) 0) [
      | inl same ↦ let was = small seg (omega (arith, inside, length-set totals s (n + bytes))) in omega (arith, was, same)
      | inr here ↦ let was = small s there in omega (arith, was, here.1, is, few)
    ]

-- and after a segment keeps some of its objects
pub totals_kept : (old new : List Object) (totals : List ℕ) (s : ℕ) → AreTotals old totals → ((k : ℕ) → k ≢ s → objects_in new k ≡ objects_in old k) →
    AreTotals new (set totals s (total object_bytes (objects_in new s)))
unfolding segment_bytes
totals_kept old new totals s are others seg inside =
    let v = total object_bytes (objects_in new s) in
    let long = length-set totals s v in
    elim (cases_eq seg s) [
      | inl e ↦
          ap (λ k. get_or (set totals s v) k 0) e
          ∙ get_or-set_same totals s v 0 (omega (arith, inside, long, e))
          ∙ ap (λ k. total object_bytes (objects_in new k)) (sym e)
      | inr ne ↦ get_or-set_other totals s seg v 0 ne ∙ are seg (omega (arith, inside, long)) ∙ ap (total object_bytes) (sym (others seg ne))
    ]

pub written_back : (xs ys : List ℕ) (n : ℕ) → n ≡ length ys → length xs ≡ length ys → take n (xs ++ drop (length xs) ys) ≡ xs
written_back xs ys n long same =
    ap (λ k. take k (xs ++ drop (length xs) ys)) (long ∙ sym same) ∙ take-append_seam xs (drop (length xs) ys)
