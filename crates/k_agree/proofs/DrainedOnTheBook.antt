-- The values between and after the drains are there.
use Rattle.std.proofs.Common.{◌≡◌, ℕ, ◌+◌, ◌-◌, ◌<◌, ◌==◌, ◌||◌, ◌&&◌, not, Bool, true, false, cond, refl, sym, ap, ◌∙◌, List, [], ◌∷◌, ◌++◌, map, get_or, set, arith, nat_lt, ltb-true, ltb-false}
use Rattle.std.proofs.lemmas.Bool.{false≢true, false_from_ne_true, or_right}
use Rattle.k_laws.specs.k_types.declared.names.Heap.{Heap}
use Rattle.k_laws.specs.k_types.declared.names.Heap.TheVariants.{Kernel}
use Rattle.k_laws.specs.k_types.declared.names.Name.{Name}
use Rattle.k_laws.specs.k_types.declared.names.Phase.TheVariants.{Absorbed}
use Rattle.k_laws.specs.k_types.Agree.{BookValue, CellValue}
use Rattle.k_laws.specs.k_types.Counted.{Counted, counted}
use Rattle.k_laws.specs.k_types.Cells.{BookPart, ShownPart, part, book_part, pins_of}
use Rattle.k_laws.specs.k_types.Effects.{after_end_of}
use Rattle.k_laws.specs.k_types.Names.{among, heap_eq, name_among, name_eq}
use Rattle.k_laws.specs.k_types.Owners.{owner_of, shared, user}
use Rattle.k_laws.specs.k_types.Sound.{IsSound}
use Rattle.k_laws.specs.k_types.State.{State, has_share}
use Rattle.k_laws.specs.k_types.Trace.{Trace, limit_of, segment_of}
use Rattle.k_laws.specs.k_types.TraceRules.{AreLimits}
use Rattle.k_tie.proofs.NameTests.{name_eq-true, name_eq_refl}
use Rattle.k_laws.specs.k_types.Distinct.{AreDistinctNames}
use Rattle.k_laws.specs.Changes.{MayExit}
use Rattle.k_laws.specs.BookChanges.{registers_in}
use Rattle.k_laws.proofs.EndsOnBook.{end_on_book}
use Rattle.k_agree.specs.Agreement.{Shows, BookShows}
use Rattle.k_agree.specs.GivingOnTheBook.{CanBeAbsorbed, CanBeEnded, charged, leading_into, new_to_kernel}
use Rattle.k_agree.specs.Showing.{book_of, once}
use Rattle.k_agree.proofs.CanShow.{book_shows}
use Rattle.k_agree.proofs.Credited.{left_bit}
use Rattle.k_agree.proofs.HeldOnTheBook.{cut_distinct, cut_there, left_there, passed_distinct, pins_there}

-- one count of the object less
leave_one : Name → List Counted → List Counted
leave_one n [] = []
leave_one n (item ∷ items) =
    cond (name_eq item.object n) (cond (nat_lt 0 item.count) (record item { count = item.count - 1 } ∷ items) (item ∷ leave_one n items)) (item ∷ leave_one n items)

-- the counts are these, but for one of n
IsOneLess : Name → List Counted → List Counted → Type 0
IsOneLess n before after = (m : Name) → counted after m + cond (name_eq n m || false) 1 0 ≡ counted before m

behind : (n : Name) (item : Counted) (before after : List Counted) → IsOneLess n before after → IsOneLess n (item ∷ before) (item ∷ after)
unfolding IsOneLess
behind n item before after less m = let rest = less m in omega (arith, rest)

taken_here : (n : Name) (item : Counted) (items : List Counted) → name_eq item.object n ≡ true → 0 < item.count → IsOneLess n (item ∷ items) (record item { count = item.count - 1 } ∷ items)
unfolding IsOneLess
taken_here n item items same positive m =
    ap (λ k. counted (record item { count = item.count - 1 } ∷ items) m + cond (name_eq k m || false) 1 0) (sym (name_eq-true item.object n same))
    ∙ go (name_eq item.object m)
  where
    go : (b : Bool) → (cond b (item.count - 1) 0 + counted items m) + cond (b || false) 1 0 ≡ cond b item.count 0 + counted items m
    go true = omega (arith, positive)
    go false = omega arith

one_less : (n : Name) (items : List Counted) → 0 < counted items n → IsOneLess n items (leave_one n items)
unfolding leave_one
one_less n [] h = absurd (omega (arith, h))
one_less n (item ∷ items) h = go (λ k. behind n item items (leave_one n items) (one_less n items k)) (name_eq item.object n) (nat_lt 0 item.count) refl refl h
  where
    go : (0 < counted items n → IsOneLess n (item ∷ items) (item ∷ leave_one n items)) → (b c : Bool) → name_eq item.object n ≡ b → nat_lt 0 item.count ≡ c →
        0 < cond b item.count 0 + counted items n →
        IsOneLess n (item ∷ items) (cond b (cond c (record item { count = item.count - 1 } ∷ items) (item ∷ leave_one n items)) (item ∷ leave_one n items))
    go rest true true e f k = taken_here n item items e (ltb-true 0 item.count f)
    go rest true false e f k = let none = ltb-false 0 item.count f in rest (omega (arith, k, none))
    go rest false c e f k = rest (omega (arith, k))

-- distinct names are left, each of them counted
left_all : (gone : List Name) (items : List Counted) → AreDistinctNames gone → ((n : Name) → name_among n gone ≡ true → 0 < counted items n) →
    (later : List Counted) × ((m : Name) → counted later m + cond (name_among m gone) 1 0 ≡ counted items m)
unfolding IsOneLess
left_all [] items distinct there = (items, λ m. omega arith)
left_all (n ∷ gone) items distinct there =
    let less = one_less n items (there n (ap (λ b. b || name_among n gone) (self n))) in
    let rest = left_all gone (leave_one n items) distinct.1 (λ m t.
    let had = there m (or_right (name_eq n m) (name_among m gone) t) in
    let one = less m in
    let other : ◌≡◌ {A = ℕ} (cond (name_eq n m || false) 1 0) 0 = ap (λ b. cond (b || false) 1 0) (apart n gone distinct.0 m t) in
    omega (arith, had, one, other)) in (
      rest.0,
      λ m.
          let one = less m in
          let more = rest.1 m in
          let both = left_bit (name_eq n m) (name_among m gone) (λ same. ap (λ k. name_among k gone) (sym (name_eq-true n m same)) ∙ distinct.0) in
          omega (arith, one, more, both),
    )
  where
    self : (n : Name) → name_eq n n ≡ true
    self n = name_eq_refl n

    apart : (n : Name) (gone : List Name) → name_among n gone ≡ false → (m : Name) → name_among m gone ≡ true → name_eq n m ≡ false
    apart n gone d m t = false_from_ne_true _ (λ same. false≢true (sym d ∙ ap (λ k. name_among k gone) (name_eq-true n m same) ∙ t))

entered_all : (come : List Name) (items : List Counted) → AreDistinctNames come → (m : Name) → counted (map once come ++ items) m ≡ counted items m + cond (name_among m come) 1 0
entered_all [] items distinct m = omega arith
entered_all (n ∷ come) items distinct m =
    let rest = entered_all come items distinct.1 m in
    let both = left_bit (name_eq n m) (name_among m come) (λ same. ap (λ k. name_among k come) (sym (name_eq-true n m same)) ∙ distinct.0) in
    let here = or_none (name_eq n m) in
    omega (arith, rest, both, here)
  where
    or_none : (b : Bool) → ◌≡◌ {A = ℕ} (cond (b || false) 1 0) (cond b 1 0)
    or_none true = refl
    or_none false = refl

-- the two drains
module _ (trace : Trace) (st : State) (g : Heap) (heap kernel : CellValue) (before : BookValue) (sound : IsSound trace st) (seen : BookShows trace st before) (shows : Shows trace st g heap)
    (kernel_shows : Shows trace st Kernel kernel) (distinct : AreDistinctNames heap.exits) (kernel_distinct : AreDistinctNames kernel.exits) where
  first_drain : (later : List Counted) × ((m : Name) → counted later m + cond (name_among m heap.exits) 1 0 ≡ counted before.entries m)
  first_drain = left_all heap.exits before.entries distinct (λ n t. left_there trace st g heap before n seen shows t)

  drained : BookValue
  drained = record before { entries = first_drain.0 }

  first_left : (m : Name) → counted drained.entries m + cond (name_among m heap.exits) 1 0 ≡ counted before.entries m
  unfolding drained
  first_left = first_drain.1

  second_drain : (later : List Counted) × ((m : Name) → counted later m + cond (name_among m (leading_into (owner_of trace st) g kernel)) 1 0 ≡ counted drained.entries m)
  second_drain = left_all (leading_into (owner_of trace st) g kernel) drained.entries (cut_distinct (owner_of trace st) g kernel kernel_distinct)
      (λ n t. cut_there trace st g heap kernel before drained n sound seen shows kernel_shows first_left t)

pub absorption_there : (trace : Trace) (st : State) (s : ℕ) (heap kernel : CellValue) (before : BookValue) → IsSound trace st → BookShows trace st before → Shows trace st (shared s) heap →
    Shows trace st Kernel kernel → AreDistinctNames heap.exits → AreDistinctNames kernel.exits → CanBeAbsorbed trace (owner_of trace st) s heap kernel before
absorption_there trace st s heap kernel before sound seen shows kernel_shows distinct kernel_distinct =
    let mid = drained trace st (shared s) heap kernel before sound seen shows kernel_shows distinct kernel_distinct in
    let last = second_drain trace st (shared s) heap kernel before sound seen shows kernel_shows distinct kernel_distinct in (
      mid,
      record before { phases = set before.phases s Absorbed; shared_bytes = set before.shared_bytes s 0; homes = set before.homes (segment_of trace (shared s)) Kernel; entries = last.0 },
      record {
        left = first_left trace st (shared s) heap kernel before sound seen shows kernel_shows distinct kernel_distinct;
        cut = last.1;
        phases = refl;
        bytes = refl;
        homes = refl;
        rest = refl;
      },
    )

module _ (trace : Trace) (limits : AreLimits trace) (st : State) (p : ℕ) (before : BookValue) (heap : CellValue) (sound : IsSound trace st) (may : MayExit trace st p) (seen : BookShows trace st before)
    (shows : Shows trace st (user p) heap) where
  abbrev later : State
  later = after_end_of trace p st

  ended_then : (q : ℕ) → among q later.ended ≡ (among q before.ended || (p == q))
  unfolding book_part
  ended_then q = ap (λ (b : BookPart). b.ended q) (end_on_book trace limits st p sound may) ∙ ap (λ (b : BookPart). b.ended q || (p == q)) (sym seen.part)

  or_false : (b : Bool) → (b || false) ≡ b
  or_false true = refl
  or_false false = refl

  shares_then : (q t : ℕ) → has_share later.shares q t ≡ (has_share before.shares q t && not (q == p))
  unfolding book_part
  shares_then q t =
      ap (λ (b : BookPart). b.shares q t) (end_on_book trace limits st p sound may)
      ∙ ap (λ (b : BookPart). b.shares q t && (not (q == p) || false)) (sym seen.part)
      ∙ ap (λ x. has_share before.shares q t && x) (or_false (not (q == p)))

  pins_then : (n : Name) → counted (book_of trace later).pins n + cond (heap_eq (user p) (owner_of trace st n.seg.0)) 0 (pins_of (registers_in heap.process) n) ≡ counted before.pins n
  unfolding part
  pins_then n =
      let shown = ap (λ (b : BookPart). b.pins n) (book_shows trace later).part in
      let now = ap (λ (b : BookPart). b.pins n) (end_on_book trace limits st p sound may) in
      let was = ap (λ (b : BookPart). b.pins n) seen.part in
      let row = ap (λ (s : ShownPart). pins_of (registers_in s.process) n) shows.part in
      go (heap_eq (user p) (owner_of trace st n.seg.0)) refl (counted (book_of trace later).pins n) ((book_part trace later).pins n) ((book_part trace st).pins n) (pins_of (get_or st.registers p []) n) shown now was row
    where
      go : (b : Bool) → heap_eq (user p) (owner_of trace st n.seg.0) ≡ b → (x y z row : ℕ) → x ≡ y → y ≡ z - cond b 0 row → counted before.pins n ≡ z → pins_of (registers_in heap.process) n ≡ row →
          x + cond b 0 (pins_of (registers_in heap.process) n) ≡ counted before.pins n
      go true e x y z row shown now was held = omega (arith, shown, now, was)
      go false e x y z row shown now was held =
          let there = pins_there trace st p heap before n may.known seen shows e in
          omega (arith, shown, now, was, held, there)

pub end_there : (trace : Trace) (st : State) (p : ℕ) (heap kernel : CellValue) (before : BookValue) → AreLimits trace → IsSound trace st → MayExit trace st p → BookShows trace st before →
    Shows trace st (user p) heap → Shows trace st Kernel kernel → AreDistinctNames heap.exits → AreDistinctNames kernel.exits → CanBeEnded trace (owner_of trace st) p heap kernel before
end_there trace st p heap kernel before limits sound may seen shows kernel_shows distinct kernel_distinct =
    let mid = drained trace st (user p) heap kernel before sound seen shows kernel_shows distinct kernel_distinct in
    let second = second_drain trace st (user p) heap kernel before sound seen shows kernel_shows distinct kernel_distinct in
    let come = new_to_kernel (owner_of trace st) heap kernel in
    let su = after_end_of trace p st in (
      mid,
      record before { entries = second.0 },
      record before {
        ended = su.ended;
        shares = su.shares;
        direct = set before.direct (limit_of trace p) (get_or before.direct (limit_of trace p) 0 - charged trace before heap p);
        homes = set before.homes (segment_of trace (user p)) Kernel;
        entries = map once come ++ second.0;
        pins = (book_of trace su).pins;
      },
      record {
        left = first_left trace st (user p) heap kernel before sound seen shows kernel_shows distinct kernel_distinct;
        cut = second.1;
        passed = entered_all come second.0 (passed_distinct (owner_of trace st) heap kernel distinct);
        unpinned = pins_then trace limits st p before heap sound may seen shows;
        credited = refl;
        shares = shares_then trace limits st p before heap sound may seen shows;
        homes = refl;
        ended = ended_then trace limits st p before heap sound may seen shows;
        rest = refl;
      },
    )
