-- What is left of the objects while segment by segment those that are reached stay.
use Rattle.std.proofs.Common.{◌≡◌, ℕ, ◌+◌, ◌==◌, ◌&&◌, ◌||◌, not, nat_lt, cond, Bool, true, false, refl, sym, ap, ap₂, ◌∙◌, inl, inr, List, [], ◌∷◌, filter, arith, eq-eqb, ne_eqb}
use Rattle.std.specs.List.{AllByRecursion}
use Rattle.std.proofs.lemmas.Bool.{cases_eq, eqb-true, lt-ltb, or_right}
use Rattle.k_types.specs.declared.names.Name.{Name}
use Rattle.k_types.specs.declared.names.Heap.{Heap}
use Rattle.k_types.specs.Effects.{survives}
use Rattle.k_types.specs.Names.{heap_eq}
use Rattle.k_types.specs.Owners.{owner_of}
use Rattle.k_types.specs.State.{Object, State}
use Rattle.k_types.specs.Trace.{Trace, segment_count}
use Rattle.k_types.specs.Updates.{keep_objects}
use Rattle.k_state.specs.Machines.{IsDeclared}
use Rattle.k_state.specs.Segments.{objects_in}
use Rattle.k_state.proofs.Borders.{less_next, not_less}
use Rattle.k_state.proofs.Split.{with_true}
use Rattle.k_scan.specs.Marks.{is_reached}
use Rattle.k_scan.proofs.Chosen.{kept_alike, kept_alike_all}

-- the object stays, or its segment is not below that one
abbrev pub kept_below : Trace → State → Heap → ℕ → Name → Bool
kept_below trace st h seg n = not (nat_lt n.seg.0 seg) || survives trace st h n

-- tests that agree keep the same
pub keep_alike : (p q : Name → Bool) (st : State) → ((n : Name) → p n ≡ q n) → keep_objects p st ≡ keep_objects q st
unfolding keep_objects
keep_alike p q st same = ap (λ xs. record st { objects = xs }) (kept_alike (λ (o : Object). p o.name) (λ (o : Object). q o.name) (λ o. same o.name) st.objects)

twice_step : (p q : Name → Bool) (o : Object) (xs : List Object) → filter (λ (x : Object). q x.name) (filter (λ (x : Object). p x.name) xs) ≡ filter (λ (x : Object). p x.name && q x.name) xs →
    filter (λ (x : Object). q x.name) (filter (λ (x : Object). p x.name) (o ∷ xs)) ≡ filter (λ (x : Object). p x.name && q x.name) (o ∷ xs)
twice_step p q o xs ih = grind (arith, ih)

twice : (p q : Name → Bool) (xs : List Object) → filter (λ (x : Object). q x.name) (filter (λ (x : Object). p x.name) xs) ≡ filter (λ (x : Object). p x.name && q x.name) xs
twice p q [] = refl
twice p q (o ∷ xs) = twice_step p q o xs (twice p q xs)

-- one test after another
keep_twice : (p q : Name → Bool) (st now : State) → now ≡ keep_objects p st → keep_objects q now ≡ keep_objects (λ n. p n && q n) st
unfolding keep_objects
keep_twice p q st now is = ap (λ (s : State). record s { objects = filter (λ (o : Object). q o.name) s.objects }) is ∙ ap (λ xs. record st { objects = xs }) (twice p q st.objects)

all_pass : (p : Object → Bool) → ((o : Object) → p o ≡ true) → (xs : List Object) → filter p xs ≡ xs
all_pass p all [] = refl
all_pass p all (x ∷ xs) = ap (λ b. cond b (x ∷ filter p xs) (filter p xs)) (all x) ∙ ap (λ ys. x ∷ ys) (all_pass p all xs)

module _ (trace : Trace) (st : State) (h : Heap) where
  -- before the first segment all stay
  pub kept_first : st ≡ keep_objects (kept_below trace st h 0) st
  unfolding keep_objects
  kept_first =
      ap (λ xs. record st { objects = xs })
      (sym (all_pass (λ (o : Object). kept_below trace st h 0 o.name) (λ o. ap (λ b. not b || survives trace st h o.name) (not_less o.name.seg.0 0 (omega arith))) st.objects))

  -- a segment of another heap stays
  other_same : (seg : ℕ) → heap_eq (owner_of trace st seg) h ≡ false → (n : Name) → kept_below trace st h seg n ≡ kept_below trace st h (seg + 1) n
  unfolding survives
  other_same seg other n =
      elim (cases_eq n.seg.0 seg) [
        | inl same ↦
            let stays : survives trace st h n ≡ true
            = ap (λ b. not b || is_reached trace st h n) (ap (λ k. heap_eq (owner_of trace st k) h) same ∙ other) in
            or_right (not (nat_lt n.seg.0 seg)) (survives trace st h n) stays
            ∙ sym (or_right (not (nat_lt n.seg.0 (seg + 1))) (survives trace st h n) stays)
        | inr apart ↦ ap (λ b. not b || survives trace st h n) (less_next n.seg.0 seg apart)
      ]

  pub kept_other : (seg : ℕ) (now : State) → heap_eq (owner_of trace st seg) h ≡ false → now ≡ keep_objects (kept_below trace st h seg) st →
      now ≡ keep_objects (kept_below trace st h (seg + 1)) st
  kept_other seg now other is = is ∙ keep_alike (kept_below trace st h seg) (kept_below trace st h (seg + 1)) st (other_same seg other)

  -- of a segment of the heap what is reached
  own_same : (seg : ℕ) → heap_eq (owner_of trace st seg) h ≡ true → (n : Name) →
      (kept_below trace st h seg n && (not (n.seg.0 == seg) || is_reached trace st h n)) ≡ kept_below trace st h (seg + 1) n
  unfolding survives
  own_same seg own n =
      elim (cases_eq n.seg.0 seg) [
        | inl same ↦
            let stays : survives trace st h n ≡ is_reached trace st h n
            = ap (λ b. not b || is_reached trace st h n) (ap (λ k. heap_eq (owner_of trace st k) h) same ∙ own) in
            ap₂ (λ a b. (not a || survives trace st h n) && (not b || is_reached trace st h n)) (not_less n.seg.0 seg (omega (arith, same))) (eq-eqb n.seg.0 seg same)
            ∙ sym stays
            ∙ sym (ap (λ b. not b || survives trace st h n) (lt-ltb n.seg.0 (seg + 1) (omega (arith, same))))
        | inr apart ↦
            ap (λ b. kept_below trace st h seg n && (not b || is_reached trace st h n)) (ne_eqb n.seg.0 seg apart)
            ∙ with_true (kept_below trace st h seg n)
            ∙ ap (λ b. not b || survives trace st h n) (less_next n.seg.0 seg apart)
      ]

  pub kept_own : (seg : ℕ) (now new : State) → heap_eq (owner_of trace st seg) h ≡ true → now ≡ keep_objects (kept_below trace st h seg) st →
      new ≡ keep_objects (λ n. not (n.seg.0 == seg) || is_reached trace st h n) now → new ≡ keep_objects (kept_below trace st h (seg + 1)) st
  kept_own seg now new own is then =
      then
      ∙ keep_twice (kept_below trace st h seg) (λ n. not (n.seg.0 == seg) || is_reached trace st h n) st now is
      ∙ keep_alike (λ n. kept_below trace st h seg n && (not (n.seg.0 == seg) || is_reached trace st h n)) (kept_below trace st h (seg + 1)) st (own_same seg own)

  -- what comes later is there as it was
  pub still_there : (seg : ℕ) (now : State) → now ≡ keep_objects (kept_below trace st h seg) st → objects_in now.objects seg ≡ objects_in st.objects seg
  unfolding keep_objects
  still_there seg now is =
      ap (λ (s : State). objects_in s.objects seg) is ∙ later st.objects
    where
      step : (o : Object) (xs : List Object) → ((o.name.seg.0 == seg) ≡ true → kept_below trace st h seg o.name ≡ true) →
          objects_in (filter (λ (x : Object). kept_below trace st h seg x.name) xs) seg ≡ objects_in xs seg →
          objects_in (filter (λ (x : Object). kept_below trace st h seg x.name) (o ∷ xs)) seg ≡ objects_in (o ∷ xs) seg
      step o xs stays ih =
          let rest = filter (λ (x : Object). kept_below trace st h seg x.name) xs in
          elim (o.name.seg.0 == seg) as (λ b. (o.name.seg.0 == seg) ≡ b → objects_in (cond (kept_below trace st h seg o.name) (o ∷ rest) rest) seg ≡ cond b (o ∷ objects_in xs seg) (objects_in xs seg)) [
            | true ↦ λ e.
                ap (λ b. objects_in (cond b (o ∷ rest) rest) seg) (stays e)
                ∙ ap (λ b. cond b (o ∷ objects_in rest seg) (objects_in rest seg)) e
                ∙ ap (λ ys. o ∷ ys) ih
            | false ↦ λ e.
                elim (kept_below trace st h seg o.name) as (λ b. objects_in (cond b (o ∷ rest) rest) seg ≡ objects_in xs seg) [
                  | true ↦ ap (λ b. cond b (o ∷ objects_in rest seg) (objects_in rest seg)) e ∙ ih
                  | false ↦ ih
                ]
          ] refl

      later : (xs : List Object) → objects_in (filter (λ (x : Object). kept_below trace st h seg x.name) xs) seg ≡ objects_in xs seg
      later [] = refl
      later (o ∷ xs) =
          step o xs (λ e. ap (λ b. not b || survives trace st h o.name) (not_less o.name.seg.0 seg (let same = eqb-true o.name.seg.0 seg e in omega (arith, same)))) (later xs)

  -- owners stay
  pub owners_still : (seg k : ℕ) (setup : Trace) (now : State) → setup ≡ trace → now ≡ keep_objects (kept_below trace st h seg) st → owner_of setup now k ≡ owner_of trace st k
  unfolding keep_objects
  owners_still seg k setup now same is = ap₂ (λ (t : Trace) (s : State). owner_of t s k) same is

  last_same : (xs : List Object) → AllByRecursion (IsDeclared trace) xs → AllByRecursion (λ o. kept_below trace st h (segment_count trace) o.name ≡ survives trace st h o.name) xs
  last_same [] all = tt
  last_same (x ∷ xs) all = (let low = (all.0).seg in ap (λ b. not b || survives trace st h x.name) (lt-ltb x.name.seg.0 (segment_count trace) low), last_same xs all.1)

  -- after the last segment
  pub kept_last : (now : State) → AllByRecursion (IsDeclared trace) st.objects → now ≡ keep_objects (kept_below trace st h (segment_count trace)) st → now ≡ keep_objects (survives trace st h) st
  unfolding keep_objects
  kept_last now all is =
      is
      ∙ ap (λ xs. record st { objects = xs })
      (kept_alike_all (λ (o : Object). kept_below trace st h (segment_count trace) o.name) (λ (o : Object). survives trace st h o.name) st.objects (last_same st.objects all))
