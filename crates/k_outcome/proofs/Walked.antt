-- A walk over the objects, segment by segment and serial by serial, finds the next object.
use Rattle.std.proofs.Common.{◌≡◌, ◌⊎◌, inl, inr, ℕ, ◌+◌, ◌<◌, ◌≤◌, ◌==◌, ◌&&◌, Bool, true, false, cond, refl, sym, ap, ◌∙◌, List, [], ◌∷◌, find, get_or, nat_lt, Option, Some, None, arith, eqb-true, ltb-true}
use Rattle.std.specs.Prelude.{IsTrue, option_map}
use Rattle.std.proofs.lemmas.Bool.{and_parts, cases_eq, cases_lt, false_from_ne_true, false≢true, or_cases, or_left, or_right}
use Rattle.std.proofs.lemmas.Bool.Decides.{nat_tests}
use Rattle.k_types.specs.declared.names.Name.{Name}
use Rattle.k_types.specs.Names.{name_eq, name_lt}
use Rattle.k_types.specs.Sound.{AreNumbered, ArePlaced, IsOrdered}
use Rattle.k_types.specs.State.{Object, has}
use Rattle.k_types.specs.Trace.{Trace, segment_count}
use Rattle.k_types.proofs.NameTests.{name_eq-true, name_eq_refl, by_segment_lt, by_serial_lt}
use Rattle.k_types.proofs.Ordered.{ordered_tail, ordered_later}
use Rattle.k_text.specs.Shown.{comes_after, next_name_after}
use Rattle.k_outcome.specs.Listed.{HasNoneAfter, HasNoneBetween, IsNextIn, name_at, start_of}

-- the name comes after the other, or there is no other
abbrev pub comes_to : Option Name → Name → Bool
comes_to None m = true
comes_to (Some a) m = name_lt a m

comes_same : (after : Option Name) (o : Object) → comes_after after o ≡ comes_to after o.name
comes_same None o = refl
comes_same (Some a) o = refl

-- the next object is the first of those that come after the name
next_is : (after : Option Name) (xs : List Object) (n : Name) → IsOrdered xs → has xs n ≡ true → comes_to after n ≡ true →
    ((m : Name) → has xs m ≡ true → comes_to after m ≡ true → name_lt m n ≡ false) → next_name_after after xs ≡ Some n
next_is after [] n ordered there comes first = absurd (false≢true there)
next_is after (x ∷ xs) n ordered there comes first =
    go (λ later. next_is after xs n (ordered_tail x.name xs ordered) later comes (λ m t. first m (or_right _ _ t))) (comes_after after x) refl
  where
    go : (has xs n ≡ true → next_name_after after xs ≡ Some n) → (b : Bool) → comes_after after x ≡ b → option_map (λ (o : Object). o.name) (cond b (Some x) (find (comes_after after) xs)) ≡ Some n
    go rest true on =
        elim (or_cases (name_eq x.name n) (has xs n) there) [
          | inl here ↦ ap (λ (m : Name). Some m) (name_eq-true x.name n here)
          | inr later ↦ absurd (false≢true (sym (first x.name (or_left _ _ (name_eq_refl x.name)) (sym (comes_same after x) ∙ on)) ∙ ordered_later x.name xs n ordered later))
        ]
    go rest false off =
        elim (or_cases (name_eq x.name n) (has xs n) there) [
          | inl here ↦ absurd (false≢true (sym off ∙ comes_same after x ∙ ap (comes_to after) (name_eq-true x.name n here) ∙ comes))
          | inr later ↦ rest later
        ]

next_none : (after : Option Name) (xs : List Object) → ((m : Name) → has xs m ≡ true → comes_to after m ≡ true → ⊥) → next_name_after after xs ≡ None
next_none after [] none = refl
next_none after (x ∷ xs) none = go (next_none after xs (λ m t. none m (or_right _ _ t))) (comes_after after x) refl
  where
    go : next_name_after after xs ≡ None → (b : Bool) → comes_after after x ≡ b → option_map (λ (o : Object). o.name) (cond b (Some x) (find (comes_after after) xs)) ≡ None
    go rest true on = absurd (none x.name (or_left _ _ (name_eq_refl x.name)) (sym (comes_same after x) ∙ on))
    go rest false off = rest

lt_parts : (a b : Name) → name_lt a b ≡ true → (a.seg.0 < b.seg.0) ⊎ ((a.seg.0 ≡ b.seg.0) × (a.serial.0 < b.serial.0))
lt_parts a b t =
    elim (or_cases (nat_lt a.seg.0 b.seg.0) ((a.seg.0 == b.seg.0) && nat_lt a.serial.0 b.serial.0) t) [
      | inl lower ↦ inl (ltb-true a.seg.0 b.seg.0 lower)
      | inr same ↦ let parts = and_parts (a.seg.0 == b.seg.0) (nat_lt a.serial.0 b.serial.0) same in inr (eqb-true a.seg.0 b.seg.0 parts.0, ltb-true a.serial.0 b.serial.0 parts.1)
    ]

less : (a b : ℕ) → a < b → nat_lt a b ≡ true
less a b h = grind (arith, nat_tests)

-- a name by its segment and serial
named : (m : Name) (seg : ℕ) → m.seg.0 ≡ seg → m ≡ name_at seg m.serial.0
named m seg same = ap (λ s. name_at s m.serial.0) same

-- the walk has come to that place: exactly the objects after it come after the name
pub record HasCome (objects : List Object) (after : Option Name) (seg passed : ℕ) : Type 0 where
  pub further : (m : Name) → IsTrue (has objects m) → IsTrue (comes_to after m) → IsTrue (name_lt (name_at seg passed) m)
  pub comes : (m : Name) → IsTrue (has objects m) → IsTrue (name_lt (name_at seg passed) m) → IsTrue (comes_to after m)

module _ (trace : Trace) (objects : List Object) (made : List ℕ) (ordered : IsOrdered objects) (numbered : AreNumbered objects made) (placed : ArePlaced trace objects) where
  pub begins : (after : Option Name) → HasCome objects after (start_of after).seg.0 (start_of after).serial.0
  begins (Some n) = record { further = λ m there t. t; comes = λ m there t. t }
  begins None = record { further = λ m there t. first m (placed m there).0; comes = λ m there t. refl }
    where
      first : (m : Name) → 0 < m.serial.0 → name_lt (name_at 0 0) m ≡ true
      first m positive =
          elim (cases_eq 0 m.seg.0) [
            | inl same ↦ by_serial_lt (name_at 0 0) m same positive
            | inr apart ↦ by_segment_lt (name_at 0 0) m (omega (arith, apart))
          ]

  -- no object of the segment is left: on to the next segment
  pub goes_on : (after : Option Name) (seg passed : ℕ) → HasCome objects after seg passed → HasNoneAfter objects seg passed → HasCome objects after (seg + 1) 0
  goes_on after seg passed h none = record { further = further; comes = comes }
    where
      higher : (m : Name) → has objects m ≡ true → name_lt (name_at seg passed) m ≡ true → seg < m.seg.0
      higher m there t =
          elim (lt_parts (name_at seg passed) m t) [
            | inl above ↦ above
            | inr same ↦ absurd (false≢true (sym (none m.serial.0 same.1) ∙ ap (has objects) (sym (named m seg (sym same.0))) ∙ there))
          ]

      further : (m : Name) → IsTrue (has objects m) → IsTrue (comes_to after m) → IsTrue (name_lt (name_at (seg + 1) 0) m)
      further m there t =
          let above = higher m there (h.further m there t) in
          elim (cases_eq (seg + 1) m.seg.0) [
            | inl same ↦ by_serial_lt (name_at (seg + 1) 0) m same (placed m there).0
            | inr apart ↦ by_segment_lt (name_at (seg + 1) 0) m (omega (arith, above, apart))
          ]

      comes : (m : Name) → IsTrue (has objects m) → IsTrue (name_lt (name_at (seg + 1) 0) m) → IsTrue (comes_to after m)
      comes m there t =
          h.comes m there (by_segment_lt (name_at seg passed) m (elim (lt_parts (name_at (seg + 1) 0) m t) [
            | inl above ↦ omega (arith, above)
            | inr same ↦ omega (arith, same.0)
          ]))

  -- the next object of the segment is the next of all
  pub comes_next : (after : Option Name) (seg passed : ℕ) (n : Name) → HasCome objects after seg passed → IsNextIn objects seg passed n → Some n ≡ next_name_after after objects
  comes_next after seg passed n h next =
      sym (next_is after objects n ordered next.there (h.comes n next.there (by_serial_lt (name_at seg passed) n (sym next.same_seg) next.later))
      (λ m there t. false_from_ne_true (name_lt m n) (λ lower. before m there (h.further m there t) lower)))
    where
      before : (m : Name) → has objects m ≡ true → name_lt (name_at seg passed) m ≡ true → name_lt m n ≡ true → ⊥
      before m there low lower =
          elim (lt_parts m n lower) [
            | inl above ↦ elim (lt_parts (name_at seg passed) m low) [
              | inl under ↦ absurd (omega (arith, above, under, next.same_seg))
              | inr same ↦ absurd (omega (arith, above, same.0, next.same_seg))
            ]
            | inr same ↦ elim (lt_parts (name_at seg passed) m low) [
              | inl under ↦ absurd (omega (arith, same.0, under, next.same_seg))
              | inr both ↦ absurd (false≢true (sym (next.first m.serial.0 both.1 same.1) ∙ ap (has objects) (sym (named m seg (sym both.0))) ∙ there))
            ]
          ]

  -- past all segments there is none
  pub comes_none : (after : Option Name) (seg passed : ℕ) → HasCome objects after seg passed → segment_count trace ≤ seg → None ≡ next_name_after after objects
  comes_none after seg passed h past =
      sym (next_none after objects (λ m there t. outside m (placed m there).1 (lt_parts (name_at seg passed) m (h.further m there t))))
    where
      outside : (m : Name) → m.seg.0 < segment_count trace → (seg < m.seg.0) ⊎ ((seg ≡ m.seg.0) × (passed < m.serial.0)) → ⊥
      outside m low (inl above) = absurd (omega (arith, low, above, past))
      outside m low (inr same) = absurd (omega (arith, low, same.0, past))

  pub none_before : (seg after : ℕ) → HasNoneBetween objects seg after after
  none_before seg after serial low high = absurd (omega (arith, low, high))

  -- one serial more has no object
  pub none_more : (seg after serial : ℕ) → HasNoneBetween objects seg after serial → has objects (name_at seg (serial + 1)) ≡ false → HasNoneBetween objects seg after (serial + 1)
  none_more seg after serial none gone s low high =
      elim (cases_eq s (serial + 1)) [
        | inl same ↦ ap (λ k. has objects (name_at seg k)) same ∙ gone
        | inr apart ↦ none s low (omega (arith, high, apart))
      ]

  -- one serial more has an object, the first
  pub next_found : (seg after serial : ℕ) → after ≤ serial → HasNoneBetween objects seg after serial → has objects (name_at seg (serial + 1)) ≡ true → IsNextIn objects seg after (name_at seg (serial + 1))
  next_found seg after serial low none there = record {
    there = there;
    same_seg = refl;
    later = omega (arith, low);
    first = λ s above below. none s above (omega (arith, below));
  }

  -- no serial is left that the segment has given
  pub none_left : (seg after serial : ℕ) → HasNoneBetween objects seg after serial → get_or made seg 0 ≤ serial → HasNoneAfter objects seg after
  none_left seg after serial none all s above =
      elim (cases_lt serial s) [
        | inr low ↦ none s above low
        | inl past ↦ false_from_ne_true (has objects (name_at seg s)) (λ there. let given = numbered (name_at seg s) there in absurd (omega (arith, given, past, all)))
      ]
