-- What was tested of the events of a journal, one after the other.
use Rattle.std.proofs.Common.{◌≡◌, ◌⊎◌, ◌∙◌, ℕ, ◌+◌, ◌<◌, ◌≤◌, true, List, [], ◌∷◌, ◌++◌, length, take, drop, refl, sym, ap, subst, arith, inl, inr, Some, IsFalse, IsTrue}
use Rattle.std.specs.Prelude.{slice_get}
use Rattle.std.specs.List.{list_all}
use Rattle.std.proofs.lemmas.Bool.{and_from}
use Rattle.std.proofs.lemmas.List.{length-append, take-append-drop, take_all, take_more}
use Rattle.std.proofs.lemmas.List.Folds.{list_all-append, list_all_at}
use Rattle.std.proofs.lemmas.Option.{get_or_from_slice_get, slice_get_within}
use Rattle.k_types.specs.declared.event.Event.{Event}
use Rattle.k_types.specs.Bounds.{most_operations}
use Rattle.k_print.specs.declared.errors.PrintError.{PrintError}
use Rattle.k_print.specs.declared.errors.PrintError.TheVariants.{TooMany, Unspelled}
use Rattle.k_spell.specs.Spelled.{is_spelled_event}
use Rattle.k_print.specs.Done.{order_of}
use Rattle.k_print.specs.Printed.{CanBeTraced, IsNotPrinted, Journal}
use Rattle.k_print.proofs.Legal.{order_append}

-- so many operations are counted in the events, and a line can have each
pub record AreTested (events : List Event) (done : ℕ) : Type 0 where
  pub count : done ≡ length (order_of events)
  pub few : done ≤ most_operations
  pub spelled : IsTrue (list_all is_spelled_event events)

module _ (events : List Event) (i : ℕ) (event : Event) (at : slice_get events i ≡ Some event) (done : ℕ) (tested : AreTested (take i events) done) where
  next_is : take (i + 1) events ≡ take i events ++ event ∷ []
  next_is = take_more events i event (slice_get_within events i event at) ∙ ap (λ e. take i events ++ e ∷ []) (get_or_from_slice_get events i event event at)

  next_count : length (order_of (take (i + 1) events)) ≡ length (order_of (take i events)) + length (order_of (event ∷ []))
  next_count = ap (λ (es : List Event). length (order_of es)) next_is ∙ ap length (order_append (take i events) (event ∷ [])) ∙ length-append (order_of (take i events)) (order_of (event ∷ []))

  -- one event more
  pub tested_next : (n : ℕ) → n ≡ done + length (order_of (event ∷ [])) → n ≤ most_operations → IsTrue (is_spelled_event event) → AreTested (take (i + 1) events) n
  tested_next n is few spelled = record {
    count = let before = tested.count in let more = next_count in omega (arith, is, before, more);
    few = few;
    spelled =
        ap (list_all is_spelled_event) next_is ∙ list_all-append is_spelled_event (take i events) (event ∷ [])
        ∙ and_from (list_all is_spelled_event (take i events)) (list_all is_spelled_event (event ∷ [])) tested.spelled (and_from (is_spelled_event event) true spelled refl);
  }

  -- it can't be printed
  pub tested_not : (j : Journal) → j.history ≡ events → (why : PrintError) → ((why ≡ Unspelled) × IsFalse (is_spelled_event event)) ⊎ ((why ≡ TooMany) × (most_operations < done + length (order_of (event ∷ [])))) → IsNotPrinted j why
  tested_not j same why (inl unspelled) =
      subst (IsNotPrinted j) (sym unspelled.0) (ap (list_all is_spelled_event) same ∙ list_all_at is_spelled_event events i event (slice_get_within events i event at) (ap is_spelled_event (get_or_from_slice_get events i event event at) ∙ unspelled.1))
  tested_not j same why (inr many) =
      subst (IsNotPrinted j) (sym many.0) (
      let before = tested.count in
      let more = next_count in
      let rest : length (order_of (take (i + 1) events)) + length (order_of (drop (i + 1) events)) ≡ length (order_of events) =
      sym (length-append (order_of (take (i + 1) events)) (order_of (drop (i + 1) events))) ∙ ap length (sym (order_append (take (i + 1) events) (drop (i + 1) events))) ∙ ap (λ (es : List Event). length (order_of es)) (take-append-drop (i + 1) events) in
      let all = ap (λ (es : List Event). length (order_of es)) same in
      let low = many.1 in
      omega (arith, before, more, rest, all, low)
      )

-- all were tested
pub tested_all : (j : Journal) (events : List Event) (i done : ℕ) → j.history ≡ events → length events ≤ i → AreTested (take i events) done → CanBeTraced j
tested_all j events i done same over tested =
    let all : take i events ≡ j.history = take_all i events over ∙ sym same in
    record {
      spelled = ap (list_all is_spelled_event) (sym all) ∙ tested.spelled;
      few = let count = tested.count in let few = tested.few in let whole = ap (λ (es : List Event). length (order_of es)) all in omega (arith, count, few, whole);
    }
