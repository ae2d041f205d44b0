-- What goes at the end of a collection is what its numbers tell.
use Rattle.std.proofs.Common.{◌≡◌, ℕ, ◌+◌, not, suc, Bool, true, false, cond, refl, sym, ap, ◌∙◌, List, [], ◌∷◌, filter, length, arith}
use Rattle.std.proofs.lemmas.Bool.{false≢true, or_left}
use Rattle.k_types.specs.declared.names.Heap.{Heap}
use Rattle.k_types.specs.declared.event.Event.TheVariants.{Ended}
use Rattle.k_types.specs.Names.{heap_eq}
use Rattle.k_types.specs.Totals.{total}
use Rattle.k_types.specs.Trace.{Trace}
use Rattle.k_types.specs.State.{State, Object}
use Rattle.k_types.specs.Owners.{bytes_by, object_bytes, owner_of}
use Rattle.k_types.specs.Updates.{close_scan, keep_exits, keep_objects, keep_shares}
use Rattle.k_types.specs.Effects.{after_ended, exit_stays, share_stays, step, survives}
use Rattle.k_types.specs.Steps.{IsPossible}
use Rattle.k_types.proofs.Sums.{bit, count_is_total}
use Rattle.k_laws.specs.Kept.{GoesBy}

-- what a test keeps and what it drops are together all
length_parts : {A : Type 0} (q : A → Bool) (xs : List A) → length xs ≡ length (filter q xs) + length (filter (λ x. not (q x)) xs)
length_parts q [] = refl
length_parts q (x ∷ xs) = elim (q x) as (λ b. suc (length xs) ≡ length (cond b (x ∷ filter q xs) (filter q xs)) + length (cond (not b) (x ∷ filter (λ x. not (q x)) xs) (filter (λ x. not (q x)) xs))) [
  | true ↦ omega (arith, length_parts q xs)
  | false ↦ omega (arith, length_parts q xs)
]

sum_parts : {A : Type 0} (q : A → Bool) (xs : List A) → length xs ≡ length (filter q xs) + total (λ x. bit (not (q x))) xs
sum_parts q [] = refl
sum_parts q (x ∷ xs) = elim (q x) as (λ b. suc (length xs) ≡ length (cond b (x ∷ filter q xs) (filter q xs)) + (bit (not b) + total (λ x. bit (not (q x))) xs)) [
  | true ↦ omega (arith, sum_parts q xs)
  | false ↦ omega (arith, sum_parts q xs)
]

-- where whatever the second test drops passes the first
bytes_parts_step : (f : Object → ℕ) (p q : Object → Bool) (x : Object) (xs : List Object) → (p x ≡ false → q x ≡ true) →
    total f (filter p xs) ≡ total f (filter p (filter q xs)) + total f (filter (λ o. not (q o)) xs) →
    total f (filter p (x ∷ xs)) ≡ total f (filter p (filter q (x ∷ xs))) + total f (filter (λ o. not (q o)) (x ∷ xs))
bytes_parts_step f p q x xs stays ih =
    elim (q x) as (λ b. q x ≡ b → total f (filter p (x ∷ xs)) ≡ total f (filter p (cond b (x ∷ filter q xs) (filter q xs))) + total f (cond (not b) (x ∷ filter (λ o. not (q o)) xs) (filter (λ o. not (q o)) xs))) [
      | true ↦ λ e. elim (p x) as (λ c. total f (cond c (x ∷ filter p xs) (filter p xs)) ≡ total f (cond c (x ∷ filter p (filter q xs)) (filter p (filter q xs))) + total f (filter (λ o. not (q o)) xs)) [
        | true ↦ omega (arith, ih)
        | false ↦ ih
      ]
      | false ↦ λ e. elim (p x) as (λ c. p x ≡ c → total f (cond c (x ∷ filter p xs) (filter p xs)) ≡ total f (filter p (filter q xs)) + (f x + total f (filter (λ o. not (q o)) xs))) [
        | true ↦ λ t. omega (arith, ih)
        | false ↦ λ t. absurd (false≢true (sym e ∙ stays t))
      ] refl
    ] refl

bytes_parts : (f : Object → ℕ) (p q : Object → Bool) → ((x : Object) → p x ≡ false → q x ≡ true) → (xs : List Object) →
    total f (filter p xs) ≡ total f (filter p (filter q xs)) + total f (filter (λ o. not (q o)) xs)
bytes_parts f p q stays [] = refl
bytes_parts f p q stays (x ∷ xs) = bytes_parts_step f p q x xs (stays x) (bytes_parts f p q stays xs)

stays_elsewhere : (trace : Trace) (st : State) (h : Heap) (o : Object) → heap_eq (owner_of trace st o.name.seg.0) h ≡ false → survives trace st h o.name ≡ true
unfolding survives
stays_elsewhere trace st h o apart = or_left _ _ (ap not apart)

pub numbers_are_right : (trace : Trace) (st : State) (h : Heap) (objects bytes exits shares : ℕ) → IsPossible trace st (Ended h objects bytes exits shares) →
    GoesBy trace st (step trace st (Ended h objects bytes exits shares)) h objects bytes exits shares
unfolding step after_ended keep_objects keep_exits keep_shares close_scan bytes_by
numbers_are_right trace st h objects bytes exits shares may = record {
  objects_gone = length_parts (λ o. survives trace st h o.name) st.objects ∙ ap (λ n. length (filter (λ o. survives trace st h o.name) st.objects) + n) (sym may.objects_gone);
  bytes_gone =
      bytes_parts object_bytes (λ o. heap_eq (owner_of trace st o.name.seg.0) h) (λ o. survives trace st h o.name) (stays_elsewhere trace st h) st.objects
      ∙ ap (λ n. total object_bytes (filter (λ o. heap_eq (owner_of trace st o.name.seg.0) h) (filter (λ o. survives trace st h o.name) st.objects)) + n) (sym may.bytes_gone);
  exits_gone = sum_parts (exit_stays trace st h) st.exits ∙ ap (λ n. length (filter (exit_stays trace st h) st.exits) + n) (sym (may.exits_gone ∙ count_is_total (λ e. not (exit_stays trace st h e)) st.exits));
  shares_gone = sum_parts (share_stays trace st h) st.shares ∙ ap (λ n. length (filter (share_stays trace st h) st.shares) + n) (sym (may.shares_gone ∙ count_is_total (λ e. not (share_stays trace st h e)) st.shares));
}
