-- The snapshot of the state that a whole trace leaves is found sound: the numbers of such a state are in range.
use Rattle.std.proofs.Common.{ℕ, zero, suc, ◌+◌, ◌*◌, ◌^◌, ◌<◌, ◌≤◌, List, [], ◌∷◌, map, length, get_or, Option, sym, subst, arith}
use Rattle.std.specs.List.{AllByRecursion}
use Rattle.k_types.specs.declared.event.Event.{Event}
use Rattle.k_types.specs.declared.names.Heap.{Heap}
use Rattle.k_types.specs.declared.names.Heap.TheVariants.{Kernel}
use Rattle.k_types.specs.Bounds.{maximum_below}
use Rattle.k_types.specs.Complete.{IsComplete}
use Rattle.k_types.specs.Limits.{use_of}
use Rattle.k_types.specs.Names.{heap_eq}
use Rattle.k_types.specs.Numbers.{numbers_from}
use Rattle.k_types.specs.Owners.{bytes_by, bytes_of, charge_of, object_bytes, owner_of, shared}
use Rattle.k_types.specs.Replies.{number_in}
use Rattle.k_types.specs.Sound.{IsSound}
use Rattle.k_types.specs.State.{Content, Holds, Object, Refers, State, fields_of, opening}
use Rattle.k_types.specs.Steps.{IsLegalHistory, state_after}
use Rattle.k_types.specs.Totals.{total}
use Rattle.k_types.specs.Trace.{process_count}
use Rattle.k_trace.specs.Named.{NamedTrace}
use Rattle.k_trace.specs.Rules.{IsTrace}
use Rattle.k_laws.proofs.SoundSteps.{legal_sound}
use Rattle.k_laws.specs.Fits.{AreAtMostTheSerials, NumbersFit}
use Rattle.k_laws.proofs.KnownLaws.{maxima_fit, numbers_fit, objects_are_at_most_the_serials}
use Rattle.k_state.specs.Setups.{setup_of}
use Rattle.k_check.proofs.Lines.{setup_rules}
use Rattle.k_check.proofs.Unread.{legal_unread, run_unread}
use Rattle.k_big.proofs.Charges.{charges_small}
use Rattle.k_audit.specs.Grammar.{IsNumber}
use Rattle.k_audit.specs.Ranges.{HoldsNumber, IsInRange}
use Rattle.k_audit.specs.Snapshots.{snapshot_text}
use Rattle.k_audit.specs.Verdicts.{IsVerdict}
use Rattle.k_audit.specs.declared.verdicts.Verdict.TheVariants.{Sound}
use Rattle.k_audit.proofs.FoundSound.{found_sound}
use Rattle.k_audit.proofs.Sayable.{all_found, at_place, by_place}
use Rattle.k_audit.proofs.Setups.{setup_alone}
use Rattle.k_audit.proofs.Written.{max_at}
use Rattle.k_state.proofs.Totals.{fewer}

-- ---- lists of numbers

all_mapped : (f : ℕ → ℕ) (first count : ℕ) → ((k : ℕ) → k < first + count → IsNumber (f k)) → AllByRecursion IsNumber (map f (numbers_from first count))
all_mapped f first zero each = tt
all_mapped f first (suc count) each = (each first (omega arith), all_mapped f (suc first) count (λ k inside. each k (omega (arith, inside))))

-- where a sum is a number of 64 bits each part of it is
sum_mapped : (f : ℕ → ℕ) (first count : ℕ) → total f (numbers_from first count) < 2 ^ 64 → AllByRecursion IsNumber (map f (numbers_from first count))
sum_mapped f first zero small = tt
sum_mapped f first (suc count) small = (omega (arith, small), sum_mapped f (suc first) count (omega (arith, small)))

few_given : (xs : List ℕ) → AllByRecursion (λ n. n ≤ 200001) xs → total (λ n. n) xs ≤ 200001 * length xs
few_given [] few = omega arith
few_given (x ∷ xs) few = let here = few.0 in let rest = few_given xs few.1 in omega (arith, here, rest)

holds_number : (c : Content) → number_in c < 2 ^ 64 → HoldsNumber c
holds_number (Refers r) small = tt
holds_number (Holds n) small = small

-- ---- the state that a trace leaves

module _ (t : NamedTrace) (history : List Event) (is : IsTrace t) (legal : IsLegalHistory t.trace history) (complete : IsComplete t.trace history) where
  abbrev st : State
  st = state_after t.trace history

  sound : IsSound (setup_of t.trace) st
  sound =
      subst (IsSound (setup_of t.trace)) (sym (run_unread t.trace (opening t.trace) history))
      (legal_sound (setup_of t.trace) history (setup_rules t.trace is.rules).limits (legal_unread t.trace (opening t.trace) history legal))

  fit : NumbersFit history st
  fit = numbers_fit t.trace history is.rules.operations legal complete.in_order

  fields_small : AllByRecursion (λ o. AllByRecursion HoldsNumber o.fields) st.objects
  fields_small =
      all_found (λ o. AllByRecursion HoldsNumber o.fields) st.objects
      (λ n o at. by_place HoldsNumber (Holds 0) o.fields
      (λ i inside. holds_number (get_or o.fields i (Holds 0)) (subst (λ (found : Option Object). number_in (get_or (fields_of found) i (Holds 0)) < 2 ^ 64) at (fit.numbers n i)))) sound.names.ordered

  maxima_small : AllByRecursion (λ max. max < maximum_below) st.maxima
  maxima_small = maxima_fit t.trace history is.rules.limits legal

  bytes_few : total object_bytes st.objects < 2 ^ 64
  bytes_few =
      let most : AreAtMostTheSerials st = objects_are_at_most_the_serials t.trace history is.rules.limits (record { types = is.rules.fields; directory = is.rules.directory }) legal in
      let given = few_given st.made (by_place (λ n. n ≤ 200001) 0 st.made (λ segment inside. let low = fit.serials segment in omega (arith, low))) in
      omega (arith, most.objects, most.bytes, given, sound.shape.sized.made, is.rules.processes, is.rules.shared)

  heap_small : (h : Heap) → IsNumber (bytes_of (setup_of t.trace) st h)
  unfolding bytes_by
  heap_small h = let part = fewer (λ o. heap_eq (owner_of (setup_of t.trace) st o.name.seg.0) h) st.objects in omega (arith, part, bytes_few)

  use_small : (m : ℕ) → m < 0 + length t.trace.limits → IsNumber (use_of (setup_of t.trace) st m)
  use_small m inside =
      let fits = sound.uses m (omega (arith, inside)) in
      let max = max_at t.trace.limits st.maxima m sound.shape.sized.maxima (omega (arith, inside, sound.shape.sized.maxima)) in
      let low = at_place (λ k. k < maximum_below) 0 st.maxima m (omega arith) maxima_small in
      omega (arith, fits, max, low)

  in_range : IsInRange (setup_of t.trace) st
  in_range = record {
    made = by_place (λ n. n < 2 ^ 32) 0 st.made (λ segment inside. let low = fit.serials segment in omega (arith, low));
    fields = fields_small;
    maxima = maxima_small;
    claims = record {
      kernel = heap_small Kernel;
      ceiling = let low = is.rules.ceiling in omega (arith, low);
      uses = all_mapped (use_of (setup_of t.trace) st) 0 (length t.trace.limits) use_small;
      charges = sum_mapped (charge_of (setup_of t.trace) st) 0 (process_count t.trace) (charges_small t.trace history is.rules legal);
      shared_bytes = all_mapped (λ s. bytes_of (setup_of t.trace) st (shared s)) 0 t.trace.shared_heaps (λ s inside. heap_small (shared s));
    };
  }

  pub snapshot_found : IsVerdict t.names (setup_of t.trace) (snapshot_text t.names t.trace st) Sound
  snapshot_found = subst (λ text. IsVerdict t.names (setup_of t.trace) text Sound) (setup_alone t.names t.trace [] [] st) (found_sound (setup_of t.trace) st sound in_range t.names)
