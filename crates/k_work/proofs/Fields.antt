-- How many fields the objects of a sound state have.
use Rattle.std.proofs.Common.{◌+◌, ◌*◌, ◌≤◌, Bool, true, false, cond, ap, List, [], ◌∷◌, Option, Some, None, filter, length, arith}
use Rattle.std.proofs.lemmas.List.{length-map, length-replicate}
use Rattle.std.proofs.lemmas.List.Sums.{count_by-le-length}
use Rattle.std.specs.List.{AllByRecursion}
use Rattle.k_types.specs.declared.names.Heap.{Heap}
use Rattle.k_types.specs.declared.names.TypeId.{TypeId}
use Rattle.k_types.specs.declared.names.Field.TheVariants.{Ref}
use Rattle.k_types.specs.Names.{heap_eq}
use Rattle.k_types.specs.Owners.{owner_of}
use Rattle.k_types.specs.Sound.{IsSound, kinds_by}
use Rattle.k_types.specs.State.{Object, State, field_kind}
use Rattle.k_types.specs.Totals.{total}
use Rattle.k_types.specs.Trace.{Trace}
use Rattle.k_types.proofs.Ordered.{all_found}
use Rattle.k_plain.specs.Owned.{is_reference, references_in}
use Rattle.k_state.specs.Setups.{AreSetupRules}
use Rattle.k_work.specs.Credits.{work_in}

few_kinds : (trace : Trace) (ty : Option TypeId) → AreSetupRules trace → length (kinds_by trace ty) ≤ 16
few_kinds trace None rules = let dir = rules.directory in omega (arith, dir, length-replicate trace.dir_fields Ref)
few_kinds trace (Some ty) rules = rules.fields ty

few_fields : (trace : Trace) (st : State) → AreSetupRules trace → IsSound trace st → AllByRecursion (λ (o : Object). length o.fields ≤ 16) st.objects
few_fields trace st rules sound =
    all_found (λ (o : Object). length o.fields ≤ 16) st.objects
    (λ n o at. let typed = sound.shape.typed n o at in omega (arith, length-map o.fields field_kind, ap (λ ks. length ks) typed.kinds, few_kinds trace o.ty rules))
    sound.names.ordered

work_within : (keep : Object → Bool) (xs : List Object) → AllByRecursion (λ (o : Object). length o.fields ≤ 16) xs → length (filter keep xs) + total references_in (filter keep xs) ≤ 17 * length xs
work_within keep [] few = omega arith
work_within keep (x ∷ xs) few =
    let rest = work_within keep xs few.1 in
    let here : references_in x ≤ length x.fields = count_by-le-length is_reference x.fields in
    let low = few.0 in
    elim (keep x) as (λ b. length (cond b (x ∷ filter keep xs) (filter keep xs)) + total references_in (cond b (x ∷ filter keep xs) (filter keep xs)) ≤ 17 * length (x ∷ xs)) [
      | true ↦ omega (arith, rest, here, low)
      | false ↦ omega (arith, rest)
    ]

-- the work of a collection that leaves a sound state
pub work_low : (trace : Trace) (st : State) (h : Heap) → AreSetupRules trace → IsSound trace st → work_in trace st h ≤ 17 * length st.objects
work_low trace st h rules sound = work_within (λ (o : Object). heap_eq (owner_of trace st o.name.seg.0) h) st.objects (few_fields trace st rules sound)
