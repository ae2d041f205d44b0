-- Objects are at most the serials given, and of bounded size.
use Rattle.std.proofs.Common.{◌≡◌, ℕ, zero, suc, replicate, ◌+◌, ◌*◌, ◌<◌, ◌≤◌, true, false, cond, refl, sym, ap, ◌∙◌, inl, inr, List, [], ◌∷◌, map, length, Option, Some, None, get_or, arith, subst, IsTrue, ltb-true, nat_lt, ◌&&◌}
use Rattle.std.specs.List.{AllByRecursion}
use Rattle.std.proofs.lemmas.Bool.{and_parts, or_cases, false≢true, false_from_ne_true}
use Rattle.k_types.specs.declared.names.Name.{Name}
use Rattle.k_types.specs.declared.names.TypeId.{TypeId}
use Rattle.k_types.specs.declared.names.Field.TheVariants.{Ref}
use Rattle.k_types.specs.declared.names.Heap.TheVariants.{Shared}
use Rattle.k_types.specs.declared.op.Op.{Op}
use Rattle.k_types.specs.declared.op.Op.TheVariants.{New, KNew, SNew, Store, Put, Freeze, Kill}
use Rattle.k_types.specs.declared.event.Event.{Event}
use Rattle.k_types.specs.declared.event.Event.TheVariants.{Done, Ended, Absorbed, Closing}
use Rattle.k_types.specs.declared.event.Fault.{Fault}
use Rattle.k_types.specs.Bounds.{most_fields, register_count}
use Rattle.k_types.specs.Names.{name_eq, name_lt}
use Rattle.k_types.specs.Totals.{total}
use Rattle.k_types.specs.Types.{object_size}
use Rattle.k_types.specs.Trace.{Trace, kinds_of, process_count, segment_of}
use Rattle.k_types.specs.TraceRules.{AreLimits}
use Rattle.k_types.specs.State.{Object, State, field_kind, fresh, has, object_at, register}
use Rattle.k_types.specs.Owners.{object_bytes, user}
use Rattle.k_types.specs.Replies.{faults, first_fault}
use Rattle.k_types.specs.Updates.{add_share, clear_registers, close, close_scan, count_done, create, end_process, keep_exits, keep_objects, keep_shares, next_name, open_scan, set_phase, set_register, turn_exits, set_max}
use Rattle.k_types.specs.Effects.{after_absorbed, after_closing, after_end_of, after_ended, after_freeze, after_operation, after_put, after_store, effect, effect_unless, step, survives, after_kill}
use Rattle.k_types.specs.Steps.{IsLegalHistory, IsPossible, in_range, state_after}
use Rattle.k_types.specs.Sound.{IsOrdered, IsOrderedFrom, IsSized, IsTyped, kinds_by}
use Rattle.k_types.proofs.NameTests.{name_eq-true, name_eq_refl, name_lt_irrefl, name_lt_trans}
use Rattle.k_types.proofs.Objects.{has_found, length-placed}
use Rattle.k_laws.proofs.Histories.{history_induction, state_next}
use Rattle.k_laws.proofs.Rest.{freeze_rest, put_rest, store_rest, kill_rest}
use Rattle.k_laws.proofs.Sizes.{history_sized}
use Rattle.k_laws.proofs.SoundSteps.{legal_sound}
use Rattle.k_laws.specs.Fits.{AreAtMostTheSerials, FitsItsType, HasFewFields, serials_given}
use Rattle.k_types.proofs.Sums.{total_set}
use Rattle.k_types.proofs.Ordered.{ordered_tail}
use Rattle.std.proofs.lemmas.List.{length-map}
use Rattle.k_types.proofs.Lists.{length-kept}
use Rattle.k_laws.proofs.Effects.{stored_length, put_length}

-- the object has few fields
few_by : (trace : Trace) → HasFewFields trace → (ty : Option TypeId) → length (kinds_by trace ty) ≤ most_fields
few_by trace few None = omega (arith, replicated trace.dir_fields, few.directory)
  where
    replicated : (n : ℕ) → length (replicate n Ref) ≡ n
    replicated zero = refl
    replicated (suc n) = ap suc (replicated n)
few_by trace few (Some ty) = few.types ty

typed_fits : (trace : Trace) → HasFewFields trace → (o : Object) → IsTyped trace o → FitsItsType trace o
typed_fits trace few o typed = record { typed = typed; few = omega (arith, few_by trace few o.ty, ap length typed.kinds, length-map o.fields field_kind) }

pub object_fits : (trace : Trace) (history : List Event) (n : Name) (o : Object) → AreLimits trace → HasFewFields trace → IsLegalHistory trace history →
    object_at (state_after trace history).objects n ≡ Some o → FitsItsType trace o
object_fits trace history n o limits few legal found = typed_fits trace few o ((legal_sound trace history limits legal).shape.typed n o found)

-- what stands behind a name comes after it
comes_after : (m n : Name) (xs : List Object) → IsOrderedFrom m xs → IsTrue (has xs n) → IsTrue (name_lt m n)
comes_after m n [] t there = absurd (false≢true there)
comes_after m n (x ∷ xs) t there =
    elim (or_cases (name_eq x.name n) (has xs n) there) [
      | inl here ↦ subst (λ k. IsTrue (name_lt m k)) (name_eq-true x.name n here) t.0
      | inr later ↦ name_lt_trans m x.name n t.0 (comes_after x.name n xs t.1 later)
    ]

-- of objects in order each is the one that is found by its name
all_found : (P : Object → Type 0) (xs : List Object) → IsOrdered xs → ((n : Name) (o : Object) → object_at xs n ≡ Some o → P o) → AllByRecursion P xs
all_found P [] t each = tt
all_found P (x ∷ xs) t each = (
  each x.name x (ap (λ b. cond b (Some x) (object_at xs x.name)) (name_eq_refl x.name)),
  all_found P xs (ordered_tail x.name xs t) (λ n o found. each n o (ap (λ b. cond b (Some x) (object_at xs n)) (apart n o found) ∙ found)),
)
  where
    apart : (n : Name) (o : Object) → object_at xs n ≡ Some o → name_eq x.name n ≡ false
    apart n o found = false_from_ne_true _ (λ same. name_lt_irrefl n (subst (λ k. IsTrue (name_lt k n)) (name_eq-true x.name n same) (comes_after x.name n xs t (has_found xs n o found))))

few_bytes : (xs : List Object) → AllByRecursion (λ o. length o.fields ≤ most_fields) xs → total object_bytes xs ≤ object_size most_fields * length xs
few_bytes [] all = omega arith
few_bytes (x ∷ xs) all = omega (arith, all.0, few_bytes xs all.1)

-- so many objects at most
abbrev Within : State → Type 0
Within st = length st.objects ≤ serials_given st

module _ (trace : Trace) where
  same_within : (st after : State) → length after.objects ≤ length st.objects → after.made ≡ st.made → Within st → Within after
  same_within st after fewer made within = let same = ap (total (λ given. given)) made in omega (arith, fewer, same, within)

  new_within : (st : State) (seg : ℕ) (ty : TypeId) → seg < length st.made → Within st → Within (create seg ty (kinds_of trace ty) st)
  unfolding create
  new_within st seg ty inside within =
      let made = total_set (λ given. given) st.made seg (get_or st.made seg 0 + 1) 0 inside in
      omega (arith, made, within, length-placed (record { name = next_name seg st; ty = Some ty; fields = map fresh (kinds_of trace ty) }) st.objects)

  effect_within : (st : State) (p : ℕ) (op : Op) → IsSized trace st → p < process_count trace → IsTrue (in_range trace op) → Within st → Within (effect trace p op st)
  unfolding effect set_register open_scan add_share set_phase after_end_of end_process clear_registers keep_shares turn_exits in_range set_max
  effect_within st p (New r ty) sized known ranged within = new_within st (segment_of trace (user p)) ty (omega (arith, sized.made, known)) within
  effect_within st p (KNew r ty) sized known ranged within = new_within st 0 ty (omega (arith, sized.made)) within
  effect_within st p (SNew r s ty) sized known ranged within =
      let inside = ltb-true _ _ (and_parts (nat_lt r.0 register_count) (nat_lt s.0 trace.shared_heaps) (and_parts (nat_lt r.0 register_count && nat_lt s.0 trace.shared_heaps) (nat_lt ty.0 (length trace.types)) ranged).0).1 in
      new_within st (segment_of trace (Shared s)) ty (omega (arith, sized.made, inside)) within
  effect_within st p (Store base i value) sized known ranged within =
      same_within st (after_store trace (register st.registers p base.0) i (register st.registers p value.0) st) (omega (arith, stored_length trace st (register st.registers p base.0) i (register st.registers p value.0))) (ap (λ (s : State). s.made) (store_rest trace st (register st.registers p base.0) i (register st.registers p value.0))) within
  effect_within st p (Put base i number) sized known ranged within =
      same_within st (after_put (register st.registers p base.0) i number st) (omega (arith, put_length trace st (register st.registers p base.0) i number)) (ap (λ (s : State). s.made) (put_rest st (register st.registers p base.0) i number)) within
  effect_within st p (Freeze s root) sized known ranged within =
      let rest = freeze_rest st s.0 (register st.registers p root.0) in
      same_within st (after_freeze s.0 (register st.registers p root.0) st) (omega (arith, ap (λ (s : State). length s.objects) rest)) (ap (λ (s : State). s.made) rest) within
  effect_within st p (Kill q) sized known ranged within =
      let rest = kill_rest trace st q.0 in
      same_within st (after_kill trace q.0 st) (omega (arith, ap (λ (s : State). length s.objects) rest)) (ap (λ (s : State). s.made) rest) within
  effect_within st p _ sized known ranged within = within

  unless_within : (f : Option Fault) (st : State) (p : ℕ) (op : Op) → IsSized trace st → p < process_count trace → IsTrue (in_range trace op) → Within st → Within (effect_unless f trace p op st)
  unless_within None st p op sized known ranged within = effect_within st p op sized known ranged within
  unless_within (Some f) st p op sized known ranged within = within

  step_within : (st : State) (event : Event) → IsSized trace st → IsPossible trace st event → Within st → Within (step trace st event)
  unfolding step after_operation count_done after_ended after_absorbed after_closing close_scan keep_shares keep_exits keep_objects close set_phase open_scan
  step_within st (Done pid op said) sized may within = unless_within (first_fault (faults trace st pid.0 op)) st pid.0 op sized may.known may.in_range within
  step_within st (Ended h a b c d) sized may within = same_within st (after_ended trace h st) (length-kept (λ o. survives trace st h o.name) st.objects) refl within
  step_within st (Absorbed s) sized may within = within
  step_within st Closing sized may within = within

  history_within : (history : List Event) → IsLegalHistory trace history → Within (state_after trace history)
  history_within history legal = history_induction trace (λ h. Within (state_after trace h)) (omega arith)
      (λ h event before may within. subst Within (sym (state_next trace h event)) (step_within (state_after trace h) event (history_sized trace h) may within)) history legal

pub objects_bounded : (trace : Trace) (history : List Event) → AreLimits trace → HasFewFields trace → IsLegalHistory trace history → AreAtMostTheSerials (state_after trace history)
objects_bounded trace history limits few legal =
    let sound = legal_sound trace history limits legal in
    record {
      objects = history_within trace history legal;
      bytes = few_bytes (state_after trace history).objects
          (all_found (λ o. length o.fields ≤ most_fields) (state_after trace history).objects sound.names.ordered (λ n o found. (typed_fits trace few o (sound.shape.typed n o found)).few));
    }
