-- The shape of a state after a change: objects stay typed and placed, and who has ended or populates stays declared.
use Rattle.std.proofs.Common.{◌≡◌, ℕ, ◌<◌, zero, suc, Bool, true, false, cond, refl, sym, ap, ◌∙◌, inl, inr, List, [], ◌∷◌, map, filter, Option, Some, None, option_map, get_or, set, subst, IsFalse}
use Rattle.k_types.specs.declared.names.Name.{Name}
use Rattle.k_types.specs.declared.names.Pid.{Pid}
use Rattle.k_types.specs.declared.names.Field.{Field}
use Rattle.k_types.specs.declared.names.Field.TheVariants.{Ref, Int}
use Rattle.k_types.specs.declared.names.Phase.{Phase}
use Rattle.k_types.specs.declared.names.Phase.TheVariants.{Unmade, Populating}
use Rattle.k_types.specs.Names.{name_eq}
use Rattle.k_types.specs.Trace.{Trace, process_count}
use Rattle.k_types.specs.State.{Object, Content, Holds, object_at, has, fields_of, field_kind, fresh}
use Rattle.k_types.specs.Updates.{with_object, object_after_write}
use Rattle.k_types.specs.Sound.{IsTyped, AreTyped, AreDeclared}
use Rattle.k_types.proofs.NameTests.{name_eq-true}
use Rattle.k_types.proofs.Objects.{object_at-placed, object_at-written, object_at-kept, found_name}
use Rattle.k_types.proofs.Lists.{get_or-set_cases}

-- the kinds of the fields stay where a field gets what is of its kind
pub kinds_kept : (fields : List Content) (i : ℕ) (c : Content) → field_kind c ≡ field_kind (get_or fields i (Holds 0)) → map field_kind (set fields i c) ≡ map field_kind fields
kinds_kept [] i c e = refl
kinds_kept (x ∷ xs) zero c e = ap (λ k. k ∷ map field_kind xs) e
kinds_kept (x ∷ xs) (suc i) c e = ap (λ ks. field_kind x ∷ ks) (kinds_kept xs i c e)

-- fresh fields are of their kinds
pub kinds_fresh : (kinds : List Field) → map field_kind (map fresh kinds) ≡ kinds
kinds_fresh [] = refl
kinds_fresh (Ref ∷ kinds) = ap (λ ks. Ref ∷ ks) (kinds_fresh kinds)
kinds_fresh (Int ∷ kinds) = ap (λ ks. Int ∷ ks) (kinds_fresh kinds)

-- the objects that are kept stay typed
pub typed-kept : (trace : Trace) (stays : Name → Bool) (objects : List Object) → AreTyped trace objects → AreTyped trace (filter (λ o. stays o.name) objects)
typed-kept trace stays objects typed n o found = go (stays n) (sym (object_at-kept stays objects n) ∙ found)
  where
    go : (b : Bool) → cond b (object_at objects n) None ≡ Some o → IsTyped trace o
    go true e = typed n o e
    go false e = absurd (cc e)

-- one more object that is typed
pub typed-placed : (trace : Trace) (o : Object) (objects : List Object) → IsFalse (has objects o.name) → IsTyped trace o → AreTyped trace objects → AreTyped trace (with_object o objects)
typed-placed trace o objects new is typed n x found = go (name_eq o.name n) (sym (object_at-placed o objects n new) ∙ found)
  where
    go : (b : Bool) → cond b (Some o) (object_at objects n) ≡ Some x → IsTyped trace x
    go true e = let same : o ≡ x = cc e in subst (IsTyped trace) same is
    go false e = typed n x e

-- an object of which a field gets what is of its kind
pub typed-written : (trace : Trace) (x : Name) (i : ℕ) (c : Content) (objects : List Object) →
    field_kind c ≡ field_kind (get_or (fields_of (object_at objects x)) i (Holds 0)) → AreTyped trace objects → AreTyped trace (map (object_after_write x i c) objects)
typed-written trace x i c objects kind typed n y found = go (object_at objects n) refl (sym (object_at-written x i c objects n) ∙ found)
  where
    after : (o : Object) → object_at objects n ≡ Some o → (b : Bool) → name_eq o.name x ≡ b → IsTyped trace (cond b (record o { fields = set o.fields i c }) o)
    after o at false e = typed n o at
    after o at true e =
        let is : IsTyped trace o = typed n o at in
        let here : object_at objects x ≡ Some o = ap (object_at objects) (sym (name_eq-true o.name x e) ∙ found_name objects n o at) ∙ at in
        record {
          declared = is.declared;
          untyped = is.untyped;
          kinds = kinds_kept o.fields i c (kind ∙ ap (λ found. field_kind (get_or (fields_of found) i (Holds 0))) here) ∙ is.kinds;
        }

    go : (o : Option Object) → object_at objects n ≡ o → option_map (object_after_write x i c) o ≡ Some y → IsTyped trace y
    go None at e = absurd (cc e)
    go (Some o) at e = let same : object_after_write x i c o ≡ y = cc e in subst (IsTyped trace) same (after o at (name_eq o.name x) refl)

-- whoever has ended or populates is declared after a phase was set that names a declared process
pub declared-phase : (trace : Trace) (ended : List ℕ) (phases : List Phase) (s : ℕ) (phase : Phase) → ((q : Pid) → phase ≡ Populating q → q.0 < process_count trace) →
    AreDeclared trace ended phases → AreDeclared trace ended (set phases s phase)
declared-phase trace ended phases s phase named declared = record {
  ended = declared.ended;
  populating = λ t q e. elim (get_or-set_cases phases s t phase Unmade) [
    | inl same ↦ declared.populating t q (sym same ∙ e)
    | inr here ↦ named q (sym here.1 ∙ e)
  ];
}
