-- What a view gives names only what the trace declares, and no process is charged more than is used at its limit.
use Rattle.std.proofs.Common.{◌≡◌, ℕ, ◌<◌, ◌||◌, cond, Bool, true, false, refl, ap, subst, sym, ◌∙◌, List, [], ◌∷◌, find, Option, Some, None, arith, ◌^◌}
use Rattle.std.specs.Prelude.{IfSome, IsTrue, option_map}
use Rattle.std.proofs.lemmas.Bool.{or_left, or_right}
use Rattle.k_types.specs.declared.names.Name.{Name}
use Rattle.k_types.specs.Names.{name_eq}
use Rattle.k_types.specs.Trace.{Trace, limit_of, process_count}
use Rattle.k_types.specs.TraceRules.{KeepsRules}
use Rattle.k_types.specs.State.{Object, State, has}
use Rattle.k_types.specs.Owners.{charge_of}
use Rattle.k_types.specs.Replies.{field_at, reference}
use Rattle.k_types.specs.Sound.{IsSound}
use Rattle.k_types.specs.Known.{IsKnownName}
use Rattle.k_types.proofs.NameTests.{name_eq_refl}
use Rattle.k_text.specs.Shown.{comes_after, next_name_after}
use Rattle.k_types.proofs.Charges.{charge_at_most}
use Rattle.k_types.specs.declared.event.Event.{Event}
use Rattle.k_types.specs.Steps.{IsLegalHistory, state_after}
use Rattle.k_laws.proofs.SoundSteps.{legal_sound}
use Rattle.k_laws.proofs.KnownMaxima.{max_small}
use Rattle.k_laws.proofs.Replied.{field_refers}

-- an object lies in a segment of the trace
pub object_known : (trace : Trace) (st : State) → IsSound trace st → (n : Name) → IsTrue (has st.objects n) → IsKnownName trace n
object_known trace st sound n there = (sound.shape.placed n there).1

-- so does what a field refers to
pub field_known : (trace : Trace) (st : State) → IsSound trace st → (x : Name) (i : ℕ) (y : Name) → reference (field_at st x i) ≡ Some y → IsKnownName trace y
field_known trace st sound x i y e = object_known trace st sound y (sound.no_dangling.fields x y (field_refers st x i y e))

find_has : (test : Object → Bool) (xs : List Object) (o : Object) → find test xs ≡ Some o → has xs o.name ≡ true
find_has test [] o found = grind arith
find_has test (x ∷ xs) o found = go (test x) (find_has test xs o) found
  where
    go : (b : Bool) → (find test xs ≡ Some o → has xs o.name ≡ true) → cond b (Some x) (find test xs) ≡ Some o → (name_eq x.name o.name || has xs o.name) ≡ true
    go true later is = let same : x ≡ o = cc in or_left (name_eq x.name o.name) (has xs o.name) (ap (λ (y : Object). name_eq x.name y.name) (sym same) ∙ name_eq_refl x.name)
    go false later is = or_right (name_eq x.name o.name) (has xs o.name) (later is)

-- and the next object's name
pub next_known : (trace : Trace) (st : State) → IsSound trace st → (after next : Option Name) → next ≡ next_name_after after st.objects → IfSome next (IsKnownName trace)
next_known trace st sound after next is = subst (λ (r : Option Name). IfSome r (IsKnownName trace)) (sym is) (go (find (comes_after after) st.objects) refl)
  where
    go : (o : Option Object) → find (comes_after after) st.objects ≡ o → IfSome (option_map (λ (x : Object). x.name) o) (IsKnownName trace)
    go None e = tt
    go (Some o) e = object_known trace st sound o.name (find_has (comes_after after) st.objects o e)

-- a process is charged less than 2^40
pub charge_small : (trace : Trace) (history : List Event) (p : ℕ) → KeepsRules trace → IsLegalHistory trace history → p < process_count trace → charge_of trace (state_after trace history) p < 2 ^ 40
charge_small trace history p rules legal known =
    let limited = rules.limits.limited p known in
    let charge = charge_at_most trace (state_after trace history) p known rules.limits in
    let used = (legal_sound trace history rules.limits legal).uses (limit_of trace p) limited in
    let small = max_small trace history rules.limits legal (limit_of trace p) limited in
    omega (arith, charge, used, small)
