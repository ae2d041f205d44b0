-- The end of a collection is possible with the numbers that it has, and no others.
use Rattle.std.proofs.Common.{◌≡◌, ◌↔◌, ◌∙◌, ℕ, Bool, ap, sym, subst, Result, Ok, Err}
use Rattle.std.specs.Prelude.{IfOk, IsTrue}
use Rattle.k_types.specs.declared.no_memory.NoMemory.{NoMemory}
use Rattle.k_types.specs.declared.names.Heap.{Heap}
use Rattle.k_types.specs.declared.event.Event.{Event}
use Rattle.k_types.specs.declared.event.Event.TheVariants.{Ended}
use Rattle.k_types.specs.Effects.{after_ended, step}
use Rattle.k_types.specs.FileOrder.{end_of}
use Rattle.k_types.specs.State.{State, is_scanned}
use Rattle.k_types.specs.Steps.{IsPossible, MayEnd}
use Rattle.k_types.specs.Trace.{Trace}

end_is : (trace : Trace) (st : State) (h : Heap) (objects bytes exits shares : ℕ) → MayEnd trace st h objects bytes exits shares →
    Ended h objects bytes exits shares ≡ end_of trace st h
end_is trace st h objects bytes exits shares may = cc (may.objects_gone, may.bytes_gone, may.exits_gone, may.shares_gone)

may_end : (trace : Trace) (st : State) (h : Heap) (objects bytes exits shares : ℕ) → IsTrue (is_scanned st.scans h) →
    Ended h objects bytes exits shares ≡ end_of trace st h → MayEnd trace st h objects bytes exits shares
may_end trace st h objects bytes exits shares scanned is = record { scanned = scanned; objects_gone = cc; bytes_gone = cc; exits_gone = cc; shares_gone = cc }

-- what was asked of the numbers is whether the event is possible
pub end_answers : (trace : Trace) (st : State) (event : Event) (h : Heap) (objects bytes exits shares : ℕ) (result : Result Bool NoMemory) →
    event ≡ Ended h objects bytes exits shares →
    IfOk result (λ may. IsTrue may ↔ (IsTrue (is_scanned st.scans h) × (event ≡ end_of trace st h))) →
    IfOk result (λ may. IsTrue may ↔ IsPossible trace st event)
end_answers trace st event h objects bytes exits shares (Err e) is asked = tt
end_answers trace st event h objects bytes exits shares (Ok may) is asked =
    subst (λ (e : Event). IsTrue may ↔ IsPossible trace st e) (sym is)
    (let here : IsTrue may ↔ (IsTrue (is_scanned st.scans h) × (Ended h objects bytes exits shares ≡ end_of trace st h))
    = subst (λ (e : Event). IsTrue may ↔ (IsTrue (is_scanned st.scans h) × (e ≡ end_of trace st h))) is asked in (
      λ on. let both = here.0 on in may_end trace st h objects bytes exits shares both.0 both.1,
      λ possible. here.1 (possible.scanned, end_is trace st h objects bytes exits shares possible),
    ))

-- and leaves what the machine's step leaves
pub end_steps : (trace : Trace) (st now : State) (event : Event) (h : Heap) (objects bytes exits shares : ℕ) (result : Result Bool NoMemory) →
    event ≡ Ended h objects bytes exits shares → IfOk result (λ had. IsTrue had → now ≡ after_ended trace h st) →
    IfOk result (λ had. IsTrue had → now ≡ step trace st event)
unfolding step
end_steps trace st now event h objects bytes exits shares (Err e) is ended = tt
end_steps trace st now event h objects bytes exits shares (Ok had) is ended = λ on. ended on ∙ ap (step trace st) (sym is)
