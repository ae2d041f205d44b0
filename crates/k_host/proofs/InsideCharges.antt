-- What a process does inside its heap charges nothing.
use Rattle.std.proofs.Common.{◌≡◌, ℕ, ◌==◌, Bool, true, false, cond, refl, ap, ◌∙◌, List, [], ◌∷◌, ◌++◌, Option, Some, None, arith, IsTrue}
use Rattle.std.proofs.lemmas.Bool.{false≢true}
use Rattle.k_types.specs.declared.event.Event.{Event}
use Rattle.k_types.specs.declared.event.Event.TheVariants.{Absorbed, Closing, Done, Ended}
use Rattle.k_types.specs.declared.event.Fault.{Fault}
use Rattle.k_types.specs.declared.op.Op.{Op}
use Rattle.k_types.specs.declared.op.Op.TheVariants.{Store, Load, Move, Clear, Put, Get}
use Rattle.k_types.specs.Effects.{step}
use Rattle.k_types.specs.Local.{AreLocal, is_local}
use Rattle.k_types.specs.Owners.{charge_of}
use Rattle.k_types.specs.Replies.{faults, first_fault}
use Rattle.k_types.specs.Sound.{IsSound}
use Rattle.k_types.specs.State.{State, opening}
use Rattle.k_types.specs.Steps.{IsLegalHistory, IsPossible, IsRun, run, state_after}
use Rattle.k_types.specs.Trace.{Trace}
use Rattle.k_types.specs.TraceRules.{AreLimits, ends_a_process}
use Rattle.k_laws.proofs.Histories.{legal_rest, run_append}
use Rattle.k_laws.specs.Charges.{bytes_added, bytes_charged, charged_unless}
use Rattle.k_laws.proofs.Laws.{operations_charge_their_process-charged}
use Rattle.k_laws.proofs.SoundSteps.{legal_sound, run_sound}

-- a local operation ends no process and charges nothing
local_is_free : (trace : Trace) (st : State) (p n : ℕ) (op : Op) → IsTrue (is_local st p op) → (ends_a_process op ≡ false) × (bytes_charged trace st n op ≡ 0)
unfolding is_local
local_is_free trace st p n (Store base i value) local = (refl, refl)
local_is_free trace st p n (Load r base i) local = (refl, refl)
local_is_free trace st p n (Move r from) local = (refl, refl)
local_is_free trace st p n (Clear r) local = (refl, refl)
local_is_free trace st p n (Put base i number) local = (refl, refl)
local_is_free trace st p n (Get base i) local = (refl, refl)
local_is_free trace st p n _ local = absurd (false≢true local)

none_charged : (fault : Option Fault) (bytes : ℕ) → bytes ≡ 0 → charged_unless fault bytes ≡ 0
none_charged None bytes none = none
none_charged (Some fault) bytes none = refl

none_if : (b : Bool) (n : ℕ) → n ≡ 0 → cond b n 0 ≡ 0
none_if true n none = none
none_if false n none = refl

one_free : (trace : Trace) (st : State) (p q : ℕ) (event : Event) → IsSound trace st → IsPossible trace st event → AreLocal trace p st (event ∷ []) → charge_of trace (step trace st event) q ≡ charge_of trace st q
one_free trace st p q (Done pid op said) sound possible local =
    let free = local_is_free trace st p pid.0 op local.1 in
    let charged = operations_charge_their_process-charged trace st pid op said sound possible free.0 q in
    let none = none_if (q == pid.0) (bytes_added trace st pid.0 op) (none_charged (first_fault (faults trace st pid.0 op)) (bytes_charged trace st pid.0 op) free.1) in
    omega (arith, charged, none)
one_free trace st p q (Ended h a b c d) sound possible local = absurd local
one_free trace st p q (Absorbed s) sound possible local = absurd local
one_free trace st p q Closing sound possible local = absurd local

all_free : (trace : Trace) (limits : AreLimits trace) (p q : ℕ) (st : State) (tail : List Event) → IsSound trace st → IsRun trace st tail → AreLocal trace p st tail → charge_of trace (run trace st tail) q ≡ charge_of trace st q
all_free trace limits p q st [] sound legal local = refl
all_free trace limits p q st (Done pid op said ∷ tail) sound legal local =
    all_free trace limits p q (step trace st (Done pid op said)) tail (run_sound trace limits st (Done pid op said ∷ []) sound (legal.0, tt)) legal.1 local.2
    ∙ one_free trace st p q (Done pid op said) sound legal.0 (local.0, local.1, tt)
all_free trace limits p q st (Ended h a b c d ∷ tail) sound legal local = absurd local
all_free trace limits p q st (Absorbed s ∷ tail) sound legal local = absurd local
all_free trace limits p q st (Closing ∷ tail) sound legal local = absurd local

-- so what is done inside the heap after a history leaves each charge as it was
pub inside_is_free : (trace : Trace) (limits : AreLimits trace) (p q : ℕ) (history tail : List Event) → IsLegalHistory trace (history ++ tail) → IsLegalHistory trace history → AreLocal trace p (state_after trace history) tail →
    charge_of trace (state_after trace (history ++ tail)) q ≡ charge_of trace (state_after trace history) q
inside_is_free trace limits p q history tail legal front local =
    ap (λ st. charge_of trace st q) (run_append trace (opening trace) history tail)
    ∙ all_free trace limits p q (state_after trace history) tail (legal_sound trace history limits front) (legal_rest trace (opening trace) history tail legal) local
