-- What a resize that isn't refused leaves.
use Rattle.std.proofs.Common.{◌≡◌, ℕ, refl, sym, Option, Some, None, subst, not}
use Rattle.std.specs.List.{list_all}
use Rattle.std.proofs.lemmas.Bool.{and_parts, not-true}
use Rattle.k_types.specs.declared.names.Pid.{Pid}
use Rattle.k_types.specs.declared.names.LimitId.{LimitId}
use Rattle.k_types.specs.declared.op.Op.TheVariants.{Resize}
use Rattle.k_types.specs.declared.event.Fault.{Fault}
use Rattle.k_types.specs.declared.event.Reply.TheVariants.{Done as DoneReply}
use Rattle.k_types.specs.declared.event.Event.TheVariants.{Done}
use Rattle.k_types.specs.Trace.{Trace}
use Rattle.k_types.specs.TraceRules.{AreLimits}
use Rattle.k_types.specs.State.{State, is_scanned}
use Rattle.k_types.specs.Owners.{user}
use Rattle.k_types.specs.Updates.{count_done, set_max}
use Rattle.k_types.specs.Replies.{first_fault, faults, answer, reply_to, refused_or}
use Rattle.k_types.specs.Effects.{step, effect, effect_unless, after_operation}
use Rattle.k_types.specs.Cells.{cells_touched, other_cells}
use Rattle.k_types.specs.Steps.{IsPossible}
use Rattle.k_types.specs.Sound.{IsSound}
use Rattle.k_laws.specs.Resizing.{MovesTheReservation}
use Rattle.k_types.proofs.Lists.{none_is}
use Rattle.k_laws.proofs.SoundEffects.{may_resize_of}
use Rattle.k_laws.proofs.SoundResized.{moves_the_reservation}

-- an operation that is answered so is refused for nothing
none_at_fault : (f : Option Fault) → DoneReply ≡ refused_or f DoneReply → f ≡ None
none_at_fault None e = refl
none_at_fault (Some fault) e = absurd (cc e)

pub resize_event : (trace : Trace) (st : State) (pid : Pid) (limit : LimitId) (max : ℕ) → AreLimits trace → IsSound trace st → IsPossible trace st (Done pid (Resize limit max) DoneReply) →
    MovesTheReservation trace st limit.0 max (step trace st (Done pid (Resize limit max) DoneReply))
unfolding step after_operation effect count_done reply_to answer cells_touched
resize_event trace st pid limit max rules_hold sound may =
    let fine = none_at_fault (first_fault (faults trace st pid.0 (Resize limit max))) may.replied in
    let idle = and_parts (not (is_scanned st.scans (user pid.0))) (list_all (λ c. not (is_scanned st.scans c)) (other_cells trace st pid.0 (Resize limit max))) may.idle in
    let can = may_resize_of trace rules_hold st pid sound limit max (record { known = may.known; lives = may.lives; in_range = may.in_range; idle = none_is _ (not-true _ idle.0); others = idle.1; fine = fine }) in
    let moves = moves_the_reservation trace rules_hold st limit.0 max can.known sound.shape.sized.maxima can.parent can.below in
    let counted : MovesTheReservation trace st limit.0 max (count_done pid.0 (set_max limit.0 max st)) = record { own = moves.own; others = moves.others; uses = moves.uses; charges = moves.charges } in
    subst (λ f. MovesTheReservation trace st limit.0 max (count_done pid.0 (effect_unless f trace pid.0 (Resize limit max) st))) (sym fine) counted
