use Rattle.std.proofs.Common.{IsTrue, inl, inr, subst, ◌↔◌, ◌≡◌}
use Rattle.k_types.specs.declared.names.CellPhase.{CellPhase}
use Rattle.k_types.specs.declared.names.CellPhase.TheVariants.{Idle}
use Rattle.k_calls.proofs.Refused.{lacks}
use Rattle.k_calls.specs.declared.errors.HostError.TheVariants.{Full, Phase}
use Rattle.k_calls.specs.k_guests.Serving.{basis_of}
use Rattle.k_ends.specs.Killing.{HasRoomToKill}
use Rattle.k_ends.proofs.killing.ready_to_end.Goals as goal

pub returns-then-not-is_idle-clause-why : goal.returns-then-not-is_idle-clause-why
returns-then-not-is_idle-clause-why c =
    inl (lacks Phase (c.args.target.now.cell.value.collection ≡ Idle) c.is_idle.result
    (subst (λ (phase : CellPhase). IsTrue c.is_idle.result ↔ (phase ≡ Idle)) c.phase.ensures c.is_idle.ensures) c.if-not-is_idle.true)

pub returns-then-not-is_idle-2-clause-why : goal.returns-then-not-is_idle-2-clause-why
returns-then-not-is_idle-2-clause-why c =
    inr (inl (lacks Phase (c.args.kernel.now.value.collection ≡ Idle) c.is_idle-2.result
    (subst (λ (phase : CellPhase). IsTrue c.is_idle-2.result ↔ (phase ≡ Idle)) c.phase-2.ensures c.is_idle-2.ensures) c.if-not-is_idle-2.true))

pub returns-then-not-has_room_to_kill-clause-why : goal.returns-then-not-has_room_to_kill-clause-why
returns-then-not-has_room_to_kill-clause-why c =
    inr (inr (lacks Full (HasRoomToKill (basis_of c.args.terms.now) c.args.guest.now c.args.target.now c.args.book.now) c.has_room_to_kill.result c.has_room_to_kill.ensures c.if-not-has_room_to_kill.true))
