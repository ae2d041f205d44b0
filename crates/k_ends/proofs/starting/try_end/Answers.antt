use Rattle.std.proofs.Common.{IsTrue, inl, inr, subst, ◌↔◌, ◌≡◌}
use Rattle.k_types.specs.declared.names.CellPhase.{CellPhase}
use Rattle.k_types.specs.declared.names.CellPhase.TheVariants.{Marked}
use Rattle.k_heap.specs.Heaps.{has_ended_in}
use Rattle.k_calls.proofs.Refused.{lacks, lacks_lives}
use Rattle.k_calls.specs.Doing.{HasEventsLeft}
use Rattle.k_calls.specs.k_guests.Serving.{basis_of}
use Rattle.k_calls.specs.declared.errors.HostError.TheVariants.{Ended, Full, Phase}
use Rattle.k_ends.proofs.starting.try_end.Goals as goal

pub returns-then-not-lives-clause-why : goal.returns-then-not-lives-clause-why
returns-then-not-lives-clause-why c = inl (lacks_lives Ended (has_ended_in c.args.guest.now.cell.value.process) c.lives.result c.lives.ensures c.if-not-lives.true)

pub returns-then-not-is_marked-clause-why : goal.returns-then-not-is_marked-clause-why
returns-then-not-is_marked-clause-why c = inr (inl (lacks Phase (c.args.guest.now.cell.value.collection ≡ Marked) c.is_marked.result (subst (λ (phase : CellPhase). IsTrue c.is_marked.result ↔ (phase ≡ Marked)) c.phase.ensures c.is_marked.ensures) c.if-not-is_marked.true))

pub returns-then-not-has_events_left-clause-why : goal.returns-then-not-has_events_left-clause-why
returns-then-not-has_events_left-clause-why c = inr (inr (lacks Full (HasEventsLeft (basis_of c.args.terms.now) c.args.guest.now c.args.book.now) c.has_events_left.result c.has_events_left.ensures c.if-not-has_events_left.true))
