use Rattle.std.proofs.Common.{[], subst, sym}
use Rattle.k_types.specs.Trace.{trace_of}
use Rattle.k_laws.proofs.SoundOpening.{opening_sound}
use Rattle.k_plain.specs.Sounds.{IsSoundMachine}
use Rattle.k_plain.proofs.state.PlainState.opening.Goals as goal

pub invariant_of-result : goal.invariant_of-result
invariant_of-result c =
    subst IsSoundMachine (sym c.in_ok-opening.ensures)
    (record { limits = c.requires.limits; sound = opening_sound (trace_of c.args.setup.now [] []) c.requires.limits })
