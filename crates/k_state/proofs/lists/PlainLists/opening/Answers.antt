use Rattle.std.proofs.Common.{[], sym, subst}
use Rattle.k_types.specs.State.{State}
use Rattle.k_types.specs.Trace.{trace_of}
use Rattle.k_state.specs.Machines.{IsPlain}
use Rattle.k_state.proofs.Openings.{opening_is_plain}
use Rattle.k_state.proofs.lists.PlainLists.opening.Goals as goal

pub of-requires : goal.of-requires
of-requires c =
    let t = trace_of c.args.setup.now [] [] in
    subst (λ (st : State). IsPlain (record { setup = t; state = st })) (sym c.in_ok-state.ensures) (opening_is_plain t c.requires)
