use Rattle.std.proofs.Common.{sym, subst}
use Rattle.std.specs.List.{AllByRecursion}
use Rattle.k_types.specs.Known.{IsKnownEvent}
use Rattle.k_state.specs.Machines.{Machine}
use Rattle.k_plain.specs.Sounds.{IsSoundMachine}
use Rattle.k_solo.proofs.ending.PlainEnd.of.Goals as goal

pub invariant_of-result : goal.invariant_of-result
invariant_of-result c = record {
  shown = record {
    machine = subst IsSoundMachine (sym c.into_lists-lists.ensures.same) c.into_lists-lists.ensures.sound;
    known = subst (λ (m : Machine). AllByRecursion (IsKnownEvent m.setup) c.args.events.items) (sym c.into_lists-lists.ensures.same) c.requires.known;
    few = c.requires.few;
  };
  ordered = c.in_ok-targets.ensures;
}
