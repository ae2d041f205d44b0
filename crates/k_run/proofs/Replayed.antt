-- Heaps that were opened can be replayed, and what is then left is an end.
use Rattle.std.proofs.Common.{◌≡◌, ◌∙◌, ap, List, map, refl}
use Rattle.k_types.specs.declared.names.Pid.{Pid}
use Rattle.k_trace.specs.Named.{NamedTrace}
use Rattle.k_opening.specs.k_outcome.k_process.Heaps.{HeapsValue, value_of}
use Rattle.k_opening.specs.k_outcome.k_process.Over.{cells_of}
use Rattle.k_complete.specs.Replaying.{CanReplay, HasReplayed}
use Rattle.k_laws.specs.Setups.{setup_of}
use Rattle.k_opening.specs.k_outcome.Ends.{EndsRun}
use Rattle.k_opening.proofs.OverByMeeting.{met_ends}
use Rattle.k_opening.specs.k_still.declared.first.FirstCells.{FirstCells}
use Rattle.k_opening.specs.k_still.Opening.{IsOpened, world_of}

pub can_replay : (named : NamedTrace) (first : FirstCells) → IsOpened named first → (order : List Pid) → order ≡ first.order.items → CanReplay (world_of named first) (value_of first.heaps) order
can_replay named first o order is = record {
  stand = o.stands;
  published = o.published;
  empty = o.empty;
  order_is = ap (λ (pids : List Pid). map (λ (p : Pid). p.0) pids) is ∙ o.order;
}

pub replayed_ends : (named : NamedTrace) (first : FirstCells) (heaps : HeapsValue) → HasReplayed (world_of named first) heaps → EndsRun named.trace (setup_of named.trace) (cells_of heaps)
replayed_ends named first heaps done = met_ends (world_of named first) (setup_of named.trace) heaps done.met refl
