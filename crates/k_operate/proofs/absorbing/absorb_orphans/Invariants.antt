use Rattle.std.proofs.Common.{◌≡◌, ◌-◌, ◌++◌, length}
use Rattle.k_types.specs.FileOrder.{absorptions}
use Rattle.k_types.specs.Steps.{state_after}
use Rattle.k_agree.specs.Rooms.{event_room}
use Rattle.k_process.specs.BetweenSteps.{RestStands}
use Rattle.k_operate.proofs.absorbing.absorb_orphans.Given as goal

abbrev pub ghost-absorb_orphan : goal.ghost-absorb_orphan
ghost-absorb_orphan g a = g.world'

abbrev pub invariant-loop-id : goal.invariant-loop-id
invariant-loop-id g l = record {
  rest : RestStands g.world' l.kernel l.shared.items l.book;
  journal : l.book.journal.list ++ absorptions g.world'.trace (state_after g.world'.trace l.book.journal.list) ≡ l.fn.book.journal.list ++ absorptions g.world'.trace (state_after g.world'.trace l.fn.book.journal.list);
}

abbrev pub decreases-loop-id : goal.decreases-loop-id
decreases-loop-id g l = event_room g.world'.trace - length l.book.journal.list
