use Rattle.std.proofs.Common.{refl}
use Rattle.k_laws.specs.Setups.{setup_of}
use Rattle.k_opening.specs.k_outcome.k_process.Heaps.{value_of}
use Rattle.k_opening.proofs.OverByMeeting.{met_ends}
use Rattle.k_opening.proofs.ShownOn.{was_shown}
use Rattle.k_run.proofs.world.end_locked.Goals as goal

pub end_all-requires : goal.end_all-requires
end_all-requires g c = c.unlock_all-heaps.ensures.stand

pub returns-clause-ends : goal.returns-clause-ends
returns-clause-ends g c = met_ends g.W.WorldName.world (setup_of g.W.WorldName.world.trace) (value_of c.end_all.new.heaps) c.end_all.ensures.met refl

pub returns-clause-table : goal.returns-clause-table
returns-clause-table g c = c.end_all.ensures.met.ended.processes.book.table

pub returns-clause-shown : goal.returns-clause-shown
returns-clause-shown g c =
    was_shown g.W.WorldName.watched g.W.WorldName.world.trace c.unlock_all-heaps.result.0.book.journal.list c.end_all.new.heaps.book.journal.list c.unlock_all-heaps.result.1 c.unlock_all-heaps.ensures.shown
    c.end_all.ensures.grows
