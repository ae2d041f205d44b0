use Rattle.std.proofs.Common.{[], sym, ap, ◌∙◌, subst}
use Rattle.k_types.specs.Trace.{trace_of}
use Rattle.k_opening.specs.k_outcome.k_process.Heaps.{value_of}
use Rattle.k_opening.specs.k_outcome.Ends.{journal_of}
use Rattle.k_run.specs.Runs.{IsRunOf}
use Rattle.k_run.proofs.Ended.{can_end, ended_run, setup_same}
use Rattle.k_run.proofs.Replayed.{can_replay, replayed_ends}
use Rattle.k_run.proofs.replaying.replay.Goals as goal

pub replay-requires : goal.replay-requires
replay-requires g c = can_replay g.named c.args.still.cells c.requires.cells c.deref.result.now c.deref.ensures.value

pub outcome_of-requires : goal.outcome_of-requires
outcome_of-requires g c =
    let first = c.args.still.cells in
    let ends = replayed_ends g.named first (value_of c.replay.new.heaps) c.replay.ensures in
    can_end g.named.trace first.setup _ c.args.still.rooms c.requires.cells.setup.is ends c.requires.rooms

pub returns-clause-run : goal.returns-clause-run
returns-clause-run g c =
    let first = c.args.still.cells in
    let ends = replayed_ends g.named first (value_of c.replay.new.heaps) c.replay.ensures in
    subst (IsRunOf g.named) (sym c.outcome_of.ensures)
    (ended_run g.named first.names (trace_of first.setup [] []) _ ends c.requires.cells.names (setup_same first.setup g.named.trace c.requires.cells.setup.is))

pub returns-clause-journal : goal.returns-clause-journal
returns-clause-journal g c = ap journal_of c.outcome_of.ensures ∙ c.replay.ensures.journal
