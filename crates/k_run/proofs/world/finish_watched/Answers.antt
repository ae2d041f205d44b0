use Rattle.std.proofs.Common.{◌≡◌, [], Some, Option, ap, sym, subst}
use Rattle.atomic_table.specs.Seated.{TableId}
use Rattle.k_types.specs.Trace.{trace_of}
use Rattle.k_trace.specs.Named.{NamedTrace}
use Rattle.k_opening.specs.k_outcome.k_process.Heaps.{value_of}
use Rattle.k_opening.specs.k_outcome.k_process.Over.{IsOutcome, cells_of}
use Rattle.k_opening.specs.k_outcome.Ends.{EndValue, journal_of}
use Rattle.k_opening.specs.k_locks.k_watch.Shown.{HasWatched, WasShown}
use Rattle.k_opening.specs.k_locks.k_watch.Values.{PenValue}
use Rattle.k_run.specs.Runs.{IsRunOf}
use Rattle.k_opening.specs.Worlds.{RunValue}
use Rattle.k_run.proofs.Ended.{can_end, ended_run, setup_same}
use Rattle.k_run.proofs.Pens.{has_pen}
use Rattle.k_run.proofs.world.finish_watched.Goals as goal

pub outcome_of-requires : goal.outcome_of-requires
outcome_of-requires g c =
    can_end g.W.WorldName.world.trace c.world.inside.setup (cells_of (value_of c.end_locked-heaps.result.0)) c.world.inside.report c.world.invariant.setup_is c.end_locked-heaps.ensures.ends c.world.invariant.report

pub returns-clause-outcome : goal.returns-clause-outcome
returns-clause-outcome g c = subst (λ (e : EndValue). IsOutcome g.W.WorldName.world.trace e.cells) (sym c.outcome_of.ensures) c.end_locked-heaps.ensures.ends.outcome

pub returns-clause-table : goal.returns-clause-table
returns-clause-table g c = subst (λ (e : EndValue). e.cells.book.journal.table ≡ g.W.WorldName.world.table) (sym c.outcome_of.ensures) c.end_locked-heaps.ensures.table

pub returns-clause-run : goal.returns-clause-run
returns-clause-run g c =
    let named : NamedTrace = record { names = c.args.world.names; trace = g.W.WorldName.world.trace } in
    subst (IsRunOf named) (sym c.outcome_of.ensures)
    (ended_run named c.world.inside.names (trace_of c.world.inside.setup [] []) (cells_of (value_of c.end_locked-heaps.result.0)) c.end_locked-heaps.ensures.ends (ap (λ (v : RunValue). v.names) c.world.view_is)
    (setup_same c.world.inside.setup g.W.WorldName.world.trace c.world.invariant.setup_is))

pub show_end-watcher-requires : goal.show_end-watcher-requires
show_end-watcher-requires g c = λ κs lives. (
  lives,
  (
    c.end_locked-heaps.ensures.ends.rules,
    (
      c.end_locked-heaps.ensures.ends.of_trace,
      (
        c.end_locked-heaps.ensures.ends.outcome.book,
        subst (λ (p : Option PenValue). WasShown (Some c.args.watcher.cell) g.W.WorldName.world.trace c.end_locked-heaps.result.0.book.journal.list p) c.in-Some.is
            (subst (λ (w : Option TableId). WasShown w g.W.WorldName.world.trace c.end_locked-heaps.result.0.book.journal.list c.end_locked-heaps.result.1) c.requires c.end_locked-heaps.ensures.shown),
      ),
    ),
  ),
)

pub unreachable-requires : goal.unreachable-requires
unreachable-requires g c =
    has_pen c.args.watcher.cell g.W.WorldName.world.trace c.end_locked-heaps.result.0.book.journal.list c.end_locked-heaps.result.1
    (subst (λ (w : Option TableId). WasShown w g.W.WorldName.world.trace c.end_locked-heaps.result.0.book.journal.list c.end_locked-heaps.result.1) c.requires c.end_locked-heaps.ensures.shown) c.in_default.not-Some

pub returns-clause-watched : goal.returns-clause-watched
returns-clause-watched g c =
    subst (λ (e : EndValue). HasWatched g.W.WorldName.world.trace (journal_of e) c.args.watcher c.show_end-watcher.result.0 c.show_end-watcher.result.1) (sym c.outcome_of.ensures) c.show_end-watcher.ensures
