use Rattle.std.proofs.Common.{◌∙◌, Some, ap, sym, subst}
use Rattle.atomic_table.specs.Seated.{TableId}
use Rattle.k_trace.specs.Named.{DeclaredNames}
use Rattle.k_top.specs.Watched.{IsWatchedRunOf}
use Rattle.k_top.proofs.watched.watch_still.Goals as goal

pub watch_world-requires-clause-watched : goal.watch_world-requires-clause-watched
watch_world-requires-clause-watched g c = λ κs lives. c.requires.watched ∙ ap (λ (t : TableId). Some t) (sym c.requires.same_cell)

pub returns : goal.returns
returns g c =
    subst (λ (names : DeclaredNames). IsWatchedRunOf (record { names = names; trace = g.W.WorldName.world.trace }) c.args.count c.watch_world.result.0 c.watch_world.result.1.items) c.in_ok-world.ensures.0 c.watch_world.ensures
