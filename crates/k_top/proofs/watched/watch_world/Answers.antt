use Rattle.std.proofs.Common.{ap, subst, vec_capacity}
use Rattle.k_trace.specs.Named.{DeclaredNames}
use Rattle.k_run.specs.Runs.{IsRunOf}
use Rattle.k_run.specs.Worlds.{RunValue}
use Rattle.k_top.proofs.WatchedRuns.{watched_run}
use Rattle.k_top.proofs.watched.watch_world.Goals as goal

pub returns : goal.returns
returns g c =
    let end = c.finish_watched-outcome.result.0 in
    watched_run (record { names = c.args.world.names; trace = g.W.WorldName.world.trace }) c.args.count (vec_capacity c.join-world.result.1.1) _ end c.join-world.result.1.0 c.finish_watched-outcome.result.1
    c.join-world.result.1.1.items c.push_reserved.new.self.items c.finish_watched-outcome.result.2
    (subst (λ (names : DeclaredNames). IsRunOf (record { names = names; trace = g.W.WorldName.world.trace }) end) (ap (λ (v : RunValue). v.names) c.join-world.ensures.first) c.finish_watched-outcome.ensures.run)
    c.join-world.ensures.second c.finish_watched-outcome.ensures.watched c.push_reserved.ensures.items
