use Rattle.std.proofs.Common.{ap, not}
use Rattle.k_types.specs.Names.{among}
use Rattle.k_types.specs.Steps.{done_by}
use Rattle.k_plain.proofs.DoneOperations.{ended_done}
use Rattle.k_plain.proofs.complete.has_done.Goals as goal

pub returns-then-not-lives : goal.returns-then-not-lives
returns-then-not-lives c =
    ended_done c.args.ops.now c.in-Some.done c.lives.result (among c.args.pid.0 c.args.lists.now.state.ended) (done_by c.args.pid.0 c.args.events.now)
    c.in-Some.ensures.some.1 c.lives.ensures (ap not c.if-not-lives.true)
