use Rattle.k_plain.proofs.Ends.{end_answers, end_steps}
use Rattle.k_plain.proofs.stepping.step_if_possible.Goals as goal

pub returns-in-Ended-clause-possible : goal.returns-in-Ended-clause-possible
returns-in-Ended-clause-possible c =
    let m = c.args.lists.now in
    let e = c.in-Ended in
    end_answers m.setup m.state c.args.event.now e.heap e.freed_objects e.freed_bytes e.exits_dropped e.shares_dropped c.end_if_possible.result e.is c.end_if_possible.ensures.possible

pub returns-in-Ended-clause-stepped : goal.returns-in-Ended-clause-stepped
returns-in-Ended-clause-stepped c =
    let m = c.args.lists.now in
    let e = c.in-Ended in
    end_steps m.setup m.state c.end_if_possible.new.lists.state c.args.event.now e.heap e.freed_objects e.freed_bytes e.exits_dropped e.shares_dropped c.end_if_possible.result e.is c.end_if_possible.ensures.ended
