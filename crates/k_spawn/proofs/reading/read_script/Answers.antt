use Rattle.std.proofs.Common.{◌≡◌, ◌≤◌, Ok, length, arith}
use Rattle.k_spawn.specs.Judgement.{judgement}
use Rattle.k_spawn.specs.Outcome.{so_far}
use Rattle.k_spawn.proofs.Judging.{whole_refused, whole_read}
use Rattle.k_spawn.proofs.ScriptsKeep.{judged_keeps, judged_lines_known}
use Rattle.k_spawn.proofs.reading.read_script.Goals as goal
use Rattle.k_spawn.proofs.reading.read_script.Goals.{In_ok-script}

pub returns-in-Err : goal.returns-in-Err
returns-in-Err c =
    let few : length c.args.bytes.now ≤ 16777216 = omega arith in
    record { ok = tt; rules = tt; lines = tt; bad = whole_refused c.args.bytes.now c.in-Err.error few (rw c.new-reader.ensures.start at c.in-Err.ensures.read) }

judged : (c : In_ok-script) → judgement c.args.bytes.now ≡ Ok c.in_ok-script.script
judged c =
    let few : length c.args.bytes.now ≤ 16777216 = omega arith in
    let read = rw c.new-reader.ensures.start at c.in-Ok.ensures.read in
    whole_read c.args.bytes.now (so_far c.read_lines.new.reader) c.in_ok-script.script few read.0 c.if-not-has_process.ensures c.in_ok-script.ensures

pub returns-clause-ok : goal.returns-clause-ok
returns-clause-ok c = judged c

pub returns-clause-rules : goal.returns-clause-rules
returns-clause-rules c = judged_keeps c.args.bytes.now c.in_ok-script.script (judged c)

pub returns-clause-lines : goal.returns-clause-lines
returns-clause-lines c = judged_lines_known c.args.bytes.now c.in_ok-script.script (judged c)
