use Rattle.std.proofs.Common.{◌≤◌, length, arith}
use Rattle.k_trace.specs.Meaning.{meaning_of}
use Rattle.k_trace.specs.Rules.{Spells}
use Rattle.k_reader.proofs.Refused.{whole_refused, whole_spelled}
use Rattle.k_reader.proofs.reading.read_trace.Goals as goal
use Rattle.k_reader.proofs.reading.read_trace.Goals.{In_ok-trace}

pub returns-in-Err : goal.returns-in-Err
returns-in-Err c =
    let few : length c.args.bytes.now ≤ 16777216 = omega arith in
    record { ok = tt; rules = tt; bad = whole_refused c.args.bytes.now c.in-Err.error few (rw c.new-reader.ensures at c.in-Err.ensures) }

spelled : (c : In_ok-trace) → Spells c.args.bytes.now (meaning_of c.in_ok-trace.trace)
spelled c =
    let few : length c.args.bytes.now ≤ 16777216 = omega arith in
    let judged = rw c.new-reader.ensures at c.in-Ok.ensures in
    whole_spelled c.args.bytes.now c.read_lines.new.reader (meaning_of c.in_ok-trace.trace) few judged.0 c.if-not-has_process.ensures c.in_ok-trace.ensures

pub returns-clause-ok : goal.returns-clause-ok
returns-clause-ok c = spelled c

pub returns-clause-rules : goal.returns-clause-rules
returns-clause-rules c = (spelled c).is_trace.rules
