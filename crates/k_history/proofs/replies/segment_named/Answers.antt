use Rattle.std.proofs.Common.{◌∙◌, sym}
use Rattle.k_reports.proofs.Segments.{proc_segment, shared_segment}
use Rattle.k_history.proofs.replies.segment_named.Goals as goal

pub returns-in-Some : goal.returns-in-Some
returns-in-Some c = proc_segment c.args.names.now c.args.name.now c.in-Some.pid (sym c.is.ensures ∙ c.if-is.false) c.in-Some.ensures.number

pub returns : goal.returns
returns c =
    rw c.proc_count.ensures.count (shared_segment c.args.names.now c.args.name.now c.in_ok-shared.shared (sym c.is.ensures ∙ c.if-is.false) (sym c.proc_named.ensures.number ∙ c.in_default.is) c.in_ok-shared.ensures.number)
