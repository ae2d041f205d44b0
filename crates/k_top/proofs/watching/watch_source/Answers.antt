use Rattle.std.proofs.Common.{rules}
use Rattle.k_top.proofs.watching.watch_source.Goals as goal

pub watch_trace-requires : goal.watch_trace-requires
watch_trace-requires g c = (search rules, (search rules, c.in_ok-trace.ensures.ok.spelled.is_trace))
