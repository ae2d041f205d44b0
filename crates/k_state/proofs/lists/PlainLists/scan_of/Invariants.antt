use Rattle.std.proofs.Common.{◌≡◌, drop}
use Rattle.k_types.specs.State.{scan_of}
use Rattle.k_state.proofs.lists.PlainLists.scan_of.Given as goal

abbrev pub invariant-loop-scan : goal.invariant-loop-scan
invariant-loop-scan l = scan_of l.self.state.scans l.heap ≡ scan_of (drop l.scan-index l.scan-items) l.heap
