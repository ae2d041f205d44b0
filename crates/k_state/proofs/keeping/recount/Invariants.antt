use Rattle.std.proofs.Common.{◌≡◌, ℕ, ◌*◌, ◌<◌, ◌≤◌, length, get_or, take}
use Rattle.k_state.specs.Machines.{segment_bytes}
use Rattle.k_state.proofs.keeping.recount.Given as goal

abbrev pub invariant-loop-object : goal.invariant-loop-object
invariant-loop-object l = record {
  long : length l.totals ≡ length l.initial.totals;
  sums : (seg : ℕ) → seg < length l.totals → get_or l.totals seg 0 ≡ segment_bytes (take l.object-index l.objects) seg;
  small : (seg : ℕ) → seg < length l.totals → get_or l.totals seg 0 ≤ 144 * l.object-index;
}
