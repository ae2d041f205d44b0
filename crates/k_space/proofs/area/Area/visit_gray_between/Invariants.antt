use Rattle.std.proofs.Common.{◌≡◌, ℕ, ◌<◌, ◌≤◌, length, slice_get, Some, false}
use Rattle.k_space.specs.Segments.{SegmentValue, row_at, some_gray}
use Rattle.k_space.proofs.area.Area.visit_gray_between.Given as goal

abbrev pub invariant-loop-i : goal.invariant-loop-i
invariant-loop-i l = record {
  same : l.self ≡ l.fn.self;
  len : length l.into ≡ length l.fn.into;
  below : (k : ℕ) (s : SegmentValue) (serial : ℕ) → l.fn.from ≤ k → k < l.i → slice_get l.fn.self.segments k ≡ Some s → some_gray (row_at s serial) ≡ false;
}
