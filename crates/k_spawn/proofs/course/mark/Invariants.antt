use Rattle.std.proofs.Common.{◌≡◌, ℕ, ◌<◌, ◌||◌, false, drop, length, map, slice_index_or}
use Rattle.std.specs.List.{AllByRecursion}
use Rattle.k_types.specs.Names.{among}
use Rattle.k_spawn.proofs.course.mark.Given as goal

abbrev pub invariant-loop-pid : goal.invariant-loop-pid
invariant-loop-pid l = record {
  long : length l.marks ≡ 64;
  known : AllByRecursion (λ p. p < 64) (map (λ it. it.0) (drop l.pid-index l.pids));
  same : (p : ℕ) → p < 64 → (slice_index_or l.marks p false || among p (map (λ it. it.0) (drop l.pid-index l.pids))) ≡ (slice_index_or l.fn.marks p false || among p (map (λ it. it.0) l.pids));
}
