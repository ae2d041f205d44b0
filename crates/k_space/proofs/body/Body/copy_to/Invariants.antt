use Rattle.std.proofs.Common.{◌≡◌, ◌<◌, ◌≤◌, ℕ, length, get_or, slice_get, Some}
use Rattle.k_space.specs.Objects.{content_of}
use Rattle.k_space.specs.declared.body.Stored.TheVariants.{Null}
use Rattle.k_space.proofs.body.Body.copy_to.Given as goal

abbrev pub invariant-loop-i : goal.invariant-loop-i
invariant-loop-i l = record {
  len : length l.into ≡ length l.fn.into;
  few : l.count ≤ 16;
  copied : (k : ℕ) → k < l.i → slice_get l.fn.self.fields k ≡ Some (content_of (get_or l.into k Null));
}
