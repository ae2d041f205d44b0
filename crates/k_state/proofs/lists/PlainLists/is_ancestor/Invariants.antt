use Rattle.std.proofs.Common.{◌≡◌, ◌-◌, ◌<◌, length}
use Rattle.k_types.specs.Limits.{ancestors_within, is_ancestor}
use Rattle.k_types.specs.Names.{among}
use Rattle.k_state.proofs.lists.PlainLists.is_ancestor.Given as goal

abbrev pub invariant-loop : goal.invariant-loop
invariant-loop l = record {
  known : l.at.0 < length l.self.setup.limits;
  all : l.end ≡ length l.self.setup.limits;
  found : among l.upper.0 (ancestors_within l.self.setup.limits (l.end - l.counter) l.at.0) ≡ is_ancestor l.self.setup.limits l.upper.0 l.fn.lower.0;
}
