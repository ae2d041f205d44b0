use Rattle.std.proofs.Common.{◌≡◌, ◌+◌, ◌-◌, ◌<◌, find, length, nat_lt}
use Rattle.k_types.specs.Limits.{full_limit, limits_in, max_of, path_within, use_of}
use Rattle.k_state.proofs.lists.PlainLists.full_limit.Given as goal

abbrev pub invariant-loop : goal.invariant-loop
invariant-loop l = record {
  known : l.at.0 < length l.self.setup.limits;
  all : l.end ≡ length (limits_in l.self.setup l.self.state);
  found : find (λ q. nat_lt (max_of (limits_in l.self.setup l.self.state) q) (use_of l.self.setup l.self.state q + l.size)) (path_within (limits_in l.self.setup l.self.state) (l.end - l.counter) l.at.0)
      ≡ full_limit l.self.setup l.self.state l.fn.limit.0 l.size;
}
