use Rattle.std.proofs.Common.{◌≡◌, ◌-◌}
use Rattle.std.specs.List.{list_all}
use Rattle.k_types.specs.Complete.{all_ended}
use Rattle.k_types.specs.Names.{among}
use Rattle.k_types.specs.Numbers.{numbers_from}
use Rattle.k_types.specs.Trace.{process_count}
use Rattle.k_reply.proofs.possible.all_ended.Given as goal

abbrev pub invariant-loop-p : goal.invariant-loop-p
invariant-loop-p l = all_ended l.lists.setup l.lists.state ≡ list_all (λ p. among p l.lists.state.ended) (numbers_from l.p (process_count l.lists.setup - l.p))
