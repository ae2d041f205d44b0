use Rattle.std.proofs.Common.{◌≡◌, ◌-◌, ◌==◌, get_or}
use Rattle.std.specs.List.{list_all}
use Rattle.k_types.specs.Numbers.{numbers_from}
use Rattle.k_audit.specs.Agreeing.{agree, shared_bytes}
use Rattle.k_audit.proofs.sums.heaps_agree.Given as goal

abbrev pub invariant-loop-s : goal.invariant-loop-s
invariant-loop-s l = agree (shared_bytes l.lists.setup l.lists.state) l.bytes l.lists.setup.shared_heaps ≡ list_all (λ k. get_or l.bytes k 0 == shared_bytes l.lists.setup l.lists.state k) (numbers_from l.s (l.lists.setup.shared_heaps - l.s))
