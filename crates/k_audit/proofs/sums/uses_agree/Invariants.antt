use Rattle.std.proofs.Common.{◌≡◌, ◌-◌, ◌==◌, get_or, length}
use Rattle.std.specs.List.{list_all}
use Rattle.k_types.specs.Numbers.{numbers_from}
use Rattle.k_types.specs.Limits.{use_of}
use Rattle.k_audit.specs.Agreeing.{agree}
use Rattle.k_audit.proofs.sums.uses_agree.Given as goal

abbrev pub invariant-loop-m : goal.invariant-loop-m
invariant-loop-m l = agree (use_of l.lists.setup l.lists.state) l.uses (length l.lists.setup.limits) ≡ list_all (λ k. get_or l.uses k 0 == use_of l.lists.setup l.lists.state k) (numbers_from l.m (length l.lists.setup.limits - l.m))
