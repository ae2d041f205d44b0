use Rattle.std.proofs.Common.{◌≡◌, ◌-◌, length}
use Rattle.std.specs.List.{list_all}
use Rattle.k_types.specs.Numbers.{numbers_below, numbers_from}
use Rattle.k_audit.specs.Tests.{use_fits}
use Rattle.k_audit.proofs.sums.all_uses_fit.Given as goal

abbrev pub invariant-loop-m : goal.invariant-loop-m
invariant-loop-m l = list_all (use_fits l.lists.setup l.lists.state) (numbers_below (length l.lists.setup.limits)) ≡ list_all (use_fits l.lists.setup l.lists.state) (numbers_from l.m (length l.lists.setup.limits - l.m))
