use Rattle.std.proofs.Common.{◌≡◌, ◌-◌, ◌==◌, get_or}
use Rattle.std.specs.List.{list_all}
use Rattle.k_types.specs.Numbers.{numbers_from}
use Rattle.k_types.specs.Owners.{charge_of}
use Rattle.k_types.specs.Trace.{process_count}
use Rattle.k_audit.specs.Agreeing.{agree}
use Rattle.k_audit.proofs.sums.charges_agree.Given as goal

abbrev pub invariant-loop-p : goal.invariant-loop-p
invariant-loop-p l = agree (charge_of l.lists.setup l.lists.state) l.charges (process_count l.lists.setup) ≡ list_all (λ k. get_or l.charges k 0 == charge_of l.lists.setup l.lists.state k) (numbers_from l.p (process_count l.lists.setup - l.p))
