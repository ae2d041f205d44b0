use Rattle.std.proofs.Common.{arith}
use Rattle.k_shares.proofs.Opened.{first_shown, first_sizes}
use Rattle.k_shares.proofs.Living.{first_living}
use Rattle.k_shares.proofs.table.ShareTable.make.Goals as goal

pub invariant_of-result : goal.invariant_of-result
invariant_of-result c = (
  first_sizes c.args.procs c.args.shared _ _ _ _
      (record {
        all_live = c.in_ok-alive.ensures.items_if_clones_equal (λ y e. e);
        none_shared = c.in_ok-bits.ensures.items_if_clones_equal (λ y e. e);
        all_unmade = c.in_ok-phases.ensures.items_if_clones_equal (λ y e. e);
        all_empty = c.in_ok-bytes.ensures.items_if_clones_equal (λ y e. e);
      })
      (omega arith) (omega arith),
  first_living c.args.procs _ (c.in_ok-alive.ensures.items_if_clones_equal (λ y e. e)),
)

pub returns : goal.returns
returns c =
    first_shown c.args.procs c.args.shared _ _ _ _
    (record {
      all_live = c.in_ok-alive.ensures.items_if_clones_equal (λ y e. e);
      none_shared = c.in_ok-bits.ensures.items_if_clones_equal (λ y e. e);
      all_unmade = c.in_ok-phases.ensures.items_if_clones_equal (λ y e. e);
      all_empty = c.in_ok-bytes.ensures.items_if_clones_equal (λ y e. e);
    })
