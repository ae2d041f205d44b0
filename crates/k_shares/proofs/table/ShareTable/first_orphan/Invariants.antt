use Rattle.std.proofs.Common.{◌≡◌, length}
use Rattle.k_shares.specs.Sharers.{is_orphan_by}
use Rattle.k_shares.proofs.Walks.{first_since}
use Rattle.k_shares.proofs.table.ShareTable.first_orphan.Given as goal

abbrev pub invariant-loop-s : goal.invariant-loop-s
invariant-loop-s l =
    first_since (is_orphan_by l.self.phases l.self.shares) (length l.self.phases) l.s
    ≡ first_since (is_orphan_by l.self.phases l.self.shares) (length l.self.phases) 0
