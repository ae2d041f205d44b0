use Rattle.std.proofs.Common.{◌≡◌, subst}
use Rattle.k_keeper.specs.Keeping.{IsKept, KeeperValue, objects_in}
use Rattle.k_keeper.proofs.keeper.Keeper.keeps.Goals as goal

pub returns-clause-kept : goal.returns-clause-kept
returns-clause-kept c = subst (λ (k : KeeperValue). IsKept k.host k.left) c.self.view_is c.self.invariant.kept

pub returns-clause-counted : goal.returns-clause-counted
returns-clause-counted c = subst (λ (k : KeeperValue). objects_in k.host ≡ k.objects) c.self.view_is c.self.invariant.counted
