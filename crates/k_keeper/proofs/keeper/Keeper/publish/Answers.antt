use Rattle.std.proofs.Common.{ap, ◌∙◌, subst, arith}
use Rattle.k_host.specs.Hosts.{HostValue}
use Rattle.k_keeper.specs.Keeping.{KeeperValue}
use Rattle.k_keeper.specs.Publishing.{HasPublishedEach}
use Rattle.k_keeper.proofs.Counted.{most_same}
use Rattle.k_keeper.proofs.keeper.Keeper.publish.Goals as goal

pub publish_each-requires : goal.publish_each-requires
publish_each-requires c =
    let kept = c.self.invariant.kept in
    record { serves = kept.serves; fit = kept.fit; spelled = kept.spelled; idle = kept.idle; kernel_idle = kept.kernel_idle; room = let room = kept.room in omega (arith, room) }

pub invariant_of-self : goal.invariant_of-self
invariant_of-self c = record {
  kept = c.publish_each.ensures.kept c.self.inside.left c.self.invariant.kept;
  counted = c.publish_each.ensures.objects ∙ c.self.invariant.counted;
  listed = c.self.invariant.listed;
  room = c.self.invariant.room;
  named = c.self.invariant.named;
  most = most_same c.self.inside.host c.publish_each.new.host c.self.inside.most c.self.invariant.most (ap (λ (x : HostValue). x.basis) c.publish_each.ensures.published.host_is);
}

pub returns-clause-published : goal.returns-clause-published
returns-clause-published c = subst (λ (old : KeeperValue). HasPublishedEach old.host c.publish_each.new.host) c.self.view_is c.publish_each.ensures.published

pub returns-clause-rest : goal.returns-clause-rest
returns-clause-rest c = ap (λ (old : KeeperValue). record old { host = c.publish_each.new.host }) c.self.view_is
