use Rattle.std.proofs.Common.{◌≡◌, ◌∙◌, length, refl, subst, arith}
use Rattle.k_keeper.specs.Publishing.{HavePublished}
use Rattle.k_keeper.proofs.Published.{published_next, published_none}
use Rattle.k_keeper.proofs.publishing.publish_each.Goals as goal

pub loop-p-init : goal.loop-p-init
loop-p-init c = record { published = published_none c.args.host.now; kept = λ left kept. kept; objects = refl }

pub publish-requires-clause-kept : goal.publish-requires-clause-kept
publish-requires-clause-kept c = c.loop-p.invariant.kept 0 c.requires

pub publish-requires-clause-there : goal.publish-requires-clause-there
publish-requires-clause-there c = let count = c.loop-p.invariant.published.count in omega (arith, count, c.processes-p-end.ensures)

pub loop-p-preserved : goal.loop-p-preserved
loop-p-preserved c = record {
  published = published_next c.args.host.now c.loop-p.host c.publish.new.host c.loop-p.p c.loop-p.invariant.published c.publish.ensures.published;
  kept = λ left kept. c.publish.ensures.kept left (c.loop-p.invariant.kept left kept);
  objects = c.publish.ensures.objects ∙ c.loop-p.invariant.objects;
}

pub returns-clause-published : goal.returns-clause-published
returns-clause-published c =
    let all : c.loop-p.p ≡ length c.args.host.now.guests = omega (arith, c.processes-p-end.ensures) in
    subst (λ n. HavePublished c.args.host.now c.loop-p.host n) all c.loop-p.invariant.published
