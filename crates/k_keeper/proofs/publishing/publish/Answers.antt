use Rattle.std.proofs.Common.{ap}
use Rattle.k_host.specs.Hosts.{HostValue}
use Rattle.k_keeper.proofs.Counted.{published_objects}
use Rattle.k_keeper.proofs.Kept.{kept_published}
use Rattle.k_keeper.proofs.Published.{publish_done}
use Rattle.k_keeper.proofs.publishing.publish.Goals as goal

pub returns-clause-published : goal.returns-clause-published
returns-clause-published c = publish_done c.args.host.now c.requires.kept c.args.pid c.requires.there c.publish-came.new.self c.publish-came.result c.publish-came.ensures.done c.publish-came.ensures.why

pub returns-clause-kept : goal.returns-clause-kept
returns-clause-kept c =
    λ left kept. kept_published c.args.host.now left kept c.publish-came.new.self c.args.pid c.serves.ensures
    (publish_done c.args.host.now c.requires.kept c.args.pid c.requires.there c.publish-came.new.self c.publish-came.result c.publish-came.ensures.done c.publish-came.ensures.why)

pub returns-clause-objects : goal.returns-clause-objects
returns-clause-objects c =
    let done = publish_done c.args.host.now c.requires.kept c.args.pid c.requires.there c.publish-came.new.self c.publish-came.result c.publish-came.ensures.done c.publish-came.ensures.why in
    published_objects c.args.host.now c.publish-came.new.self c.requires.kept.serves c.serves.ensures (ap (λ (x : HostValue). x.basis) done.host_is) c.args.pid done
