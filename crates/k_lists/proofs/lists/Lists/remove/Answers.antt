use Rattle.std.proofs.Common.{length, ap, arith}
use Rattle.k_lists.proofs.Writes.{head_length, next_length, prev_length}
use Rattle.k_lists.proofs.Steps.{member_within, links_within}
use Rattle.k_lists.proofs.Removes.{removed}
use Rattle.k_lists.proofs.lists.Lists.remove.Goals as goal

pub index-requires : goal.index-requires
index-requires c = omega (arith, member_within c.self.inside.links.items c.self.inside.heads.items c.args.self.now c.args.list c.args.i c.self.invariant.linked c.self.view_is c.requires, c.self.inside.links.ok.0)

pub set_next-requires-clause-link : goal.set_next-requires-clause-link
set_next-requires-clause-link c = (links_within c.self.inside.links.items c.self.inside.heads.items c.args.self.now c.args.list c.args.i c.index.result.now c.self.invariant.linked c.self.view_is c.requires c.index.ensures).0

pub set_prev-requires : goal.set_prev-requires
set_prev-requires c =
    let within = links_within c.self.inside.links.items c.self.inside.heads.items c.args.self.now c.args.list c.args.i c.index.result.now c.self.invariant.linked c.self.view_is c.requires c.index.ensures in
    omega (arith, within.1, ap length c.set_next.ensures.links, next_length c.self.inside.links.items c.index.result.now.prev c.index.result.now.next)

pub invariant_of-self : goal.invariant_of-self
invariant_of-self c =
    let step = removed c.self.inside.links.items c.set_next.new.links.items c.set_prev.new.links.items c.self.inside.heads.items c.set_next.new.heads.items c.args.self.now c.args.list c.args.i c.index.result.now c.self.invariant.linked c.self.view_is
    c.requires c.index.ensures c.set_next.ensures.links c.set_next.ensures.heads c.set_prev.ensures.links in
    record {
      linked = step.linked;
      links_reserved = omega (arith, c.set_prev.ensures.capacity, c.set_next.ensures.capacity, c.self.invariant.links_reserved, ap length c.set_prev.ensures.links, ap length c.set_next.ensures.links, prev_length c.set_next.new.links.items c.index.result.now.next c.index.result.now.prev, next_length c.self.inside.links.items c.index.result.now.prev c.index.result.now.next);
      heads_reserved = omega (arith, c.set_next.ensures.heads_capacity, c.self.invariant.heads_reserved, ap length c.set_next.ensures.heads, head_length c.self.inside.heads.items c.args.list c.index.result.now.prev c.index.result.now.next);
    }

pub returns-clause-removed : goal.returns-clause-removed
returns-clause-removed c =
    let step = removed c.self.inside.links.items c.set_next.new.links.items c.set_prev.new.links.items c.self.inside.heads.items c.set_next.new.heads.items c.args.self.now c.args.list c.args.i c.index.result.now c.self.invariant.linked c.self.view_is
    c.requires c.index.ensures c.set_next.ensures.links c.set_next.ensures.heads c.set_prev.ensures.links in
    step.value

pub returns-clause-apart : goal.returns-clause-apart
returns-clause-apart c = (invariant_of-self c).linked.apart
