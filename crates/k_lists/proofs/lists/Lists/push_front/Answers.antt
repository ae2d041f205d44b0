use Rattle.std.proofs.Common.{◌≡◌, ◌<◌, ◌+◌, length, get_or, set, ap, ◌∙◌, arith}
use Rattle.std.proofs.lemmas.List.{get_or_default, length-set}
use Rattle.k_lists.specs.declared.lists.Links.{Links}
use Rattle.k_lists.proofs.Steps.{lists_length, head_within}
use Rattle.k_lists.proofs.Writes.{prev_length}
use Rattle.k_lists.proofs.Pushes.{pushed}
use Rattle.k_lists.proofs.lists.Lists.push_front.Goals as goal

pub set_prev-requires : goal.set_prev-requires
set_prev-requires c =
    let links = c.self.inside.links.items in
    let heads = c.self.inside.heads.items in
    let within : c.args.list < length heads = omega (arith, c.requires.list, lists_length links heads c.args.self.now c.self.view_is) in
    let head : c.index-head.result.now ≡ get_or heads c.args.list 0 = c.index-head.ensures ∙ get_or_default heads c.args.list c.index-head.result.now 0 within in
    omega (arith, head, head_within links heads c.args.list c.self.invariant.linked within, length-set {A = Links})

pub invariant_of-self : goal.invariant_of-self
invariant_of-self c =
    let step = pushed c.self.inside.links.items c.set_prev.new.links.items c.self.inside.heads.items c.args.self.now c.args.list c.args.i c.index-head.result.now c.self.invariant.linked c.self.view_is c.requires.list c.requires.room
    c.requires.free c.index-head.ensures c.set_prev.ensures.links in
    record {
      linked = step.linked;
      links_reserved = omega (arith, c.set_prev.ensures.capacity, c.self.invariant.links_reserved, ap length c.set_prev.ensures.links, prev_length (set c.self.inside.links.items c.args.i (record { prev = 0; next = c.index-head.result.now })) c.index-head.result.now (c.args.i + 1), length-set c.self.inside.links.items c.args.i (record { prev = 0; next = c.index-head.result.now }));
      heads_reserved = omega (arith, c.self.invariant.heads_reserved, length-set c.self.inside.heads.items c.args.list (c.args.i + 1));
    }

pub returns-clause-pushed : goal.returns-clause-pushed
returns-clause-pushed c =
    let step = pushed c.self.inside.links.items c.set_prev.new.links.items c.self.inside.heads.items c.args.self.now c.args.list c.args.i c.index-head.result.now c.self.invariant.linked c.self.view_is c.requires.list c.requires.room
    c.requires.free c.index-head.ensures c.set_prev.ensures.links in
    step.value

pub returns-clause-apart : goal.returns-clause-apart
returns-clause-apart c = (invariant_of-self c).linked.apart
