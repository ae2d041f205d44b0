use Rattle.std.proofs.Common.{sym, ap, ◌∙◌, arith}
use Rattle.k_lists.specs.Lists.{ListsValue, members}
use Rattle.k_lists.proofs.Apart.{apart_in}
use Rattle.k_entry.proofs.Members.{in_within}
use Rattle.k_entry.proofs.Changes.{out_free}
use Rattle.k_entry.proofs.Given.{some_first}
use Rattle.k_entry.proofs.walks.change_walk.Goals as goal

pub push_front-requires-clause-room : goal.push_front-requires-clause-room
push_front-requires-clause-room c =
    let on = c.requires.on (some_first (members c.args.segments.now c.args.seg.0) c.first.result c.first.ensures.value (sym c.is_some.ensures ∙ c.if-is_some.true)) in
    omega (arith, apart_in c.args.walks.now c.args.from c.args.seg.0 c.requires.apart on, ap (λ (v : ListsValue). v.room) c.remove.ensures.removed)

pub push_front-requires-clause-free : goal.push_front-requires-clause-free
push_front-requires-clause-free c =
    let on = c.requires.on (some_first (members c.args.segments.now c.args.seg.0) c.first.result c.first.ensures.value (sym c.is_some.ensures ∙ c.if-is_some.true)) in
    out_free c.args.walks.now c.remove.new.self c.args.from c.args.seg.0 c.requires.apart (record { within = in_within c.args.walks.now c.args.from c.args.seg.0 on; is = c.remove.ensures.removed }) on
