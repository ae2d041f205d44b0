use Rattle.std.proofs.Common.{◌∙◌}
use Rattle.k_scan.proofs.Ends.{collection_ends, exits_fit, shares_fit}
use Rattle.k_scan.proofs.collecting.keep.Goals as goal

pub keep_exits-requires : goal.keep_exits-requires
keep_exits-requires c =
    let m = c.args.lists.now in
    let s = c.requires in
    let first = c.keep_reached.new.lists.state in
    exits_fit m.setup c.args.heap m.state first first first first c.deref.result.now c.args.stays.now.shares.items
    (c.deref.ensures.value ∙ s.exits) s.shares c.keep_reached.ensures.state

pub keep_shares-requires : goal.keep_shares-requires
keep_shares-requires c =
    let m = c.args.lists.now in
    let s = c.requires in
    let second = c.keep_exits.new.self.state in
    shares_fit m.setup c.args.heap m.state c.keep_reached.new.lists.state second second second c.deref.result.now c.deref-2.result.now
    (c.deref.ensures.value ∙ s.exits) (c.deref-2.ensures.value ∙ s.shares) c.keep_reached.ensures.state c.keep_exits.ensures.state

pub returns-clause-state : goal.returns-clause-state
returns-clause-state c =
    let m = c.args.lists.now in
    let s = c.requires in
    collection_ends m.setup c.args.heap m.state c.keep_reached.new.lists.state c.keep_exits.new.self.state c.keep_shares.new.self.state c.close_scan.new.self.state c.deref.result.now c.deref-2.result.now
    (c.deref.ensures.value ∙ s.exits) (c.deref-2.ensures.value ∙ s.shares)
    c.keep_reached.ensures.state c.keep_exits.ensures.state c.keep_shares.ensures.state c.close_scan.ensures.state
