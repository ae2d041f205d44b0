use Rattle.std.proofs.Common.{◌≡◌, filter, ap, ◌∙◌}
use Rattle.k_types.specs.Updates.{keep_shares}
use Rattle.k_state.specs.Machines.{Machine}
use Rattle.k_state.specs.Marks.{marked}
use Rattle.k_state.proofs.Marked.{marked_passing}
use Rattle.k_state.proofs.Views.{shares_are}
use Rattle.k_state.proofs.lists.PlainLists.keep_shares.Goals as goal

pub returns-clause-state : goal.returns-clause-state
unfolding keep_shares
returns-clause-state c = λ passes say.
    let m = c.args.self.now in
    let same : c.self.inside.shares.items ≡ m.state.shares = ap (λ (n : Machine). n.state.shares) c.self.view_is in
    let kept : c.keep_marked.new.items.items ≡ filter passes m.state.shares
    = c.keep_marked.ensures ∙ ap (marked c.args.stays.now) same ∙ marked_passing passes c.args.stays.now m.state.shares say in
    shares_are _ m c.keep_marked.new.items.items (filter passes m.state.shares) c.self.view_is kept
