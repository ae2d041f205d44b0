use Rattle.std.proofs.Common.{◌≡◌, ◌≤◌, List, length, filter, ap, subst, sym, ◌∙◌}
use Rattle.k_types.specs.State.{ExitItem}
use Rattle.k_types.specs.Updates.{keep_exits}
use Rattle.k_state.specs.Machines.{Machine}
use Rattle.k_state.specs.Marks.{marked}
use Rattle.k_state.proofs.Kept.{kept_exits}
use Rattle.k_state.proofs.Marked.{length_marked, marked_passing}
use Rattle.k_state.proofs.Views.{exits_are}
use Rattle.k_state.proofs.lists.PlainLists.keep_exits.Goals as goal

pub invariant_of-self : goal.invariant_of-self
invariant_of-self c =
    let exits : List ExitItem = c.self.inside.exits in
    let fewer : length c.keep.new.self ≤ length exits
    = subst (λ (es : List ExitItem). length es ≤ length exits) (sym c.keep.ensures) (length_marked c.args.stays.now exits) in
    kept_exits _ _ c.keep.new.self c.self.invariant fewer

pub returns-clause-state : goal.returns-clause-state
unfolding keep_exits
returns-clause-state c = λ passes say.
    let m = c.args.self.now in
    let same : c.self.inside.exits ≡ m.state.exits = ap (λ (n : Machine). n.state.exits) c.self.view_is in
    let kept : c.keep.new.self ≡ filter passes m.state.exits
    = c.keep.ensures ∙ ap (marked c.args.stays.now) same ∙ marked_passing passes c.args.stays.now m.state.exits say in
    exits_are _ m c.keep.new.self (filter passes m.state.exits) c.self.view_is kept
