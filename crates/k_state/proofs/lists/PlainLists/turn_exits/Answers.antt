use Rattle.std.proofs.Common.{◌≡◌, ◌≤◌, List, length, filter_map, ap, subst, sym, ◌∙◌}
use Rattle.k_types.specs.State.{ExitItem}
use Rattle.k_types.specs.Updates.{turn_exits}
use Rattle.k_state.specs.Machines.{Machine}
use Rattle.k_state.specs.Marks.{staying_items}
use Rattle.k_state.proofs.Kept.{kept_exits}
use Rattle.k_state.proofs.Marked.{length_staying, staying_turned}
use Rattle.k_state.proofs.Views.{exits_are}
use Rattle.k_state.proofs.lists.PlainLists.turn_exits.Goals as goal

pub invariant_of-self : goal.invariant_of-self
invariant_of-self c =
    let exits : List ExitItem = c.self.inside.exits in
    let fewer : length c.turn.new.self ≤ length exits
    = subst (λ (es : List ExitItem). length es ≤ length exits) (sym c.turn.ensures) (length_staying c.args.heaps.now exits) in
    kept_exits _ _ c.turn.new.self c.self.invariant fewer

pub returns-clause-state : goal.returns-clause-state
unfolding turn_exits
returns-clause-state c = λ turned say.
    let m = c.args.self.now in
    let same : c.self.inside.exits ≡ m.state.exits = ap (λ (n : Machine). n.state.exits) c.self.view_is in
    let kept : c.turn.new.self ≡ filter_map turned m.state.exits
    = c.turn.ensures ∙ ap (staying_items c.args.heaps.now) same ∙ ap (filter_map (λ e. e)) say ∙ staying_turned turned m.state.exits in
    exits_are _ m c.turn.new.self (filter_map turned m.state.exits) c.self.view_is kept
