use Rattle.std.proofs.Common.{◌≡◌, ◌∙◌, ◌<◌, ap, subst, sym}
use Rattle.k_types.specs.Trace.{process_count}
use Rattle.k_state.specs.Machines.{Machine}
use Rattle.k_check.specs.Walks.{IsWalk, Walked}
use Rattle.k_check.proofs.Walks.{count_is}
use Rattle.k_check.proofs.InTurn.{turn_if, turn_none}
use Rattle.k_check.proofs.walking.Walk.is_in_turn.Goals as goal

pub returns-in-Some : goal.returns-in-Some
returns-in-Some c =
    let walk : IsWalk c.args.self.now c.self.inside.state = subst (λ (w : Walked). IsWalk w c.self.inside.state) c.self.view_is c.self.invariant in
    let count : c.process_count.result ≡ process_count c.args.self.now.trace.trace = c.process_count.ensures ∙ ap (λ (m : Machine). process_count m.setup) c.lists.ensures.same ∙ count_is c.args.self.now c.self.inside.state walk in
    turn_if c.args.self.now.trace.trace c.args.self.now.history c.args.event.now c.in-Done.pid c.in-Done.op c.in-Some.next c.in-Done.reply c.is_same_op.result walk.begun c.in-Done.is
    (subst (λ n. c.in-Done.pid.0 < n) count c.if-pid-process_count.false) (sym c.next_operation.ensures ∙ c.in-Some.is) c.is_same_op.ensures

pub returns-in-None : goal.returns-in-None
returns-in-None c =
    turn_none c.args.self.now.trace.trace c.args.self.now.history c.args.event.now c.in-Done.pid c.in-Done.op c.in-Done.reply c.in-Done.is (sym c.next_operation.ensures ∙ c.in-None.is)
