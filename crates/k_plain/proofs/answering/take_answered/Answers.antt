use Rattle.std.proofs.Common.{◌≡◌, ℕ, List, ap, ◌∙◌, get_or, arith}
use Rattle.k_types.specs.State.{State}
use Rattle.k_types.specs.Replies.{faults, first_fault}
use Rattle.k_plain.proofs.answering.take_answered.Goals as goal
use Rattle.k_laws.proofs.Effects.{unless_done}

pub count_done-requires-clause-room : goal.count_done-requires-clause-room
count_done-requires-clause-room c =
    let m = c.args.lists.now in
    let p = c.args.pid.0 in
    let same : c.take_effect_unless_refused.new.lists.state.done ≡ m.state.done
    = ap (λ (st : State). st.done) c.in_ok-take_effect_unless_refused.ensures.ok
    ∙ unless_done (first_fault (faults m.setup m.state p c.args.op.now)) m.setup p c.args.op.now m.state in
    omega (arith, ap (λ (ns : List ℕ). get_or ns p 0) same, c.requires.room.done p)
