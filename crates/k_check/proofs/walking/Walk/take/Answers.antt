use Rattle.std.proofs.Common.{◌∙◌, ◌++◌, ◌∷◌, [], List, refl, sym, subst, ap}
use Rattle.k_types.specs.declared.event.Event.{Event}
use Rattle.k_trace.specs.Meaning.{meaning_of}
use Rattle.k_reports.specs.Begun.{IsBegun}
use Rattle.k_check.specs.Walks.{IsWalk, Walked}
use Rattle.k_check.proofs.InTurn.{begun_with, may_come, turn_of}
use Rattle.k_check.proofs.Rooms.{room_here}
use Rattle.k_check.proofs.Walks.{goes_on, possible_here, possible_there}
use Rattle.k_check.proofs.walking.Walk.take.Goals as goal

pub plain_step-requires : goal.plain_step-requires
plain_step-requires c = room_here _ c.self.inside.state c.self.invariant

pub returns-then-not-is_in_turn-clause-next : goal.returns-then-not-is_in_turn-clause-next
returns-then-not-is_in_turn-clause-next c = (λ t. absurd cc, λ begun. absurd (let turn = c.is_in_turn.ensures.1 (turn_of c.args.self.now.trace.trace c.args.self.now.history c.args.event.now begun) in cc (turn, c.if-not-is_in_turn.true)))

pub returns-then-not-branch-clause-next : goal.returns-then-not-branch-clause-next
returns-then-not-branch-clause-next c =
    let walk : IsWalk c.args.self.now c.self.inside.state = subst (λ (w : Walked). IsWalk w c.self.inside.state) c.self.view_is c.self.invariant in (
      λ t. absurd cc,
      λ begun. absurd (let may = possible_there c.args.self.now c.self.inside.state c.args.event.now walk (may_come c.args.self.now.trace.trace c.args.self.now.history c.args.event.now begun) in
          let had = c.in_ok-plain_step.ensures.possible.1 may in cc (had, c.if-not-branch.true)),
    )

pub invariant_of-self-2 : goal.invariant_of-self-2
invariant_of-self-2 c =
    let walk : IsWalk c.args.self.now c.self.inside.state = subst (λ (w : Walked). IsWalk w c.self.inside.state) c.self.view_is c.self.invariant in
    let turn = c.is_in_turn.ensures.0 c.if-not-is_in_turn.false in
    let may = possible_here c.args.self.now c.self.inside.state c.args.event.now walk (c.in_ok-plain_step.ensures.possible.0 c.if-not-branch.false) in
    let begun = begun_with c.args.self.now.trace.trace c.args.self.now.history c.args.event.now walk.begun turn may in
    let here = subst (λ (w : Walked). IsBegun w.trace.trace (w.history ++ c.args.event.now ∷ [])) (sym c.self.view_is) begun in
    goes_on (meaning_of c.self.inside.trace.now) c.self.inside.events.items c.push.new.self.items c.self.inside.state c.plain_step.new.state c.args.event.now c.self.invariant here
    c.in_ok-plain_step.ensures.setup (c.in_ok-plain_step.ensures.stepped c.if-not-branch.false)
    (c.in-Ok.ensures.items ∙ ap (λ (xs : List Event). xs ++ c.args.event.now ∷ []) c.in_ok-reserve.ensures.items)

pub returns-clause-next : goal.returns-clause-next
returns-clause-next c =
    let walk : IsWalk c.args.self.now c.self.inside.state = subst (λ (w : Walked). IsWalk w c.self.inside.state) c.self.view_is c.self.invariant in
    let turn = c.is_in_turn.ensures.0 c.if-not-is_in_turn.false in
    let may = possible_here c.args.self.now c.self.inside.state c.args.event.now walk (c.in_ok-plain_step.ensures.possible.0 c.if-not-branch.false) in
    (λ t. begun_with c.args.self.now.trace.trace c.args.self.now.history c.args.event.now walk.begun turn may, λ begun. refl)
