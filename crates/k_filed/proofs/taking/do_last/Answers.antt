use Rattle.std.proofs.Common.{◌≡◌, ◌++◌, List, [], Some, true, ap, subst, sym, ◌∙◌, if◌then◌else◌, arith}
use Rattle.std.specs.Prelude.{OnOk}
use Rattle.k_types.specs.declared.event.Event.{Event}
use Rattle.k_types.specs.declared.event.Event.TheVariants.{Closing}
use Rattle.k_types.specs.declared.names.Heap.TheVariants.{Kernel}
use Rattle.k_types.specs.Complete.{all_ended}
use Rattle.k_types.specs.FileOrder.{absorptions, last_events, with_end}
use Rattle.k_types.specs.Steps.{IsRun, run}
use Rattle.k_state.specs.Machines.{Machine}
use Rattle.k_laws.proofs.Histories.{legal_front}
use Rattle.k_filed.specs.Taken.{HasTaken}
use Rattle.k_filed.proofs.Joined.{tail_legal, tail_taken, taken_room}
use Rattle.k_filed.proofs.Absorptions.{few_absorptions}
use Rattle.k_filed.proofs.taking.do_last.Goals as goal

-- the last events, where every process has ended
when_ended : (m : Machine) → all_ended m.setup m.state ≡ true →
    last_events m.setup m.state ≡ absorptions m.setup m.state ++ with_end m.setup (run m.setup m.state (absorptions m.setup m.state)) Closing (Some Kernel)
when_ended m over =
    ap (λ b. if b then (absorptions m.setup m.state ++ with_end m.setup (run m.setup m.state (absorptions m.setup m.state)) Closing (Some Kernel)) else []) over

whole : (m : Machine) → IsRun m.setup m.state (last_events m.setup m.state) → all_ended m.setup m.state ≡ true →
    IsRun m.setup m.state (absorptions m.setup m.state ++ with_end m.setup (run m.setup m.state (absorptions m.setup m.state)) Closing (Some Kernel))
whole m legal over = subst (IsRun m.setup m.state) (when_ended m over) legal

pub absorb_orphans-requires-clause-legal : goal.absorb_orphans-requires-clause-legal
absorb_orphans-requires-clause-legal c =
    let m = c.args.state.now in
    let over : all_ended m.setup m.state ≡ true = ap (λ (n : Machine). all_ended n.setup n.state) (sym c.lists.ensures.same) ∙ sym c.all_ended.ensures ∙ c.if-not-all_ended.false in
    legal_front m.setup m.state (absorptions m.setup m.state) (with_end m.setup (run m.setup m.state (absorptions m.setup m.state)) Closing (Some Kernel)) (whole m c.requires.legal over)

pub take_closing-requires-clause-legal : goal.take_closing-requires-clause-legal
take_closing-requires-clause-legal c =
    let m = c.args.state.now in
    let over : all_ended m.setup m.state ≡ true = ap (λ (n : Machine). all_ended n.setup n.state) (sym c.lists.ensures.same) ∙ sym c.all_ended.ensures ∙ c.if-not-all_ended.false in
    tail_legal m c.absorb_orphans.new.state c.args.events.now.items c.absorb_orphans.new.events.items (absorptions m.setup m.state)
    (λ trace st. with_end trace st Closing (Some Kernel)) c.in_ok-absorb_orphans.ensures (whole m c.requires.legal over)

pub take_closing-requires-clause-room : goal.take_closing-requires-clause-room
take_closing-requires-clause-room c =
    let m = c.args.state.now in
    taken_room 66 2 m c.absorb_orphans.new.state c.args.events.now.items c.absorb_orphans.new.events.items (absorptions m.setup m.state)
    (let few = few_absorptions m.setup m.state in omega (arith, few, c.requires.few)) c.in_ok-absorb_orphans.ensures c.requires.room

pub returns : goal.returns
returns c =
    let m = c.args.state.now in
    let over : all_ended m.setup m.state ≡ true = ap (λ (n : Machine). all_ended n.setup n.state) (sym c.lists.ensures.same) ∙ sym c.all_ended.ensures ∙ c.if-not-all_ended.false in
    subst (λ (es : List Event). OnOk c.take_closing.result (HasTaken m c.take_closing.new.state c.args.events.now.items c.take_closing.new.events.items es))
    (sym (when_ended m over))
    (tail_taken c.take_closing.result m c.absorb_orphans.new.state c.take_closing.new.state c.args.events.now.items c.absorb_orphans.new.events.items c.take_closing.new.events.items
    (absorptions m.setup m.state) (λ trace st. with_end trace st Closing (Some Kernel)) c.in_ok-absorb_orphans.ensures c.take_closing.ensures)
