use Rattle.std.proofs.Common.{[], arith, subst, sym}
use Rattle.k_types.specs.Trace.{trace_of}
use Rattle.k_work.specs.Crediting.{AreSmall}
use Rattle.k_work.proofs.Small.{table_small}
use Rattle.k_work.proofs.Tallied.{all_tallied, may_be_taken, room_to_credit, room_to_take, tallied_then}
use Rattle.k_work.proofs.working.work_of.Goals as goal

pub take-requires-clause-possible : goal.take-requires-clause-possible
take-requires-clause-possible g c =
    may_be_taken (trace_of c.args.setup.now [] []) (g.V.View.events c.args.view.now) c.requires.setup c.requires.legal c.requires.few c.loop-i.i c.event-event.result.now c.event-event.ensures.there
    c.loop-i.state c.loop-i.kernel c.loop-i.table c.loop-i.invariant

pub take-requires-clause-room : goal.take-requires-clause-room
take-requires-clause-room g c =
    room_to_take (trace_of c.args.setup.now [] []) (g.V.View.events c.args.view.now) c.requires.setup c.requires.legal c.requires.few c.loop-i.i c.event-event.result.now c.event-event.ensures.there
    c.loop-i.state c.loop-i.kernel c.loop-i.table c.loop-i.invariant

pub credit-requires : goal.credit-requires
credit-requires g c =
    room_to_credit (trace_of c.args.setup.now [] []) (g.V.View.events c.args.view.now) c.requires.setup c.requires.legal c.requires.few c.loop-i.i c.event-event.result.now c.event-event.ensures.there
    c.loop-i.state c.loop-i.kernel c.loop-i.table c.loop-i.invariant c.take.new.self c.take.ensures.setup c.in_ok-take.ensures.state

pub loop-i-preserved : goal.loop-i-preserved
loop-i-preserved g c =
    tallied_then (trace_of c.args.setup.now [] []) (g.V.View.events c.args.view.now) c.requires.setup c.requires.legal c.requires.few c.loop-i.i c.event-event.result.now c.event-event.ensures.there
    c.loop-i.state c.loop-i.kernel c.loop-i.table c.loop-i.invariant c.take.new.self c.take.ensures.setup c.in_ok-take.ensures.state
    c.kernel_asker-kernel.result c.credit.new.table c.kernel_asker-kernel.ensures c.credit.ensures

pub returns-clause-exact : goal.returns-clause-exact
returns-clause-exact g c =
    all_tallied (trace_of c.args.setup.now [] []) (g.V.View.events c.args.view.now) c.loop-i.i c.loop-i.state c.loop-i.kernel c.loop-i.table (omega arith) c.loop-i.invariant

pub returns-clause-small : goal.returns-clause-small
returns-clause-small g c =
    subst AreSmall
    (sym (all_tallied (trace_of c.args.setup.now [] []) (g.V.View.events c.args.view.now) c.loop-i.i c.loop-i.state c.loop-i.kernel c.loop-i.table (omega arith) c.loop-i.invariant))
    (table_small (trace_of c.args.setup.now [] []) (g.V.View.events c.args.view.now) c.requires.setup c.requires.legal c.requires.few)
