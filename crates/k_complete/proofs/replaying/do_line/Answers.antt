use Rattle.std.proofs.Common.{◌<◌, refl, sym, ◌∙◌, subst, None}
use Rattle.k_operate.specs.k_process.declared.process.Process.{Process}
use Rattle.k_operate.specs.k_process.Heaps.{value_of}
use Rattle.k_operate.specs.k_process.BetweenSteps.{ComesNext, IsNextOf, ProcessStands}
use Rattle.k_operate.specs.Steps.{HasPublishedAll}
use Rattle.k_complete.proofs.LineKept.{line_can_do, line_can_meet, line_of_none, line_of_some, line_stands, line_there, read_met}
use Rattle.k_complete.proofs.PlacedKept.{read_there}
use Rattle.k_complete.proofs.replaying.do_line.Goals as goal
use Rattle.k_types.proofs.Lists.{same_value}

pub meet_heap-requires : goal.meet_heap-requires
meet_heap-requires g c =
    let there = read_there c.args.heaps.now.processes.items c.args.heaps.now.processes.items c.args.at c.index_mut.result.now refl c.requires.inside c.index_mut.ensures.value in
    line_can_meet g.world' (value_of c.args.heaps.now) c.args.at c.requires c.index_mut.result.now there

pub next-requires : goal.next-requires
next-requires g c =
    let there = read_there c.args.heaps.now.processes.items c.args.heaps.now.processes.items c.args.at c.index_mut.result.now refl c.requires.inside c.index_mut.ensures.value in
    let same = read_met g.world' (value_of c.args.heaps.now) c.args.at c.requires c.index_mut.result.now there c.meet_heap.new.cell c.meet_heap.new.book c.meet_heap.ensures c.index.result.now c.index.ensures in
    subst (ProcessStands g.world') same (line_stands g.world' (value_of c.args.heaps.now) c.args.at c.requires c.index_mut.result.now there c.meet_heap.new.cell c.meet_heap.new.book c.meet_heap.ensures)

pub do_at-requires : goal.do_at-requires
do_at-requires g c =
    let there = read_there c.args.heaps.now.processes.items c.args.heaps.now.processes.items c.args.at c.index_mut.result.now refl c.requires.inside c.index_mut.ensures.value in
    let same = read_met g.world' (value_of c.args.heaps.now) c.args.at c.requires c.index_mut.result.now there c.meet_heap.new.cell c.meet_heap.new.book c.meet_heap.ensures c.index.result.now c.index.ensures in
    let next = subst (λ (q : Process). ComesNext g.world'.trace q.cell c.in-Some.op) (sym same) c.in-Some.ensures in
    (record c.index_mut.result.now { cell = c.meet_heap.new.cell }, line_can_do g.world' (value_of c.args.heaps.now) c.args.at c.requires c.index_mut.result.now there c.meet_heap.new.cell c.meet_heap.new.book c.meet_heap.ensures c.in-Some.op next)

pub index_mut-requires-in-Some : goal.index_mut-requires-in-Some
index_mut-requires-in-Some g c =
    let there = read_there c.args.heaps.now.processes.items c.args.heaps.now.processes.items c.args.at c.index_mut.result.now refl c.requires.inside c.index_mut.ensures.value in
    let d = c.do_at.ensures (record c.index_mut.result.now { cell = c.meet_heap.new.cell }) (line_there g.world' (value_of c.args.heaps.now) c.args.at c.requires c.index_mut.result.now there c.meet_heap.new.cell c.meet_heap.new.book c.meet_heap.ensures) in
    subst (λ n. c.args.at < n) (sym (c.do_at.new.heaps.processes.ok.0 ∙ d.stand.processes.count ∙ sym c.requires.stand.processes.count)) c.requires.inside

pub publish_all-requires : goal.publish_all-requires
publish_all-requires g c =
    let there = read_there c.args.heaps.now.processes.items c.args.heaps.now.processes.items c.args.at c.index_mut.result.now refl c.requires.inside c.index_mut.ensures.value in
    let d = c.do_at.ensures (record c.index_mut.result.now { cell = c.meet_heap.new.cell }) (line_there g.world' (value_of c.args.heaps.now) c.args.at c.requires c.index_mut.result.now there c.meet_heap.new.cell c.meet_heap.new.book c.meet_heap.ensures) in
    let last = read_there c.do_at.new.heaps.processes.items c.args.heaps.now.processes.items c.args.at c.index_mut-in-Some.result.now (d.stand.processes.count ∙ sym c.requires.stand.processes.count) c.requires.inside c.index_mut-in-Some.ensures.value in
    record { process = d.stand.processes.each c.args.at c.index_mut-in-Some.result.now last; book = d.stand.rest.book }

pub returns-in-Some : goal.returns-in-Some
returns-in-Some g c =
    let there = read_there c.args.heaps.now.processes.items c.args.heaps.now.processes.items c.args.at c.index_mut.result.now refl c.requires.inside c.index_mut.ensures.value in
    let same = read_met g.world' (value_of c.args.heaps.now) c.args.at c.requires c.index_mut.result.now there c.meet_heap.new.cell c.meet_heap.new.book c.meet_heap.ensures c.index.result.now c.index.ensures in
    let next = subst (λ (q : Process). ComesNext g.world'.trace q.cell c.in-Some.op) (sym same) c.in-Some.ensures in
    let d = c.do_at.ensures (record c.index_mut.result.now { cell = c.meet_heap.new.cell }) (line_there g.world' (value_of c.args.heaps.now) c.args.at c.requires c.index_mut.result.now there c.meet_heap.new.cell c.meet_heap.new.book c.meet_heap.ensures) in
    let last = read_there c.do_at.new.heaps.processes.items c.args.heaps.now.processes.items c.args.at c.index_mut-in-Some.result.now (d.stand.processes.count ∙ sym c.requires.stand.processes.count) c.requires.inside c.index_mut-in-Some.ensures.value in
    line_of_some g.world' (value_of c.args.heaps.now) c.args.at c.requires c.index_mut.result.now there c.meet_heap.new.cell c.meet_heap.new.book c.meet_heap.ensures c.in-Some.op next
    (value_of c.do_at.new.heaps) c.publish_all.new.book d c.publish_all.new.process
    (subst (λ (q : Process). HasPublishedAll g.world' q c.publish_all.new.process c.do_at.new.heaps.book c.publish_all.new.book) (same_value (sym last ∙ d.there)) c.publish_all.ensures)

pub returns-in-None : goal.returns-in-None
returns-in-None g c =
    let there = read_there c.args.heaps.now.processes.items c.args.heaps.now.processes.items c.args.at c.index_mut.result.now refl c.requires.inside c.index_mut.ensures.value in
    let same = read_met g.world' (value_of c.args.heaps.now) c.args.at c.requires c.index_mut.result.now there c.meet_heap.new.cell c.meet_heap.new.book c.meet_heap.ensures c.index.result.now c.index.ensures in
    line_of_none g.world' (value_of c.args.heaps.now) c.args.at c.requires c.index_mut.result.now there c.meet_heap.new.cell c.meet_heap.new.book c.meet_heap.ensures (subst (λ (q : Process). IsNextOf g.world'.trace q.cell None) (sym same) c.in-None.ensures)
