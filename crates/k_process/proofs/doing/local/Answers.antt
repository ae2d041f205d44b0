use Rattle.std.proofs.Common.{◌≡◌, List, length, Some, is_some, sym, ap, subst, ◌∙◌, arith}
use Rattle.k_types.specs.declared.event.Event.{Event}
use Rattle.k_laws.specs.PartUpdates.{done_in}
use Rattle.k_commit.specs.k_heap.Heaps.{HeapRecord}
use Rattle.k_process.specs.Locals.{IsMachines, local_answer}
use Rattle.k_process.proofs.Done.{done_kept, local_seen, tail_kept}
use Rattle.k_process.proofs.Told.{leaves_the_book, local_told, machines}
use Rattle.k_process.proofs.doing.local.Goals as goal

pub count_done-requires : goal.count_done-requires
count_done-requires c =
    let same = ap (λ (h : HeapRecord). done_in h.value.process) c.in_ok-reply.ensures.some ∙ done_kept c.args.cell.now.value c.args.op.now c.in_ok-reply.reply in
    omega (arith, same, c.requires.count)

pub push_tail-requires : goal.push_tail-requires
push_tail-requires c =
    let long = ap (λ (h : HeapRecord). length h.value.tail) c.count_done.ensures ∙ ap (λ (h : HeapRecord). length h.value.tail) c.in_ok-reply.ensures.some ∙ ap (λ (events : List Event). length events) (tail_kept c.args.cell.now.value c.args.op.now c.in_ok-reply.reply) in
    let room = ap (λ (h : HeapRecord). h.tail_room) c.count_done.ensures ∙ ap (λ (h : HeapRecord). h.tail_room) c.in_ok-reply.ensures.some in
    omega (arith, long, room, c.requires.room)

pub returns-clause-some : goal.returns-clause-some
returns-clause-some c = local_seen c.args.cell.now c.apply.new.cell c.count_done.new.self c.push_tail.new.self c.args.op.now c.in_ok-reply.reply c.pid-pid.result c.in_ok-reply.ensures.some c.count_done.ensures c.pid-pid.ensures c.push_tail.ensures

pub returns-clause-told : goal.returns-clause-told
returns-clause-told c =
    let e : Some c.in_ok-reply.reply ≡ local_answer c.args.cell.now.value c.args.cell.now.pid.0 c.args.op.now = sym c.in_ok-reply.was ∙ c.apply.ensures.answer in
    ap is_some e ∙ local_told c.args.cell.now.value c.args.cell.now.pid.0 c.args.op.now

pub returns-clause-machines : goal.returns-clause-machines
returns-clause-machines c = λ trace book parts own.
    let e : local_answer c.args.cell.now.value c.args.cell.now.pid.0 c.args.op.now ≡ Some c.in_ok-reply.reply = sym c.apply.ensures.answer ∙ c.in_ok-reply.was in
    subst (λ (h : HeapRecord). IsMachines trace book parts c.args.cell.now.pid c.args.cell.now.value h.value c.args.op.now c.in_ok-reply.reply)
    (sym (local_seen c.args.cell.now c.apply.new.cell c.count_done.new.self c.push_tail.new.self c.args.op.now c.in_ok-reply.reply c.pid-pid.result c.in_ok-reply.ensures.some c.count_done.ensures c.pid-pid.ensures c.push_tail.ensures))
    (machines trace book parts c.args.cell.now.pid c.args.cell.now.value c.args.op.now c.in_ok-reply.reply own e)

pub returns-clause-book : goal.returns-clause-book
returns-clause-book c = leaves_the_book c.args.cell.now.pid c.args.cell.now.value c.args.op.now c.in_ok-reply.reply (sym c.apply.ensures.answer ∙ c.in_ok-reply.was)

pub returns-in_err-reply-clause-told : goal.returns-in_err-reply-clause-told
returns-in_err-reply-clause-told c =
    rw c.from_residual.ensures (ap is_some (sym c.in_err-reply.was ∙ c.apply.ensures.answer) ∙ local_told c.args.cell.now.value c.args.cell.now.pid.0 c.args.op.now)
