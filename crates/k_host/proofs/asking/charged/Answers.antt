use Rattle.std.proofs.Common.{◌+◌, ◌∙◌, length, ap, arith}
use Rattle.k_types.specs.declared.names.Pid.{Pid}
use Rattle.k_host.proofs.Charged.{at_most, for_heap, goes_on, so_far}
use Rattle.k_host.proofs.asking.charged.Goals as goal

pub overflow_add-bytes : goal.overflow_add-bytes
overflow_add-bytes c =
    let book = c.args.book.now.value in
    let value = c.args.cell.now.value in
    let p = c.args.cell.now.pid.0 in
    let here = c.charged_for-bytes.ensures ∙ ap (λ (pid : Pid). for_heap c.args.book.now.value pid.0 c.loop-id.id) c.pid-pid.ensures in
    let sum = goes_on book value p c.loop-id.id c.loop-id.bytes c.charged_for-bytes.result c.loop-id.invariant here in
    let most = at_most book value p (c.loop-id.id + 1) (length book.phases) (omega (arith, c.loop-id-test.true, c.shared_heaps-id-end.ensures)) in
    let all = ap (so_far book value p) c.requires.heaps in
    let small = c.requires.small in
    omega (arith, sum, most, all, small)

pub loop-id-preserved : goal.loop-id-preserved
loop-id-preserved c =
    goes_on c.args.book.now.value c.args.cell.now.value c.args.cell.now.pid.0 c.loop-id.id c.loop-id.bytes c.charged_for-bytes.result c.loop-id.invariant
    (c.charged_for-bytes.ensures ∙ ap (λ (pid : Pid). for_heap c.args.book.now.value pid.0 c.loop-id.id) c.pid-pid.ensures)
