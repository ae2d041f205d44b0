use Rattle.std.proofs.Common.{◌<◌, ◌≤◌, ◌+◌, ◌^◌, ◌∙◌, ℕ, [], length, ap, sym, subst, get_or, arith, IsFalse, IsTrue}
use Rattle.k_types.specs.declared.names.Name.{Name}
use Rattle.k_types.specs.declared.names.Pid.{Pid}
use Rattle.k_types.specs.Agree.{CellValue}
use Rattle.k_types.specs.Counted.{counted}
use Rattle.k_types.specs.Names.{among, name_among}
use Rattle.k_types.specs.Owners.{object_bytes}
use Rattle.k_types.specs.State.{has_share}
use Rattle.k_types.specs.Totals.{total}
use Rattle.k_agree.specs.Ending.{HasLeft}
use Rattle.k_commit.specs.k_book.Books.{BookRecord}
use Rattle.k_commit.specs.k_cell.Holdings.{HoldingsValue}
use Rattle.k_commit.specs.k_heap.Heaps.{HeapRecord, holdings_of, own_segment}
use Rattle.k_own.specs.Charges.{bytes_shared, limit_in}
use Rattle.k_own.specs.Ending.{MarksEnded}
use Rattle.k_own.specs.Exits.{AreEntered, HasCut, into_segment}
use Rattle.k_own.specs.Segments.{CanGive}
use Rattle.k_own.proofs.GivenUp.{credited_book, drained_book, drained_heap, given_up, passed_kernel, same_process}
use Rattle.k_own.proofs.Leaver.{can_give, charge_fits, direct_small, exit_homed, heap_entered, home_there, kernel_entered, limit_there, lives_on_book, pinned, process_there, shares_known, sixteen, small}
use Rattle.k_own.proofs.exiting.end_process.Goals as goal

pub overflow_add-seg : goal.overflow_add-seg
overflow_add-seg g c =
    let small_pid = small g.trace c.args.cell.now c.args.kernel.now c.args.book.now c.requires in
    let same = ap (λ (p : Pid). p.0) c.pid.ensures in
    omega (arith, small_pid, same)

pub unpin_registers-requires : goal.unpin_registers-requires
unpin_registers-requires g c = record {
  small = small g.trace c.args.cell.now c.args.kernel.now c.args.book.now c.requires;
  few = sixteen g.trace c.args.cell.now c.args.kernel.now c.args.book.now c.requires;
  pinned = pinned g.trace c.args.cell.now c.args.kernel.now c.args.book.now c.requires;
}

pub credit_charge-requires-clause-process : goal.credit_charge-requires-clause-process
credit_charge-requires-clause-process g c =
    subst (λ (x : BookRecord). c.args.cell.now.pid.0 < length x.procs) (sym c.unpin_registers.ensures.rest) (process_there g.trace c.args.cell.now c.args.kernel.now c.args.book.now c.requires)

pub credit_charge-requires-clause-limit : goal.credit_charge-requires-clause-limit
credit_charge-requires-clause-limit g c =
    subst (λ (x : BookRecord). limit_in x c.args.cell.now.pid.0 < length x.rows) (sym c.unpin_registers.ensures.rest) (limit_there g.trace c.args.cell.now c.args.kernel.now c.args.book.now c.requires)

pub credit_charge-requires-clause-shared : goal.credit_charge-requires-clause-shared
credit_charge-requires-clause-shared g c =
    subst (λ (x : BookRecord). (t : ℕ) → IsTrue (has_share x.value.shares c.args.cell.now.pid.0 t) → t < length x.value.phases) (sym c.unpin_registers.ensures.rest)
    (shares_known g.trace c.args.cell.now c.args.kernel.now c.args.book.now c.requires)

pub credit_charge-requires-clause-charged : goal.credit_charge-requires-clause-charged
credit_charge-requires-clause-charged g c =
    subst (λ (x : BookRecord). total object_bytes c.args.cell.now.value.objects + bytes_shared x.value c.args.cell.now.pid.0 (length x.value.phases) ≤ get_or x.value.direct (limit_in x c.args.cell.now.pid.0) 0)
    (sym c.unpin_registers.ensures.rest) (charge_fits g.trace c.args.cell.now c.args.kernel.now c.args.book.now c.requires)

pub credit_charge-requires-clause-small : goal.credit_charge-requires-clause-small
credit_charge-requires-clause-small g c =
    subst (λ (x : BookRecord). get_or x.value.direct (limit_in x c.args.cell.now.pid.0) 0 < 2 ^ 64) (sym c.unpin_registers.ensures.rest)
    (direct_small g.trace c.args.cell.now c.args.kernel.now c.args.book.now c.requires)

pub cut_exits-requires : goal.cut_exits-requires
cut_exits-requires g c =
    let b = c.args.book.now in
    let met = c.requires in
    subst (λ (p : Pid). AreEntered (into_segment (p.0 + 1) c.args.kernel.now.value.exits) c.credit_charge.new.book.value) (sym c.pid.ensures)
    (subst (λ (x : BookRecord). AreEntered (into_segment (own_segment c.args.cell.now.pid) c.args.kernel.now.value.exits) x.value)
    (sym (credited_book b c.unpin_registers.new.book c.credit_charge.new.book c.args.cell.now.pid.0 _ c.unpin_registers.ensures.rest c.credit_charge.ensures))
    (kernel_entered g.trace c.args.cell.now c.args.kernel.now b met))

pub pass_exits-requires-clause-idle : goal.pass_exits-requires-clause-idle
pass_exits-requires-clause-idle g c =
    ap (λ (x : HoldingsValue). x.value.collection) c.cut_exits.ensures.cell ∙ ap (λ (v : CellValue). v.collection) c.cut_exits.ensures.cut.rest ∙ c.requires.have_met.other.idle

pub pass_exits-requires-clause-entered : goal.pass_exits-requires-clause-entered
pass_exits-requires-clause-entered g c =
    let b = c.args.book.now in
    let b2 = c.credit_charge.new.book in
    let b3 = c.cut_exits.new.book in
    let seg = own_segment c.args.cell.now.pid in
    let left : HasLeft (into_segment seg c.args.kernel.now.value.exits) b2.value b3.value =
    subst (λ (p : Pid). HasLeft (into_segment (p.0 + 1) c.args.kernel.now.value.exits) b2.value b3.value) c.pid.ensures c.cut_exits.ensures.left in
    heap_entered g.trace c.args.cell.now c.args.kernel.now b c.requires b3
    (λ n. left n ∙ ap (λ (x : BookRecord). counted x.value.entries n) (credited_book b c.unpin_registers.new.book b2 c.args.cell.now.pid.0 _ c.unpin_registers.ensures.rest c.credit_charge.ensures))

pub pass_exits-requires-clause-homes : goal.pass_exits-requires-clause-homes
pass_exits-requires-clause-homes g c =
    subst (λ (x : BookRecord). (n : Name) → IsTrue (name_among n c.args.cell.now.value.exits) → n.seg.0 < length x.value.homes)
    (sym (c.cut_exits.ensures.rest
    ∙ ap (λ (x : BookRecord). record x { value = record x.value { entries = c.cut_exits.new.book.value.entries } })
    (credited_book c.args.book.now c.unpin_registers.new.book c.credit_charge.new.book c.args.cell.now.pid.0 _ c.unpin_registers.ensures.rest c.credit_charge.ensures)))
    (exit_homed g.trace c.args.cell.now c.args.kernel.now c.args.book.now c.requires)

pub pass_exits-requires-clause-room : goal.pass_exits-requires-clause-room
pass_exits-requires-clause-room g c =
    let room = c.requires.room.exits in
    let fewer = c.cut_exits.ensures.cut.fewer in
    let same = ap (λ (x : HoldingsValue). x.exit_room) c.cut_exits.ensures.cell in
    omega (arith, room, fewer, same)

pub give_heap-requires-clause-small : goal.give_heap-requires-clause-small
give_heap-requires-clause-small g c =
    subst (λ (x : HeapRecord). x.pid.0 + 1 < 2 ^ 32) (sym c.pass_exits.ensures.cell) (small g.trace c.args.cell.now c.args.kernel.now c.args.book.now c.requires)

pub give_heap-requires-clause-can : goal.give_heap-requires-clause-can
give_heap-requires-clause-can g c =
    let h = c.args.cell.now in
    let k = c.args.kernel.now in
    let h1 = c.pass_exits.new.cell in
    let k1 = c.cut_exits.new.kernel in
    let k2 = c.pass_exits.new.kernel in
    let cut : HasCut (own_segment h.pid) k.value k1.value = subst (λ (p : Pid). HasCut (p.0 + 1) k.value k1.value) c.pid.ensures c.cut_exits.ensures.cut in
    subst (λ (x : HeapRecord). CanGive (own_segment x.pid) (holdings_of x) k2) (sym (drained_heap h h1 c.pass_exits.ensures.cell c.pass_exits.ensures.none))
    (subst (λ (x : HoldingsValue). CanGive (own_segment h.pid) (holdings_of (record h { value = record h.value { exits = []; black_exits = h1.value.black_exits } })) x)
    (sym (passed_kernel (own_segment h.pid) k k1 k2 c.cut_exits.ensures.cell cut c.pass_exits.ensures.kernel))
    (can_give g.trace h k c.args.book.now c.requires [] h1.value.black_exits k2.value.exits k1.value.black_exits))

pub mark_ended-requires-clause-small : goal.mark_ended-requires-clause-small
mark_ended-requires-clause-small g c =
    let same = same_process c.args.cell.now c.pass_exits.new.cell c.give_heap.new.cell c.pass_exits.ensures.cell c.pass_exits.ensures.none c.give_heap.ensures.rest in
    subst (λ (p : Pid). p.0 + 1 < 2 ^ 32) (sym same.0) (small g.trace c.args.cell.now c.args.kernel.now c.args.book.now c.requires)

pub mark_ended-requires-clause-home : goal.mark_ended-requires-clause-home
mark_ended-requires-clause-home g c =
    let same = same_process c.args.cell.now c.pass_exits.new.cell c.give_heap.new.cell c.pass_exits.ensures.cell c.pass_exits.ensures.none c.give_heap.ensures.rest in
    let book = drained_book c.args.book.now c.unpin_registers.new.book c.credit_charge.new.book c.cut_exits.new.book c.pass_exits.new.book c.args.cell.now.pid.0 _ c.unpin_registers.ensures.rest c.credit_charge.ensures
    c.cut_exits.ensures.rest c.pass_exits.ensures.rest in
    subst (λ (p : Pid). own_segment p < length c.pass_exits.new.book.value.homes) (sym same.0)
    (subst (λ (x : BookRecord). own_segment c.args.cell.now.pid < length x.value.homes) (sym book) (home_there g.trace c.args.cell.now c.args.kernel.now c.args.book.now c.requires))

pub mark_ended-requires-clause-process : goal.mark_ended-requires-clause-process
mark_ended-requires-clause-process g c =
    let same = same_process c.args.cell.now c.pass_exits.new.cell c.give_heap.new.cell c.pass_exits.ensures.cell c.pass_exits.ensures.none c.give_heap.ensures.rest in
    let book = drained_book c.args.book.now c.unpin_registers.new.book c.credit_charge.new.book c.cut_exits.new.book c.pass_exits.new.book c.args.cell.now.pid.0 _ c.unpin_registers.ensures.rest c.credit_charge.ensures
    c.cut_exits.ensures.rest c.pass_exits.ensures.rest in
    subst (λ (p : Pid). p.0 < length c.pass_exits.new.book.procs) (sym same.0)
    (subst (λ (x : BookRecord). c.args.cell.now.pid.0 < length x.procs) (sym book) (process_there g.trace c.args.cell.now c.args.kernel.now c.args.book.now c.requires))

pub mark_ended-requires-clause-lives : goal.mark_ended-requires-clause-lives
mark_ended-requires-clause-lives g c =
    let same = same_process c.args.cell.now c.pass_exits.new.cell c.give_heap.new.cell c.pass_exits.ensures.cell c.pass_exits.ensures.none c.give_heap.ensures.rest in
    let book = drained_book c.args.book.now c.unpin_registers.new.book c.credit_charge.new.book c.cut_exits.new.book c.pass_exits.new.book c.args.cell.now.pid.0 _ c.unpin_registers.ensures.rest c.credit_charge.ensures
    c.cut_exits.ensures.rest c.pass_exits.ensures.rest in
    subst (λ (p : Pid). IsFalse (among p.0 c.pass_exits.new.book.value.ended)) (sym same.0)
    (subst (λ (x : BookRecord). IsFalse (among c.args.cell.now.pid.0 x.value.ended)) (sym book) (lives_on_book g.trace c.args.cell.now c.args.kernel.now c.args.book.now c.requires))

pub returns : goal.returns
returns g c =
    let h = c.args.cell.now in
    let k = c.args.kernel.now in
    let b = c.args.book.now in
    let k1 = c.cut_exits.new.kernel in
    let b2 = c.credit_charge.new.book in
    let b3 = c.cut_exits.new.book in
    let same = same_process h c.pass_exits.new.cell c.give_heap.new.cell c.pass_exits.ensures.cell c.pass_exits.ensures.none c.give_heap.ensures.rest in
    given_up g.trace h k b c.requires c.pass_exits.new.cell c.give_heap.new.cell c.mark_ended.new.cell k1 c.pass_exits.new.kernel c.give_heap.new.kernel c.unpin_registers.new.book b2 b3 c.pass_exits.new.book
    c.mark_ended.new.book c.unpin_registers.ensures.gone c.unpin_registers.ensures.rest c.credit_charge.ensures
    c.cut_exits.ensures.cell (subst (λ (p : Pid). HasCut (p.0 + 1) k.value k1.value) c.pid.ensures c.cut_exits.ensures.cut)
    (subst (λ (p : Pid). HasLeft (into_segment (p.0 + 1) k.value.exits) b2.value b3.value) c.pid.ensures c.cut_exits.ensures.left) c.cut_exits.ensures.rest
    c.pass_exits.ensures.cell c.pass_exits.ensures.none c.pass_exits.ensures.kernel c.pass_exits.ensures.passed c.pass_exits.ensures.entries c.pass_exits.ensures.rest
    c.give_heap.ensures.rest c.give_heap.ensures.given c.mark_ended.ensures.cell
    (subst (λ (p : Pid). MarksEnded c.pass_exits.new.book c.mark_ended.new.book p.0 (own_segment p)) same.0 c.mark_ended.ensures.book)
