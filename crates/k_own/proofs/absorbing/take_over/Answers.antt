use Rattle.std.proofs.Common.{◌<◌, ℕ, [], length, sym, subst}
use Rattle.k_types.specs.declared.names.Seg.{Seg}
use Rattle.k_agree.specs.Ending.{HasLeft}
use Rattle.k_commit.specs.k_book.Books.{BookRecord}
use Rattle.k_commit.specs.k_cell.Holdings.{HoldingsValue}
use Rattle.k_commit.specs.k_shared.SharedHeaps.{SharedRecord, holdings_of}
use Rattle.k_own.specs.Ending.{MarksAbsorbed}
use Rattle.k_own.specs.Exits.{AreEntered, HasCut, into_segment}
use Rattle.k_own.specs.Segments.{CanGive}
use Rattle.k_own.proofs.Leaving.{entries_change}
use Rattle.k_own.proofs.Orphaned.{can_give, heap_entered, home_there, kernel_entered, phase_there}
use Rattle.k_own.proofs.TakenOver.{kernel_drained, same_heap, shared_drained, taken_over}
use Rattle.k_own.proofs.absorbing.take_over.Goals as goal

pub leave_exits-requires : goal.leave_exits-requires
leave_exits-requires g c = heap_entered g.trace c.args.shared.now c.args.kernel.now c.args.book.now c.requires

pub cut_exits-requires : goal.cut_exits-requires
cut_exits-requires g c =
    subst (λ (n : Seg). AreEntered (into_segment n.0 c.args.kernel.now.value.exits) c.leave_exits.new.book.value) (sym c.seg-seg.ensures)
    (kernel_entered g.trace c.args.shared.now c.args.kernel.now c.args.book.now c.requires c.leave_exits.new.book c.leave_exits.ensures.left)

pub give_shared-requires : goal.give_shared-requires
give_shared-requires g c =
    let s = c.args.shared.now in
    let k = c.args.kernel.now in
    let s1 = c.leave_exits.new.shared in
    let k1 = c.cut_exits.new.kernel in
    let cut : HasCut s.seg.0 k.value k1.value = subst (λ (n : Seg). HasCut n.0 k.value k1.value) c.seg-seg.ensures c.cut_exits.ensures.cut in
    subst (λ (x : SharedRecord). CanGive x.seg.0 (holdings_of x) k1) (sym (shared_drained s s1 k k1 c.leave_exits.ensures.cell c.leave_exits.ensures.none c.cut_exits.ensures.cell cut))
    (subst (λ (x : HoldingsValue). CanGive s.seg.0 (holdings_of (record s { value = record s.value { exits = []; black_exits = s1.value.black_exits } })) x)
    (sym (kernel_drained s s1 k k1 c.leave_exits.ensures.cell c.leave_exits.ensures.none c.cut_exits.ensures.cell cut))
    (can_give g.trace s k c.args.book.now c.requires [] s1.value.black_exits k1.value.exits k1.value.black_exits))

pub mark_absorbed-requires-clause-heap : goal.mark_absorbed-requires-clause-heap
mark_absorbed-requires-clause-heap g c =
    let same = same_heap c.args.shared.now c.leave_exits.new.shared c.give_shared.new.shared c.leave_exits.ensures.cell c.give_shared.ensures.rest in
    subst (λ (x : BookRecord). c.give_shared.new.shared.id.0 < length x.value.phases)
    (sym (entries_change c.args.book.now c.leave_exits.new.book c.cut_exits.new.book c.leave_exits.ensures.rest c.cut_exits.ensures.rest))
    (subst (λ (n : ℕ). n < length c.args.book.now.value.phases) (sym same.0) (phase_there g.trace c.args.shared.now c.args.kernel.now c.args.book.now c.requires))

pub mark_absorbed-requires-clause-home : goal.mark_absorbed-requires-clause-home
mark_absorbed-requires-clause-home g c =
    let same = same_heap c.args.shared.now c.leave_exits.new.shared c.give_shared.new.shared c.leave_exits.ensures.cell c.give_shared.ensures.rest in
    subst (λ (x : BookRecord). c.give_shared.new.shared.seg.0 < length x.value.homes)
    (sym (entries_change c.args.book.now c.leave_exits.new.book c.cut_exits.new.book c.leave_exits.ensures.rest c.cut_exits.ensures.rest))
    (subst (λ (n : ℕ). n < length c.args.book.now.value.homes) (sym same.1) (home_there g.trace c.args.shared.now c.args.kernel.now c.args.book.now c.requires))

pub returns : goal.returns
returns g c =
    let s = c.args.shared.now in
    let k = c.args.kernel.now in
    let b = c.args.book.now in
    let s1 = c.leave_exits.new.shared in
    let s2 = c.give_shared.new.shared in
    let k1 = c.cut_exits.new.kernel in
    let b1 = c.leave_exits.new.book in
    let b2 = c.cut_exits.new.book in
    let b3 = c.mark_absorbed.new.book in
    let same = same_heap s s1 s2 c.leave_exits.ensures.cell c.give_shared.ensures.rest in
    taken_over g.trace s k b c.requires s1 s2 c.mark_absorbed.new.shared k1 c.give_shared.new.kernel b1 b2 b3
    c.leave_exits.ensures.cell c.leave_exits.ensures.none c.leave_exits.ensures.left c.leave_exits.ensures.rest
    c.cut_exits.ensures.cell (subst (λ (n : Seg). HasCut n.0 k.value k1.value) c.seg-seg.ensures c.cut_exits.ensures.cut)
    (subst (λ (n : Seg). HasLeft (into_segment n.0 k.value.exits) b1.value b2.value) c.seg-seg.ensures c.cut_exits.ensures.left) c.cut_exits.ensures.rest
    c.give_shared.ensures.rest c.give_shared.ensures.given c.mark_absorbed.ensures.cell
    (subst (λ (n : ℕ). MarksAbsorbed b2 b3 s.id.0 n) same.1 (subst (λ (n : ℕ). MarksAbsorbed b2 b3 n s2.seg.0) same.0 c.mark_absorbed.ensures.book))
