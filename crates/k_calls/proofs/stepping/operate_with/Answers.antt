use Rattle.std.proofs.Common.{[], ◌∷◌, ◌<◌, ◌∙◌, refl, sym, ap, subst, length, inr}
use Rattle.k_operate.proofs.Looped.{found_at}
use Rattle.k_operate.specs.Reaching.{cells_of}
use Rattle.k_types.specs.declared.names.Heap.TheVariants.{Kernel}
use Rattle.k_limits.proofs.Making.{handed_on}
use Rattle.k_guests.specs.Serving.{basis_of}
use Rattle.k_calls.specs.Refusals.{CanNotOperateAlone}
use Rattle.k_calls.proofs.Lent.{due_now, tried_done, tried_left}
use Rattle.k_calls.proofs.Operated.{alone_done, alone_same, alone_why, heap_done, heap_due, heap_same, heap_serves, heap_why, inside_operated, kernel_done, kernel_same, kernel_there, kernel_why, place_there, try_barred}
use Rattle.k_calls.proofs.stepping.operate_with.Goals as goal

pub returns-in_err-came-clause-why : goal.returns-in_err-came-clause-why
returns-in_err-came-clause-why c =
    handed_on (CanNotOperateAlone (basis_of c.args.terms.now) c.args.kernel.now c.args.shared.now.items c.args.book.now c.args.op.now c.args.guest.now) c.from_residual.result c.in_err-came.field-0.0 c.from_residual.ensures.1
    (try_barred (basis_of c.args.terms.now) c.args.guest.now c.args.kernel.now c.args.shared.now.items c.args.book.now c.args.op.now c.requires.can c.in_err-came.field-0.0 c.in_err-came.ensures.why)

pub returns-in-Did-clause-done : goal.returns-in-Did-clause-done
returns-in-Did-clause-done c =
    inside_operated (basis_of c.args.terms.now) c.args.guest.now c.args.kernel.now c.args.shared.now.items c.args.book.now c.args.op.now c.requires.can c.try_here.new.guest c.try_here.new.book c.in-Did.event (tried_done (basis_of c.args.terms.now) c.args.op.now c.args.guest.now c.try_here.new.guest c.args.book.now c.try_here.new.book c.in_ok-came.came c.in_ok-came.ensures.done c.in-Did.event c.in-Did.is)

pub record_alone-requires : goal.record_alone-requires
record_alone-requires c =
    let left = tried_left (basis_of c.args.terms.now) c.args.op.now c.args.guest.now c.try_here.new.guest c.args.book.now c.try_here.new.book c.in_ok-came.came c.in_ok-came.ensures.done c.in-Needs.reach c.in-Needs.is in
    due_now (basis_of c.args.terms.now) c.args.op.now c.args.guest.now c.try_here.new.guest c.args.book.now c.try_here.new.book c.in-Needs.reach left [] (ap cells_of c.in-Own.is)

pub returns-in-Own-clause-done : goal.returns-in-Own-clause-done
returns-in-Own-clause-done c =
    let left = tried_left (basis_of c.args.terms.now) c.args.op.now c.args.guest.now c.try_here.new.guest c.args.book.now c.try_here.new.book c.in_ok-came.came c.in_ok-came.ensures.done c.in-Needs.reach c.in-Needs.is in
    alone_done (basis_of c.args.terms.now) c.args.guest.now c.args.kernel.now c.args.shared.now.items c.args.book.now c.args.op.now c.requires.can c.try_here.new.guest c.try_here.new.book c.in-Needs.reach left c.record_alone.result c.record_alone.new.guest c.record_alone.new.book c.record_alone.ensures.done

pub returns-in-Own-clause-same : goal.returns-in-Own-clause-same
returns-in-Own-clause-same c =
    let left = tried_left (basis_of c.args.terms.now) c.args.op.now c.args.guest.now c.try_here.new.guest c.args.book.now c.try_here.new.book c.in_ok-came.came c.in_ok-came.ensures.done c.in-Needs.reach c.in-Needs.is in
    alone_same (basis_of c.args.terms.now) c.args.guest.now c.args.kernel.now c.args.shared.now.items c.args.book.now c.args.op.now c.requires.can c.try_here.new.guest c.try_here.new.book c.in-Needs.reach left c.record_alone.result c.record_alone.new.guest c.record_alone.new.book c.record_alone.ensures.same

pub returns-in-Own-clause-why : goal.returns-in-Own-clause-why
returns-in-Own-clause-why c =
    let left = tried_left (basis_of c.args.terms.now) c.args.op.now c.args.guest.now c.try_here.new.guest c.args.book.now c.try_here.new.book c.in_ok-came.came c.in_ok-came.ensures.done c.in-Needs.reach c.in-Needs.is in
    alone_why (basis_of c.args.terms.now) c.args.guest.now c.args.kernel.now c.args.shared.now.items c.args.book.now c.args.op.now c.requires.can c.try_here.new.guest c.try_here.new.book c.in-Needs.reach left c.record_alone.result c.record_alone.ensures.why

pub record_with_kernel-requires-clause-due : goal.record_with_kernel-requires-clause-due
record_with_kernel-requires-clause-due c =
    let left = tried_left (basis_of c.args.terms.now) c.args.op.now c.args.guest.now c.try_here.new.guest c.args.book.now c.try_here.new.book c.in_ok-came.came c.in_ok-came.ensures.done c.in-Needs.reach c.in-Needs.is in
    due_now (basis_of c.args.terms.now) c.args.op.now c.args.guest.now c.try_here.new.guest c.args.book.now c.try_here.new.book c.in-Needs.reach left (Kernel ∷ []) (ap cells_of c.in-Kernel.is)

pub record_with_kernel-requires-clause-kernel : goal.record_with_kernel-requires-clause-kernel
record_with_kernel-requires-clause-kernel c =
    let left = tried_left (basis_of c.args.terms.now) c.args.op.now c.args.guest.now c.try_here.new.guest c.args.book.now c.try_here.new.book c.in_ok-came.came c.in_ok-came.ensures.done c.in-Needs.reach c.in-Needs.is in
    kernel_there (basis_of c.args.terms.now) c.args.guest.now c.args.kernel.now c.args.shared.now.items c.args.book.now c.args.op.now c.requires.can c.try_here.new.guest c.try_here.new.book c.in-Needs.reach left

pub returns-in-Kernel-clause-done : goal.returns-in-Kernel-clause-done
returns-in-Kernel-clause-done c =
    let left = tried_left (basis_of c.args.terms.now) c.args.op.now c.args.guest.now c.try_here.new.guest c.args.book.now c.try_here.new.book c.in_ok-came.came c.in_ok-came.ensures.done c.in-Needs.reach c.in-Needs.is in
    kernel_done (basis_of c.args.terms.now) c.args.guest.now c.args.kernel.now c.args.shared.now.items c.args.book.now c.args.op.now c.requires.can c.try_here.new.guest c.try_here.new.book c.in-Needs.reach left c.record_with_kernel.result c.record_with_kernel.new.guest c.record_with_kernel.new.kernel c.record_with_kernel.new.book c.record_with_kernel.ensures.done

pub returns-in-Kernel-clause-same : goal.returns-in-Kernel-clause-same
returns-in-Kernel-clause-same c =
    let left = tried_left (basis_of c.args.terms.now) c.args.op.now c.args.guest.now c.try_here.new.guest c.args.book.now c.try_here.new.book c.in_ok-came.came c.in_ok-came.ensures.done c.in-Needs.reach c.in-Needs.is in
    kernel_same (basis_of c.args.terms.now) c.args.guest.now c.args.kernel.now c.args.shared.now.items c.args.book.now c.args.op.now c.requires.can c.try_here.new.guest c.try_here.new.book c.in-Needs.reach left c.record_with_kernel.result c.record_with_kernel.new.guest c.record_with_kernel.new.kernel c.record_with_kernel.new.book c.record_with_kernel.ensures.same

pub returns-in-Kernel-clause-why : goal.returns-in-Kernel-clause-why
returns-in-Kernel-clause-why c =
    let left = tried_left (basis_of c.args.terms.now) c.args.op.now c.args.guest.now c.try_here.new.guest c.args.book.now c.try_here.new.book c.in_ok-came.came c.in_ok-came.ensures.done c.in-Needs.reach c.in-Needs.is in
    kernel_why (basis_of c.args.terms.now) c.args.guest.now c.args.kernel.now c.args.shared.now.items c.args.book.now c.args.op.now c.requires.can c.try_here.new.guest c.try_here.new.book c.in-Needs.reach left c.record_with_kernel.result c.record_with_kernel.ensures.why

pub index_mut-heap-requires : goal.index_mut-heap-requires
index_mut-heap-requires c =
    let left = tried_left (basis_of c.args.terms.now) c.args.op.now c.args.guest.now c.try_here.new.guest c.args.book.now c.try_here.new.book c.in_ok-came.came c.in_ok-came.ensures.done c.in-Needs.reach c.in-Needs.is in
    let there = place_there (basis_of c.args.terms.now) c.args.guest.now c.args.kernel.now c.args.shared.now.items c.args.book.now c.args.op.now c.requires.can c.try_here.new.guest c.try_here.new.book c.in-Needs.reach left c.in-Shared.id c.in-Shared.is in
    subst (λ n. c.in-Shared.id.0 < n) (sym c.args.shared.now.ok.0) there

pub record_with_shared-requires-clause-due : goal.record_with_shared-requires-clause-due
record_with_shared-requires-clause-due c =
    let left = tried_left (basis_of c.args.terms.now) c.args.op.now c.args.guest.now c.try_here.new.guest c.args.book.now c.try_here.new.book c.in_ok-came.came c.in_ok-came.ensures.done c.in-Needs.reach c.in-Needs.is in
    let there = place_there (basis_of c.args.terms.now) c.args.guest.now c.args.kernel.now c.args.shared.now.items c.args.book.now c.args.op.now c.requires.can c.try_here.new.guest c.try_here.new.book c.in-Needs.reach left c.in-Shared.id c.in-Shared.is in
    heap_due (basis_of c.args.terms.now) c.args.guest.now c.args.kernel.now c.args.shared.now.items c.args.book.now c.args.op.now c.requires.can c.try_here.new.guest c.try_here.new.book c.in-Needs.reach left c.in-Shared.id c.in-Shared.is c.index_mut-heap.result.now (found_at c.args.shared.now.items (length c.args.shared.now.items) c.in-Shared.id.0 c.in-Shared.id.0 c.index_mut-heap.result.now c.index_mut-heap.result.now refl there refl c.index_mut-heap.ensures.value refl)

pub record_with_shared-requires-clause-shared : goal.record_with_shared-requires-clause-shared
record_with_shared-requires-clause-shared c =
    let left = tried_left (basis_of c.args.terms.now) c.args.op.now c.args.guest.now c.try_here.new.guest c.args.book.now c.try_here.new.book c.in_ok-came.came c.in_ok-came.ensures.done c.in-Needs.reach c.in-Needs.is in
    let there = place_there (basis_of c.args.terms.now) c.args.guest.now c.args.kernel.now c.args.shared.now.items c.args.book.now c.args.op.now c.requires.can c.try_here.new.guest c.try_here.new.book c.in-Needs.reach left c.in-Shared.id c.in-Shared.is in
    heap_serves (basis_of c.args.terms.now) c.args.guest.now c.args.kernel.now c.args.shared.now.items c.args.book.now c.args.op.now c.requires.can c.try_here.new.guest c.try_here.new.book c.in-Needs.reach left c.in-Shared.id c.in-Shared.is c.index_mut-heap.result.now (found_at c.args.shared.now.items (length c.args.shared.now.items) c.in-Shared.id.0 c.in-Shared.id.0 c.index_mut-heap.result.now c.index_mut-heap.result.now refl there refl c.index_mut-heap.ensures.value refl)

pub returns-in-Shared-clause-done : goal.returns-in-Shared-clause-done
returns-in-Shared-clause-done c =
    let left = tried_left (basis_of c.args.terms.now) c.args.op.now c.args.guest.now c.try_here.new.guest c.args.book.now c.try_here.new.book c.in_ok-came.came c.in_ok-came.ensures.done c.in-Needs.reach c.in-Needs.is in
    let there = place_there (basis_of c.args.terms.now) c.args.guest.now c.args.kernel.now c.args.shared.now.items c.args.book.now c.args.op.now c.requires.can c.try_here.new.guest c.try_here.new.book c.in-Needs.reach left c.in-Shared.id c.in-Shared.is in
    heap_done (basis_of c.args.terms.now) c.args.guest.now c.args.kernel.now c.args.shared.now.items c.args.book.now c.args.op.now c.requires.can c.try_here.new.guest c.try_here.new.book c.in-Needs.reach left c.in-Shared.id c.in-Shared.is c.index_mut-heap.result.now (found_at c.args.shared.now.items (length c.args.shared.now.items) c.in-Shared.id.0 c.in-Shared.id.0 c.index_mut-heap.result.now c.index_mut-heap.result.now refl there refl c.index_mut-heap.ensures.value refl) c.record_with_shared.result c.record_with_shared.new.guest c.record_with_shared.new.shared c.record_with_shared.new.book c.record_with_shared.ensures.done

pub returns-in-Shared-clause-same : goal.returns-in-Shared-clause-same
returns-in-Shared-clause-same c =
    let left = tried_left (basis_of c.args.terms.now) c.args.op.now c.args.guest.now c.try_here.new.guest c.args.book.now c.try_here.new.book c.in_ok-came.came c.in_ok-came.ensures.done c.in-Needs.reach c.in-Needs.is in
    let there = place_there (basis_of c.args.terms.now) c.args.guest.now c.args.kernel.now c.args.shared.now.items c.args.book.now c.args.op.now c.requires.can c.try_here.new.guest c.try_here.new.book c.in-Needs.reach left c.in-Shared.id c.in-Shared.is in
    heap_same (basis_of c.args.terms.now) c.args.guest.now c.args.kernel.now c.args.shared.now.items c.args.book.now c.args.op.now c.requires.can c.try_here.new.guest c.try_here.new.book c.in-Needs.reach left c.in-Shared.id c.in-Shared.is c.index_mut-heap.result.now (found_at c.args.shared.now.items (length c.args.shared.now.items) c.in-Shared.id.0 c.in-Shared.id.0 c.index_mut-heap.result.now c.index_mut-heap.result.now refl there refl c.index_mut-heap.ensures.value refl) c.record_with_shared.result c.record_with_shared.new.guest c.record_with_shared.new.shared c.record_with_shared.new.book c.record_with_shared.ensures.same c.index_mut-heap.ensures.value

pub returns-in-Shared-clause-why : goal.returns-in-Shared-clause-why
returns-in-Shared-clause-why c =
    let left = tried_left (basis_of c.args.terms.now) c.args.op.now c.args.guest.now c.try_here.new.guest c.args.book.now c.try_here.new.book c.in_ok-came.came c.in_ok-came.ensures.done c.in-Needs.reach c.in-Needs.is in
    let there = place_there (basis_of c.args.terms.now) c.args.guest.now c.args.kernel.now c.args.shared.now.items c.args.book.now c.args.op.now c.requires.can c.try_here.new.guest c.try_here.new.book c.in-Needs.reach left c.in-Shared.id c.in-Shared.is in
    heap_why (basis_of c.args.terms.now) c.args.guest.now c.args.kernel.now c.args.shared.now.items c.args.book.now c.args.op.now c.requires.can c.try_here.new.guest c.try_here.new.book c.in-Needs.reach left c.in-Shared.id c.in-Shared.is c.index_mut-heap.result.now (found_at c.args.shared.now.items (length c.args.shared.now.items) c.in-Shared.id.0 c.in-Shared.id.0 c.index_mut-heap.result.now c.index_mut-heap.result.now refl there refl c.index_mut-heap.ensures.value refl) c.record_with_shared.result c.record_with_shared.ensures.why

pub returns-in-End-clause-same : goal.returns-in-End-clause-same
returns-in-End-clause-same c =
    let left = tried_left (basis_of c.args.terms.now) c.args.op.now c.args.guest.now c.try_here.new.guest c.args.book.now c.try_here.new.book c.in_ok-came.came c.in_ok-came.ensures.done c.in-Needs.reach c.in-Needs.is in
    (left.guest_is, refl, refl, left.book_is)

pub returns-in-End-clause-why : goal.returns-in-End-clause-why
returns-in-End-clause-why c =
    let left = tried_left (basis_of c.args.terms.now) c.args.op.now c.args.guest.now c.try_here.new.guest c.args.book.now c.try_here.new.book c.in_ok-came.came c.in_ok-came.ensures.done c.in-Needs.reach c.in-Needs.is in
    inr (record { target = c.in-End.field-0; in_range = left.due.ready.in_range; touches = left.due.touches ∙ ap cells_of c.in-End.is; error_is = refl })
