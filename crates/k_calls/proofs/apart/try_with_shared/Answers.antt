use Rattle.std.proofs.Common.{[], ◌∷◌, ap, sym, ◌∙◌, refl, inl, inr}
use Rattle.std.proofs.lemmas.Bool.{false≢true}
use Rattle.k_types.specs.declared.names.Heap.TheVariants.{Shared}
use Rattle.k_types.specs.declared.names.SharedId.{SharedId}
use Rattle.k_book.specs.Books.{BookRecord}
use Rattle.k_limits.proofs.Making.{handed_on}
use Rattle.k_guests.specs.declared.guest.Guest.{Guest}
use Rattle.k_guests.specs.Serving.{basis_of}
use Rattle.k_calls.specs.Apart.{CanNotDoWithShared, IsRecordedWithShared}
use Rattle.k_calls.proofs.Lent.{as_before, due_now, tried_done, tried_left}
use Rattle.k_calls.proofs.apart.try_with_shared.Goals as goal

pub returns-in_err-came-clause-why : goal.returns-in_err-came-clause-why
returns-in_err-came-clause-why c =
    handed_on (CanNotDoWithShared (basis_of c.args.terms.now) c.args.shared.now c.args.book.now c.args.op.now c.args.guest.now) c.from_residual.result c.in_err-came.field-0.0 c.from_residual.ensures.1 (inl c.in_err-came.ensures.why)

pub returns-in-Did-clause-done : goal.returns-in-Did-clause-done
returns-in-Did-clause-done c = inl ((tried_done (basis_of c.args.terms.now) c.args.op.now c.args.guest.now c.try_here.new.guest c.args.book.now c.try_here.new.book c.in_ok-came.came c.in_ok-came.ensures.done c.in-Did.event c.in-Did.is), refl)

pub returns-then-not-is_shared-clause-done : goal.returns-then-not-is_shared-clause-done
returns-then-not-is_shared-clause-done c =
    let left = tried_left (basis_of c.args.terms.now) c.args.op.now c.args.guest.now c.try_here.new.guest c.args.book.now c.try_here.new.book c.in_ok-came.came c.in_ok-came.ensures.done c.in-Needs.reach c.in-Needs.is in
    (record { left = left; others = λ is. false≢true (sym c.if-not-is_shared.true ∙ c.is_shared.ensures.1 (is ∙ ap (λ (id : SharedId). Shared id ∷ []) (sym c.id.ensures))) }, refl)

pub record_with_shared-requires-clause-due : goal.record_with_shared-requires-clause-due
record_with_shared-requires-clause-due c =
    let left = tried_left (basis_of c.args.terms.now) c.args.op.now c.args.guest.now c.try_here.new.guest c.args.book.now c.try_here.new.book c.in_ok-came.came c.in_ok-came.ensures.done c.in-Needs.reach c.in-Needs.is in
    due_now (basis_of c.args.terms.now) c.args.op.now c.args.guest.now c.try_here.new.guest c.args.book.now c.try_here.new.book c.in-Needs.reach left (Shared c.args.shared.now.id ∷ []) (c.is_shared.ensures.0 c.if-not-is_shared.false ∙ ap (λ (id : SharedId). Shared id ∷ []) c.id.ensures)

pub returns-in_err-event-clause-same : goal.returns-in_err-event-clause-same
returns-in_err-event-clause-same c =
    let left = tried_left (basis_of c.args.terms.now) c.args.op.now c.args.guest.now c.try_here.new.guest c.args.book.now c.try_here.new.book c.in_ok-came.came c.in_ok-came.ensures.done c.in-Needs.reach c.in-Needs.is in
    handed_on _ c.from_residual-in_err-event.result c.in_err-event.field-0.0 c.from_residual-in_err-event.ensures.1 (c.in_err-event.ensures.same.0 ∙ left.guest_is, c.in_err-event.ensures.same.1, c.in_err-event.ensures.same.2 ∙ left.book_is)

pub returns-in_err-event-clause-why : goal.returns-in_err-event-clause-why
returns-in_err-event-clause-why c =
    let left = tried_left (basis_of c.args.terms.now) c.args.op.now c.args.guest.now c.try_here.new.guest c.args.book.now c.try_here.new.book c.in_ok-came.came c.in_ok-came.ensures.done c.in-Needs.reach c.in-Needs.is in
    handed_on (CanNotDoWithShared (basis_of c.args.terms.now) c.args.shared.now c.args.book.now c.args.op.now c.args.guest.now) c.from_residual-in_err-event.result c.in_err-event.field-0.0 c.from_residual-in_err-event.ensures.1
    (as_before (basis_of c.args.terms.now) c.args.op.now c.args.guest.now c.try_here.new.guest c.args.book.now c.try_here.new.book c.in-Needs.reach left (λ (x : Guest) (y : BookRecord). CanNotDoWithShared (basis_of c.args.terms.now) c.args.shared.now y c.args.op.now x c.in_err-event.field-0.0) c.in_err-event.ensures.why)

pub returns-clause-done : goal.returns-clause-done
returns-clause-done c =
    let left = tried_left (basis_of c.args.terms.now) c.args.op.now c.args.guest.now c.try_here.new.guest c.args.book.now c.try_here.new.book c.in_ok-came.came c.in_ok-came.ensures.done c.in-Needs.reach c.in-Needs.is in
    inr (as_before (basis_of c.args.terms.now) c.args.op.now c.args.guest.now c.try_here.new.guest c.args.book.now c.try_here.new.book c.in-Needs.reach left (λ (x : Guest) (y : BookRecord). IsRecordedWithShared (basis_of c.args.terms.now) c.args.op.now x c.record_with_shared.new.guest c.args.shared.now c.record_with_shared.new.shared y c.record_with_shared.new.book c.in_ok-event.event) c.in_ok-event.ensures.done)
