use Rattle.std.proofs.Common.{◌≡◌, ap, sym, ◌∙◌, not, None, Some, option_map}
use Rattle.k_types.specs.declared.event.Fault.{Fault}
use Rattle.k_types.specs.declared.names.Heap.{Heap}
use Rattle.k_types.specs.Agree.{book_shown_by}
use Rattle.k_types.specs.Names.{name_of}
use Rattle.k_types.specs.Replies.{first_fault, is_ref}
use Rattle.k_commit.specs.k_cell.Looks.{field_among, field_count_among}
use Rattle.k_limits.proofs.Making.{handed_on}
use Rattle.k_space.specs.Objects.{content_of}
use Rattle.k_laws.specs.Answers.{is_frozen_in, passes_barrier_in}
use Rattle.k_pair.specs.Faults.{store_faults_of}
use Rattle.k_pair.specs.Remembered.{owners_of}
use Rattle.k_pair.proofs.Faulted.{barred_last, field_first, frozen_next, none_at_all, told_by}
use Rattle.k_pair.proofs.barring.may_store.Goals as goal

pub returns-in_err-read_reference-clause-fault : goal.returns-in_err-read_reference-clause-fault
returns-in_err-read_reference-clause-fault g c =
    handed_on (λ (fault : Fault). first_fault (store_faults_of (owners_of g.S.StepName.before) (g.O.OtherCell.seen c.args.other.now) c.args.book.now (name_of c.args.at) c.args.field (option_map name_of c.args.value)) ≡ Some fault)
    c.from_residual.result c.in_err-read_reference.field-0.0 c.from_residual.ensures.1
    (field_first (field_count_among (g.O.OtherCell.seen c.args.other.now).held.value.objects (name_of c.args.at)) c.args.field (not (is_ref (field_among (g.O.OtherCell.seen c.args.other.now).held.value.objects (name_of c.args.at) c.args.field)))
    (is_frozen_in (book_shown_by c.args.book.now.value) (g.O.OtherCell.seen c.args.other.now).cell) (not (passes_barrier_in (owners_of g.S.StepName.before) (g.O.OtherCell.seen c.args.other.now).cell (option_map name_of c.args.value)))
    c.in_err-read_reference.field-0.0
    (told_by c.field_count.result (field_count_among (g.O.OtherCell.seen c.args.other.now).held.value.objects (name_of c.args.at)) (content_of c.field.result) (field_among (g.O.OtherCell.seen c.args.other.now).held.value.objects (name_of c.args.at) c.args.field)
    c.args.field (λ t. not (is_ref t)) (Some c.in_err-read_reference.field-0.0) c.field_count.ensures c.field.ensures c.in_err-read_reference.ensures.fault))

pub is_frozen_heap-requires : goal.is_frozen_heap-requires
is_frozen_heap-requires g c = λ id is. c.requires.phase id (sym c.heap.ensures ∙ is)

pub passes-requires : goal.passes-requires
passes-requires g c = c.requires.told

pub returns-then-is_frozen_heap-clause-fault : goal.returns-then-is_frozen_heap-clause-fault
returns-then-is_frozen_heap-clause-fault g c =
    frozen_next (field_count_among (g.O.OtherCell.seen c.args.other.now).held.value.objects (name_of c.args.at)) c.args.field (not (is_ref (field_among (g.O.OtherCell.seen c.args.other.now).held.value.objects (name_of c.args.at) c.args.field)))
    (is_frozen_in (book_shown_by c.args.book.now.value) (g.O.OtherCell.seen c.args.other.now).cell) (not (passes_barrier_in (owners_of g.S.StepName.before) (g.O.OtherCell.seen c.args.other.now).cell (option_map name_of c.args.value)))
    (told_by c.field_count.result (field_count_among (g.O.OtherCell.seen c.args.other.now).held.value.objects (name_of c.args.at)) (content_of c.field.result) (field_among (g.O.OtherCell.seen c.args.other.now).held.value.objects (name_of c.args.at) c.args.field)
    c.args.field (λ t. not (is_ref t)) None c.field_count.ensures c.field.ensures c.in_ok-read_reference.ensures.fine)
    (sym (c.is_frozen_heap.ensures ∙ ap (is_frozen_in (book_shown_by c.args.book.now.value)) c.heap.ensures) ∙ c.if-is_frozen_heap.true)

pub returns-then-not-passes-clause-fault : goal.returns-then-not-passes-clause-fault
returns-then-not-passes-clause-fault g c =
    barred_last (field_count_among (g.O.OtherCell.seen c.args.other.now).held.value.objects (name_of c.args.at)) c.args.field (not (is_ref (field_among (g.O.OtherCell.seen c.args.other.now).held.value.objects (name_of c.args.at) c.args.field)))
    (is_frozen_in (book_shown_by c.args.book.now.value) (g.O.OtherCell.seen c.args.other.now).cell) (not (passes_barrier_in (owners_of g.S.StepName.before) (g.O.OtherCell.seen c.args.other.now).cell (option_map name_of c.args.value)))
    (told_by c.field_count.result (field_count_among (g.O.OtherCell.seen c.args.other.now).held.value.objects (name_of c.args.at)) (content_of c.field.result) (field_among (g.O.OtherCell.seen c.args.other.now).held.value.objects (name_of c.args.at) c.args.field)
    c.args.field (λ t. not (is_ref t)) None c.field_count.ensures c.field.ensures c.in_ok-read_reference.ensures.fine)
    (sym (c.is_frozen_heap.ensures ∙ ap (is_frozen_in (book_shown_by c.args.book.now.value)) c.heap.ensures) ∙ c.if-is_frozen_heap.false)
    (ap not (sym (c.passes.ensures ∙ ap (λ (h : Heap). passes_barrier_in (owners_of g.S.StepName.before) h (option_map name_of c.args.value)) c.heap-2.ensures) ∙ c.if-not-passes.true))

pub returns-clause-fine : goal.returns-clause-fine
returns-clause-fine g c =
    none_at_all (field_count_among (g.O.OtherCell.seen c.args.other.now).held.value.objects (name_of c.args.at)) c.args.field (not (is_ref (field_among (g.O.OtherCell.seen c.args.other.now).held.value.objects (name_of c.args.at) c.args.field)))
    (is_frozen_in (book_shown_by c.args.book.now.value) (g.O.OtherCell.seen c.args.other.now).cell) (not (passes_barrier_in (owners_of g.S.StepName.before) (g.O.OtherCell.seen c.args.other.now).cell (option_map name_of c.args.value)))
    (told_by c.field_count.result (field_count_among (g.O.OtherCell.seen c.args.other.now).held.value.objects (name_of c.args.at)) (content_of c.field.result) (field_among (g.O.OtherCell.seen c.args.other.now).held.value.objects (name_of c.args.at) c.args.field)
    c.args.field (λ t. not (is_ref t)) None c.field_count.ensures c.field.ensures c.in_ok-read_reference.ensures.fine)
    (sym (c.is_frozen_heap.ensures ∙ ap (is_frozen_in (book_shown_by c.args.book.now.value)) c.heap.ensures) ∙ c.if-is_frozen_heap.false)
    (ap not (sym (c.passes.ensures ∙ ap (λ (h : Heap). passes_barrier_in (owners_of g.S.StepName.before) h (option_map name_of c.args.value)) c.heap-2.ensures) ∙ c.if-not-passes.false))
