use Rattle.std.proofs.Common.{◌+◌, ◌==◌, sym, ap, subst, ◌∙◌, Some, IsTrue}
use Rattle.k_types.specs.declared.names.Name.{Name}
use Rattle.k_types.specs.declared.names.Pid.{Pid}
use Rattle.k_types.specs.declared.op.Op.TheVariants.{Store}
use Rattle.k_types.specs.Names.{name_of}
use Rattle.k_types.specs.Replies.{is_ref}
use Rattle.k_types.specs.State.{Refers}
use Rattle.k_commit.specs.k_cell.Changes.{with_exit_item, with_field}
use Rattle.k_commit.specs.k_cell.Looks.{field_among}
use Rattle.k_own.proofs.Crossing.{at_home, store_away, store_base_held, store_changes, store_entry_room, store_entry_small, store_exit_room, store_kind, store_refuses, store_value_held}
use Rattle.k_own.proofs.Due.{store_below}
use Rattle.k_own.proofs.accesses.store.Goals as goal

pub link_in-at-requires-clause-register : goal.link_in-at-requires-clause-register
link_in-at-requires-clause-register g c = (store_below g.before c.args.base c.args.field c.args.value c.requires.may).0

pub link_in-at-requires-clause-there : goal.link_in-at-requires-clause-there
link_in-at-requires-clause-there g c = store_base_held g.before c.args.cell.now c.args.book.now c.args.base c.args.field c.args.value c.requires

pub refuse-requires : goal.refuse-requires
refuse-requires g c =
    store_away g.before c.args.cell.now c.args.book.now c.args.base c.args.field c.args.value c.requires (name_of c.link_in-at.result) c.link_in-at.ensures
    (ap (λ (p : Pid). c.link_in-at.result.seg.0 == p.0 + 1) (sym c.pid.ensures) ∙ sym c.is_own.ensures ∙ c.if-not-is_own.true)

pub link_in-target-requires-clause-register : goal.link_in-target-requires-clause-register
link_in-target-requires-clause-register g c = (store_below g.before c.args.base c.args.field c.args.value c.requires.may).1

pub link_in-target-requires-clause-there : goal.link_in-target-requires-clause-there
link_in-target-requires-clause-there g c =
    store_value_held g.before c.args.cell.now c.args.book.now c.args.base c.args.field c.args.value c.requires (name_of c.link_in-at.result) c.link_in-at.ensures
    (ap (λ (p : Pid). c.link_in-at.result.seg.0 == p.0 + 1) (sym c.pid.ensures) ∙ sym c.is_own.ensures ∙ c.if-not-is_own.false)

pub owner-requires : goal.owner-requires
owner-requires g c =
    at_home g.before c.args.cell.now c.args.book.now (Store c.args.base c.args.field c.args.value) c.requires c.args.value.0 (name_of c.link_in-target.result) c.link_in-target.ensures

pub commit_heap-requires : goal.commit_heap-requires
commit_heap-requires g c =
    store_refuses g.before c.args.cell.now c.args.book.now c.args.base c.args.field c.args.value c.requires (name_of c.link_in-at.result) c.link_in-at.ensures
    (ap (λ (p : Pid). c.link_in-at.result.seg.0 == p.0 + 1) (sym c.pid.ensures) ∙ sym c.is_own.ensures ∙ c.if-not-is_own.false)
    (name_of c.link_in-target.result) c.link_in-target.ensures c.owner.result c.owner.ensures (sym c.passes_barrier.ensures ∙ c.if-not-passes_barrier.true)

pub cross-requires-clause-kind : goal.cross-requires-clause-kind
cross-requires-clause-kind g c =
    store_kind g.before c.args.cell.now c.args.book.now c.args.base c.args.field c.args.value c.requires (name_of c.link_in-at.result) c.link_in-at.ensures
    (ap (λ (p : Pid). c.link_in-at.result.seg.0 == p.0 + 1) (sym c.pid.ensures) ∙ sym c.is_own.ensures ∙ c.if-not-is_own.false)

pub cross-requires-clause-exits : goal.cross-requires-clause-exits
cross-requires-clause-exits g c = store_exit_room g.before c.args.cell.now c.args.book.now c.args.base c.args.field c.args.value c.requires

pub cross-requires-clause-entries : goal.cross-requires-clause-entries
cross-requires-clause-entries g c = store_entry_room g.before c.args.cell.now c.args.book.now c.args.base c.args.field c.args.value c.requires

pub cross-requires-clause-home : goal.cross-requires-clause-home
cross-requires-clause-home g c =
    at_home g.before c.args.cell.now c.args.book.now (Store c.args.base c.args.field c.args.value) c.requires c.args.value.0 (name_of c.link_in-target.result) c.link_in-target.ensures

pub cross-requires-clause-small : goal.cross-requires-clause-small
cross-requires-clause-small g c =
    store_entry_small g.before c.args.cell.now c.args.book.now c.args.base c.args.field c.args.value c.requires (name_of c.link_in-at.result) c.link_in-at.ensures
    (ap (λ (p : Pid). c.link_in-at.result.seg.0 == p.0 + 1) (sym c.pid.ensures) ∙ sym c.is_own.ensures ∙ c.if-not-is_own.false)
    (name_of c.link_in-target.result) c.link_in-target.ensures

pub commit_heap-requires-2 : goal.commit_heap-requires-2
commit_heap-requires-2 g c =
    store_changes g.before c.args.cell.now c.args.book.now c.args.base c.args.field c.args.value c.requires (name_of c.link_in-at.result) c.link_in-at.ensures
    (ap (λ (p : Pid). c.link_in-at.result.seg.0 == p.0 + 1) (sym c.pid.ensures) ∙ sym c.is_own.ensures ∙ c.if-not-is_own.false)
    (name_of c.link_in-target.result) c.link_in-target.ensures c.cross.new.cell c.cross.new.book
    c.cross.ensures.cell c.cross.ensures.book c.cross.ensures.entered c.owner.result c.owner.ensures (sym c.passes_barrier.ensures ∙ c.if-not-passes_barrier.false)
