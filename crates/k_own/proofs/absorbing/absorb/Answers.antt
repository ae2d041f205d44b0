use Rattle.std.proofs.Common.{◌∙◌, ap, sym, subst}
use Rattle.k_types.specs.declared.event.Event.TheVariants.{Absorbed}
use Rattle.k_types.specs.declared.names.Heap.TheVariants.{Kernel}
use Rattle.k_commit.specs.k_book.Books.{BookRecord}
use Rattle.k_commit.specs.Met.{CanMeet}
use Rattle.k_commit.specs.k_shared.SharedHeaps.{SharedRecord}
use Rattle.k_own.proofs.Appended.{absorption_ends, absorption_lists, absorption_room, absorption_tables, met_to_absorb, shared_met}
use Rattle.k_own.proofs.absorbing.absorb.Goals as goal

pub meet_shared-requires : goal.meet_shared-requires
meet_shared-requires g c = record { agrees = c.requires.shared_stands.agrees; book_agrees = c.requires.book_stands.agrees; table = c.requires.shared_stands.table }

pub meet_kernel-requires : goal.meet_kernel-requires
meet_kernel-requires g c =
    subst (λ (x : BookRecord). CanMeet g.trace Kernel c.args.kernel.now.note c.args.kernel.now.value x) (sym c.meet_shared.ensures.book_is)
    (record { agrees = c.requires.kernel_stands.agrees; book_agrees = c.requires.book_stands.agrees; table = c.requires.kernel_stands.table })

pub take_over-requires : goal.take_over-requires
take_over-requires g c =
    met_to_absorb g.trace c.args.shared.now c.meet_shared.new.shared c.args.kernel.now c.meet_kernel.new.kernel c.args.book.now c.meet_shared.new.book c.meet_kernel.new.book c.requires c.meet_shared.ensures
    c.meet_kernel.ensures

pub append_shared_and_kernel-requires : goal.append_shared_and_kernel-requires
append_shared_and_kernel-requires g c = record {
  table = absorption_tables g.trace c.args.shared.now c.meet_shared.new.shared c.args.kernel.now c.meet_kernel.new.kernel c.args.book.now c.meet_shared.new.book c.meet_kernel.new.book c.requires c.meet_shared.ensures
      c.meet_kernel.ensures c.take_over.new.shared c.take_over.new.kernel c.take_over.new.book c.take_over.ensures;
  met = absorption_lists g.trace c.args.shared.now c.meet_shared.new.shared c.args.kernel.now c.meet_kernel.new.kernel c.args.book.now c.meet_shared.new.book c.meet_kernel.new.book c.requires c.meet_shared.ensures
      c.meet_kernel.ensures c.take_over.new.shared c.take_over.new.kernel c.take_over.new.book c.take_over.ensures;
  room = absorption_room g.trace c.args.shared.now c.meet_shared.new.shared c.args.kernel.now c.meet_kernel.new.kernel c.args.book.now c.meet_shared.new.book c.meet_kernel.new.book c.requires c.meet_shared.ensures
      c.meet_kernel.ensures c.take_over.new.shared c.take_over.new.kernel c.take_over.new.book c.take_over.ensures;
}

pub returns : goal.returns
returns g c =
    absorption_ends g.trace c.args.shared.now c.meet_shared.new.shared c.args.kernel.now c.meet_kernel.new.kernel c.args.book.now c.meet_shared.new.book c.meet_kernel.new.book c.requires c.meet_shared.ensures
    c.meet_kernel.ensures c.take_over.new.shared c.take_over.new.kernel c.take_over.new.book c.take_over.ensures
    (Absorbed c.id.result) c.append_shared_and_kernel.new.shared c.append_shared_and_kernel.new.kernel c.append_shared_and_kernel.new.book
    (ap Absorbed
    (c.id.ensures ∙ ap (λ (x : SharedRecord). x.id) c.take_over.ensures.shared_is
    ∙ ap (λ (x : SharedRecord). x.id) (shared_met g.trace c.args.shared.now c.meet_shared.new.shared c.args.kernel.now c.meet_kernel.new.kernel c.args.book.now c.meet_shared.new.book c.meet_kernel.new.book c.requires
    c.meet_shared.ensures c.meet_kernel.ensures)))
    c.append_shared_and_kernel.ensures.shared c.append_shared_and_kernel.ensures.kernel c.append_shared_and_kernel.ensures.book
