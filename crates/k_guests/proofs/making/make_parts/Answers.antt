use Rattle.std.proofs.Common.{◌+◌, ◌∙◌, ap, subst, length, arith}
use Rattle.k_tie.specs.Values.{JournalValue}
use Rattle.k_guests.specs.Serving.{KernelServes, basis_of}
use Rattle.k_guests.proofs.Made.{kernel_blank, kernel_table, others_left, some_note}
use Rattle.k_guests.proofs.making.make_parts.Goals as goal

pub take_note-note-requires : goal.take_note-note-requires
take_note-note-requires c =
    some_note c.in_ok-tie.tie c.in_ok-book.book.journal.table (ap (λ (j : JournalValue). j.table) (c.in_ok-book.ensures.journal ∙ c.in_ok-tie.ensures.journal)) (1 + c.len.result + c.args.terms.now.setup.shared) (length c.args.terms.now.setup.procs.items) c.args.terms.now.setup.shared (omega (arith, c.len.ensures)) c.from_vec-notes.result.items (c.from_vec-notes.ensures.items ∙ c.in_ok-tie.ensures.notes)

pub make_kernel-requires-clause-blank : goal.make_kernel-requires-clause-blank
make_kernel-requires-clause-blank c =
    kernel_blank c.in_ok-tie.tie c.in_ok-book.book.journal.table (ap (λ (j : JournalValue). j.table) (c.in_ok-book.ensures.journal ∙ c.in_ok-tie.ensures.journal)) (1 + c.len.result + c.args.terms.now.setup.shared) (length c.args.terms.now.setup.procs.items) c.args.terms.now.setup.shared (omega (arith, c.len.ensures)) c.from_vec-notes.result.items (c.from_vec-notes.ensures.items ∙ c.in_ok-tie.ensures.notes)
    c.take_note-note.result c.take_note-note.new.notes.items c.take_note-note.ensures

pub make_guests-requires : goal.make_guests-requires
make_guests-requires c = record {
  can = c.in_ok-book.ensures.can;
  procs = c.in_ok-book.ensures.procs;
  notes_left = others_left c.in_ok-tie.tie c.in_ok-book.book.journal.table (ap (λ (j : JournalValue). j.table) (c.in_ok-book.ensures.journal ∙ c.in_ok-tie.ensures.journal)) (1 + c.len.result + c.args.terms.now.setup.shared) (length c.args.terms.now.setup.procs.items) c.args.terms.now.setup.shared (omega (arith, c.len.ensures)) c.from_vec-notes.result.items (c.from_vec-notes.ensures.items ∙ c.in_ok-tie.ensures.notes)
      c.take_note-note.result c.take_note-note.new.notes.items c.take_note-note.ensures;
}

pub returns : goal.returns
returns c = record {
  guests = c.in_ok-guests.ensures.serve;
  rest = record {
    kernel = subst (λ t. KernelServes (basis_of c.args.terms.now) t c.in_ok-kernel.kernel)
        (kernel_table c.in_ok-tie.tie c.in_ok-book.book.journal.table (ap (λ (j : JournalValue). j.table) (c.in_ok-book.ensures.journal ∙ c.in_ok-tie.ensures.journal)) (1 + c.len.result + c.args.terms.now.setup.shared) (length c.args.terms.now.setup.procs.items) c.args.terms.now.setup.shared (omega (arith, c.len.ensures)) c.from_vec-notes.result.items (c.from_vec-notes.ensures.items ∙ c.in_ok-tie.ensures.notes)
        c.take_note-note.result c.take_note-note.new.notes.items c.take_note-note.ensures)
        c.in_ok-kernel.ensures.0;
    heaps = c.in_ok-shared.ensures;
    book = c.in_ok-book.ensures.serves;
  };
  first = c.in_ok-guests.ensures.first;
  idle = c.in_ok-kernel.ensures.1;
  empty = ap (λ (j : JournalValue). j.list) (c.in_ok-book.ensures.journal ∙ c.in_ok-tie.ensures.journal);
}
