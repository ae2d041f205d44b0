use Rattle.std.proofs.Common.{ap, subst, ◌∙◌}
use Rattle.k_tie.specs.Values.{NoteValue}
use Rattle.k_agree.specs.Meeting.{Fits, met_note}
use Rattle.k_collect.proofs.ending.meet_kernel_note.Goals as goal

pub returns : goal.returns
returns c =
    let b = c.args.book.now in
    let before = c.args.kernel.now in
    record {
      kernel_is = ap (λ (note : NoteValue). record before { note = note }) (c.meet.ensures.note ∙ ap (met_note b.journal) c.note_mut.ensures.value);
      book_is = c.meet.ensures.same;
      fits = subst (λ (note : NoteValue). Fits b.journal note) c.note_mut.ensures.value (record { prefix = c.meet.ensures.prefix; share = c.meet.ensures.share });
      few = c.meet.ensures.few;
    }
