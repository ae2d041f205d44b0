use Rattle.std.proofs.Common.{ap, subst, ◌∙◌}
use Rattle.k_types.specs.declared.names.Heap.TheVariants.{Shared}
use Rattle.k_tie.specs.Values.{NoteValue}
use Rattle.k_book.specs.k_agree.Meeting.{Fits, met_note}
use Rattle.k_commit.specs.Others.{of_shared, with_note}
use Rattle.k_commit.proofs.Meetings.{told_by}
use Rattle.k_commit.proofs.meeting.meet_shared.Goals as goal

pub returns : goal.returns
returns g c =
    let b = c.args.book.now in
    let before = c.args.shared.now in
    record {
      other_is = ap (λ (note : NoteValue). with_note note (of_shared before)) (c.meet.ensures.note ∙ ap (met_note b.journal) c.note_mut.ensures.value);
      book_is = c.meet.ensures.same;
      told =
          told_by g.trace (Shared c.args.shared.now.id) before.note before.value b c.requires
          (subst (λ (note : NoteValue). Fits b.journal note) c.note_mut.ensures.value (record { prefix = c.meet.ensures.prefix; share = c.meet.ensures.share }))
          c.meet.ensures.few;
    }
