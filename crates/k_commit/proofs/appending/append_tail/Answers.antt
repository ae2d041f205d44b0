use Rattle.std.proofs.Common.{◌≡◌, ◌+◌, ap, ap₂, ◌∙◌, [], ◌++◌, List, replicate}
use Rattle.k_types.specs.declared.event.Event.{Event}
use Rattle.k_tie.specs.Values.{JournalValue, NoteValue}
use Rattle.k_book.specs.k_agree.Publishing.{note_after_all}
use Rattle.k_book.specs.Books.{BookRecord}
use Rattle.k_commit.proofs.Tails.{journal_counted, note_counted}
use Rattle.k_commit.proofs.appending.append_tail.Goals as goal

pub returns-clause-cell : goal.returns-clause-cell
returns-clause-cell c =
    let cell = c.args.cell.now in
    let book = c.args.book.now in
    let list : c.touch_all.new.self.journal.list ≡ book.journal.list ++ cell.value.tail =
    ap (λ (b : BookRecord). b.journal.list) c.touch_all.ensures.total ∙ ap (λ (b : BookRecord). b.journal.list) c.append_all.ensures ∙ ap (λ (t : List Event). book.journal.list ++ t) c.tail.ensures
    in
    let touched : c.note_mut-2.result.now ≡ record cell.note { share = cell.note.share + c.from.result } =
    c.note_mut-2.ensures.value ∙ c.touch_all.ensures.note ∙ ap (λ (m : NoteValue). record m { share = m.share + c.from.result }) c.note_mut.ensures.value
    in
    let noted : c.meet.new.note ≡ note_after_all cell.value.tail cell.note =
    c.meet.ensures.note ∙ ap₂ (λ (m : NoteValue) (l : List Event). record m { list = l }) touched list
    ∙ note_counted cell.value.tail c.from.result cell.note book.journal.list (c.from.ensures ∙ c.tail_len-number.ensures.len) c.requires.met
    in
    c.clear_tail.ensures ∙ ap (λ (m : NoteValue). record cell { note = m; value = record cell.value { tail = [] } }) noted

pub returns-clause-book : goal.returns-clause-book
returns-clause-book c =
    let cell = c.args.cell.now in
    let book = c.args.book.now in
    let journal : c.append_all.new.self ≡ record book { journal = record book.journal { list = book.journal.list ++ cell.value.tail } } =
    c.append_all.ensures ∙ ap (λ (t : List Event). record book { journal = record book.journal { list = book.journal.list ++ t } }) c.tail.ensures
    in
    c.meet.ensures.same ∙ c.touch_all.ensures.total
    ∙ ap (λ (m : NoteValue). record c.append_all.new.self { journal = record c.append_all.new.self.journal { touches = replicate c.from.result m.cell ++ c.append_all.new.self.journal.touches } }) c.note_mut.ensures.value
    ∙ ap (λ (b : BookRecord). record b { journal = record b.journal { touches = replicate c.from.result cell.note.cell ++ b.journal.touches } }) journal
    ∙ ap (λ (j : JournalValue). record book { journal = j }) (journal_counted cell.value.tail c.from.result cell.note.cell book.journal (c.from.ensures ∙ c.tail_len-number.ensures.len))
