use Rattle.std.proofs.Common.{◌∙◌, ◌++◌, ◌≡◌, ◌+◌, ◌≤◌, sym, subst, length}
use Rattle.k_book.specs.Kept.{KeptJournal}
use Rattle.k_book.specs.Objects.{objects_told}
use Rattle.k_book.proofs.Appended.{appended_all}
use Rattle.k_book.proofs.keeping.Journal.append_all.Goals as goal

pub invariant_of-self : goal.invariant_of-self
invariant_of-self c =
    appended_all c.self.inside.tie c.self.inside.seat c.append_all.new.self c.self.inside.count c.self.inside.objects c.self.inside.objects c.self.inside.room c.self.inside.kept
    c.self.inside.last c.extend_from_slice.new.self c.args.events.now c.self.invariant
    (subst (λ (x : KeptJournal). length x.journal.list + length c.args.events.now ≤ x.room) (sym c.self.view_is) c.requires.room) c.append_all.ensures
    (c.self.invariant.objects_counted ∙ sym (subst (λ (x : KeptJournal). objects_told (x.journal.list ++ c.args.events.now) ≡ objects_told x.journal.list) (sym c.self.view_is) c.requires.objects))
    c.extend_from_slice.ensures
