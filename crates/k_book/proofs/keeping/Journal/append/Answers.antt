use Rattle.std.proofs.Common.{◌<◌, sym, subst, length}
use Rattle.k_book.specs.Kept.{KeptJournal}
use Rattle.k_book.proofs.Appended.{appended}
use Rattle.k_book.proofs.keeping.Journal.append.Goals as goal

pub invariant_of-self : goal.invariant_of-self
invariant_of-self c =
    appended c.self.inside.tie c.self.inside.seat c.append.new.self c.self.inside.count c.self.inside.objects c.objects_by-self-inside.result c.self.inside.room c.self.inside.kept
    c.self.inside.last c.push_back.new.self c.args.event c.self.invariant
    (subst (λ (x : KeptJournal). length x.journal.list < x.room) (sym c.self.view_is) c.requires) c.append.ensures c.objects_by-self-inside.ensures c.push_back.ensures.items
