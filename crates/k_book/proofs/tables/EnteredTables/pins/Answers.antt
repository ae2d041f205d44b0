use Rattle.std.proofs.Common.{subst, sym}
use Rattle.k_entry.specs.Entries.{EntryValue, AreEntries}
use Rattle.k_book.specs.Entered.{EnteredValue, pin_items}
use Rattle.k_book.proofs.Pinned.{pins_are}
use Rattle.k_book.proofs.tables.EnteredTables.pins.Goals as goal

pub returns-clause-items : goal.returns-clause-items
returns-clause-items c =
    subst (λ (v : EnteredValue). AreEntries (pin_items v)) c.self.view_is
    (subst (λ (v : EntryValue). AreEntries v) (sym (pins_are c.self.inside.entries c.self.inside.pins c.self.invariant)) c.count.ensures.entries)
