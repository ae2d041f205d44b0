use Rattle.std.proofs.Common.{subst}
use Rattle.k_entry.specs.Entries.{AreEntries}
use Rattle.k_book.specs.Entered.{EnteredValue, entry_items}
use Rattle.k_book.proofs.tables.EnteredTables.entries.Goals as goal

pub returns-clause-items : goal.returns-clause-items
returns-clause-items c = subst (λ (v : EnteredValue). AreEntries (entry_items v)) c.self.view_is c.count.ensures.entries
