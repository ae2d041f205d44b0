use Rattle.std.proofs.Common.{subst}
use Rattle.k_entry.specs.Entries.{EntryValue, AreEntries}
use Rattle.k_entry.specs.Slots.{Parts}
use Rattle.k_entry.proofs.Items.{entries_of}
use Rattle.k_entry.proofs.table.EntryTable.home.Goals as goal

pub returns-clause-entries : goal.returns-clause-entries
returns-clause-entries c =
    let p : Parts = record { slots = c.self.inside.slots.items; chains = c.self.inside.chains; segments = c.self.inside.segments; walks = c.self.inside.walks; homes = c.self.inside.homes.items; room = c.self.inside.room } in
    subst (λ (v : EntryValue). AreEntries v) c.self.view_is (entries_of p c.self.invariant.kept)
