use Rattle.std.proofs.Common.{sym, ap, subst, ◌∙◌}
use Rattle.k_types.specs.Counted.{counted}
use Rattle.k_entry.specs.declared.item.Item.{Item}
use Rattle.k_entry.specs.Entries.{EntryValue, AreEntries}
use Rattle.k_entry.specs.Slots.{Parts, shown}
use Rattle.k_entry.proofs.Counts.{no_hits}
use Rattle.k_entry.proofs.Items.{entries_of, found_by, none_by, read_at}
use Rattle.k_entry.proofs.table.EntryTable.count.Goals as goal

pub returns-in-Some-clause-count : goal.returns-in-Some-clause-count
returns-in-Some-clause-count c =
    let p : Parts = record { slots = c.self.inside.slots.items; chains = c.self.inside.chains; segments = c.self.inside.segments; walks = c.self.inside.walks; homes = c.self.inside.homes.items; room = c.self.inside.room } in
    let f = found_by p c.args.target c.deref.result.now c.chain_of.result c.in-Some.i c.self.invariant.kept c.deref.ensures.value c.chain_of.ensures.value c.in-Some.ensures.there c.in-Some.ensures.target in
    ap (λ (x : Item). x.count) (read_at c.self.inside.slots.items c.in-Some.i c.index.result.now f.within c.index.ensures) ∙ sym f.count ∙ ap (λ (v : EntryValue). counted v.items c.args.target) c.self.view_is

pub returns-in-None-clause-count : goal.returns-in-None-clause-count
returns-in-None-clause-count c =
    let p : Parts = record { slots = c.self.inside.slots.items; chains = c.self.inside.chains; segments = c.self.inside.segments; walks = c.self.inside.walks; homes = c.self.inside.homes.items; room = c.self.inside.room } in
    let none = none_by p c.args.target c.deref.result.now c.chain_of.result c.self.invariant.kept c.deref.ensures.value c.chain_of.ensures.value c.in-None.ensures.none in
    sym (no_hits (shown p).items c.args.target none) ∙ ap (λ (v : EntryValue). counted v.items c.args.target) c.self.view_is

pub returns-in-Some-clause-entries : goal.returns-in-Some-clause-entries
returns-in-Some-clause-entries c =
    let p : Parts = record { slots = c.self.inside.slots.items; chains = c.self.inside.chains; segments = c.self.inside.segments; walks = c.self.inside.walks; homes = c.self.inside.homes.items; room = c.self.inside.room } in
    subst (λ (v : EntryValue). AreEntries v) c.self.view_is (entries_of p c.self.invariant.kept)

pub returns-in-None-clause-entries : goal.returns-in-None-clause-entries
returns-in-None-clause-entries c =
    let p : Parts = record { slots = c.self.inside.slots.items; chains = c.self.inside.chains; segments = c.self.inside.segments; walks = c.self.inside.walks; homes = c.self.inside.homes.items; room = c.self.inside.room } in
    subst (λ (v : EntryValue). AreEntries v) c.self.view_is (entries_of p c.self.invariant.kept)
