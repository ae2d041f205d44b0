use Rattle.std.proofs.Common.{List, length, ap, ap₂, subst, ◌∙◌, vec_capacity}
use Rattle.k_types.specs.declared.names.Heap.{Heap}
use Rattle.k_types.specs.declared.names.Name.{Name}
use Rattle.k_lists.specs.Lists.{members}
use Rattle.k_entry.specs.declared.item.Item.{Item}
use Rattle.k_entry.specs.Copies.{IsCopied}
use Rattle.k_entry.specs.Entries.{EntryValue, AreEntries, items_of, objects}
use Rattle.k_entry.specs.Slots.{Parts, walk_of}
use Rattle.k_entry.proofs.Copied.{objects_are, objects_at}
use Rattle.k_entry.proofs.Items.{entries_of}
use Rattle.k_entry.proofs.table.EntryTable.copy_of.Goals as goal

pub returns-clause-copied : goal.returns-clause-copied
returns-clause-copied c =
    let p : Parts = record { slots = c.self.inside.slots.items; chains = c.self.inside.chains; segments = c.self.inside.segments; walks = c.self.inside.walks; homes = c.self.inside.homes.items; room = c.self.inside.room } in
    subst (λ (names : List Name). IsCopied (vec_capacity c.args.row.now) c.args.row.now.items c.copy_walk.new.row.items names c.copy_walk.result)
    (ap₂ (λ (slots : List Item) (homes : List Heap). objects_at slots c.self.inside.segments homes c.args.heap (members c.self.inside.walks (walk_of (length homes) c.args.heap))) c.deref.ensures.value c.deref-2.ensures.value
    ∙ objects_are p c.args.heap c.self.invariant.kept
    ∙ ap (λ (v : EntryValue). objects (items_of v c.args.heap)) c.self.view_is)
    c.copy_walk.ensures.copied

pub returns-clause-entries : goal.returns-clause-entries
returns-clause-entries c =
    let p : Parts = record { slots = c.self.inside.slots.items; chains = c.self.inside.chains; segments = c.self.inside.segments; walks = c.self.inside.walks; homes = c.self.inside.homes.items; room = c.self.inside.room } in
    subst (λ (v : EntryValue). AreEntries v) c.self.view_is (entries_of p c.self.invariant.kept)
