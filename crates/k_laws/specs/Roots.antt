-- The roots of a collection, as the heap's cell and the book tell them.
use Rattle.std.specs.Prelude.{nat_lt, ◌||◌, Bool, false, List, map, filter}
use Rattle.std.specs.List.{list_any}
use Rattle.k_types.specs.declared.names.Name.{Name}
use Rattle.k_types.specs.declared.names.Heap.{Heap}
use Rattle.k_types.specs.declared.names.Heap.TheVariants.{Kernel, User, Shared}
use Rattle.k_types.specs.Names.{name_eq, leads_to, directory}
use Rattle.k_types.specs.Cells.{BookPart, CellPart}
use Rattle.k_laws.specs.BookChanges.{registers_in}

-- some heap has an exit item to the object, or a register of another process holds it
abbrev pub entered_in : BookPart → Name → Bool
entered_in b n = nat_lt 0 (b.entries n) || nat_lt 0 (b.pins n)

-- the heap's own process holds the object, or it is the kernel's directory
abbrev pub held_by : Heap → CellPart → Name → Bool
held_by Kernel c n = name_eq directory n
held_by (User p) c n = list_any (λ r. leads_to r n) (registers_in c.process)
held_by (Shared s) c n = false

-- of the cell's objects those that are entered or held
abbrev pub roots_in : Heap → BookPart → CellPart → List Name
roots_in h b c = map (λ o. o.name) (filter (λ o. entered_in b o.name || held_by h c o.name) c.objects)
