-- What a walk gives is counted.
use Rattle.std.proofs.Common.{◌≡◌, ◌<◌, true, sym, ap, ◌∙◌, Option, Some, option_map, nat_lt, ltb-true}
use Rattle.std.proofs.lemmas.Bool.{and_parts}
use Rattle.k_types.specs.declared.names.Name.{Name}
use Rattle.k_types.specs.declared.names.Link.{Link}
use Rattle.k_types.specs.declared.names.Heap.{Heap}
use Rattle.k_types.specs.Names.{name_among, name_of, heap_eq}
use Rattle.k_types.specs.Counted.{counted}
use Rattle.k_entry.specs.Entries.{EntryValue, AreEntries, items_of, objects, first_object, object_after, home_of}
use Rattle.k_entry.proofs.WholeWalks.{walk_has}
use Rattle.k_entry.proofs.Members.{first_among, after_among}

-- an object among those of a home is counted
among_counted : (v : EntryValue) (heap : Heap) (n : Name) → AreEntries v → name_among n (objects (items_of v heap)) ≡ true → 0 < counted v.items n
among_counted v heap n are e =
    let parts = and_parts (nat_lt 0 (counted v.items n)) (heap_eq (home_of v.homes n.seg.0) heap) (sym (walk_has v heap n are) ∙ e) in
    ltb-true 0 (counted v.items n) parts.0

pub first_counted : (v : EntryValue) (heap : Heap) (given : Option Link) (link : Link) → AreEntries v → option_map name_of given ≡ first_object (items_of v heap) → given ≡ Some link → 0 < counted v.items (name_of link)
first_counted v heap given link are is e =
    among_counted v heap (name_of link) are (first_among (items_of v heap) (name_of link) (sym is ∙ ap (option_map name_of) e))

pub after_counted : (v : EntryValue) (heap : Heap) (t : Name) (given : Option Link) (link : Link) → AreEntries v → option_map name_of given ≡ object_after (items_of v heap) t → given ≡ Some link → 0 < counted v.items (name_of link)
after_counted v heap t given link are is e =
    among_counted v heap (name_of link) are (after_among (items_of v heap) t (name_of link) (sym is ∙ ap (option_map name_of) e))
