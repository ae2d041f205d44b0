use Rattle.std.proofs.Common.{List, ◌≡◌, ◌-◌, refl, sym, ap, subst, ◌∙◌, length, arith}
use Rattle.k_space.specs.declared.live.Entry.{Entry}
use Rattle.k_space.specs.declared.cells.Cell.{Cell}
use Rattle.k_space.specs.declared.marks.Place.TheVariants.{Empty}
use Rattle.k_space.specs.declared.marks.Mark.TheVariants.{White as MarkWhite}
use Rattle.k_space.specs.Segments.{Row, is_marked}
use Rattle.k_space.specs.Listed.{ArePassed, IsNextWhite, serials}
use Rattle.k_space.proofs.Bytes.{bytes_freed, size_there}
use Rattle.k_space.proofs.Entries.{length_serials, serial_read, serials_without}
use Rattle.k_space.proofs.Freed.{freed, freed_rows, other_mark, taken_away}
use Rattle.k_space.proofs.GrayLists.{At_inside}
use Rattle.k_space.proofs.GrayQueue.{last_set}
use Rattle.k_space.proofs.ListedLemmas.{listed_freed, next_place, next_serial, none_white}
use Rattle.k_space.proofs.Numbers.{swapped}
use Rattle.k_space.proofs.Rows.{lies_in, same_cell}
use Rattle.k_space.proofs.segment.Segment.free_unmarked.Goals as goal

pub returns-in-None-clause-none : goal.returns-in-None-clause-none
returns-in-None-clause-none c = λ serial row at.
    let places = c.self.inside.places.items in
    let l = lies_in _ _ places c.self.inside.cells c.args.self.now row.slot serial row c.self.view_is (record { there = at; slot_is = refl }) in
    let live = c.self.inside.live.items in
    let all : ArePassed places (serials live) (length live) = subst (λ (xs : List Entry). ArePassed places (serials xs) (length xs)) c.deref.ensures.value c.in-None.ensures.none in
    ap (λ (r : Row). is_marked r.color) l.row_is ∙ other_mark row.slot l.mark (none_white places (serials live) _ c.self.invariant.listed (subst (ArePassed places (serials live)) (sym (length_serials live)) all) serial row.slot l.mark l.at)

pub overflow_sub-self : goal.overflow_sub-self
overflow_sub-self c =
    let places = c.self.inside.places.items in
    let cells = c.self.inside.cells in
    let at = c.swap_remove-entry.result.serial in
    let next : IsNextWhite places (serials c.self.inside.live.items) c.in-Some.white.at c.in-Some.white.slot = subst (λ (xs : List Entry). IsNextWhite places (serials xs) c.in-Some.white.at c.in-Some.white.slot) c.deref.ensures.value c.in-Some.ensures.some in
    let here = next_place places (serials c.self.inside.live.items) c.in-Some.white.at c.in-Some.white.slot at next (serial_read c.self.inside.live.items c.in-Some.white.at c.swap_remove-entry.result c.swap_remove-entry.ensures.value) in
    let rows = freed_rows places cells c.take-cell.new.self c.self.inside.room _ c.self.inside.gray at c.in-Some.white.slot MarkWhite c.self.invariant.sound here c.take-cell.ensures.changed in
    let size = size_there places cells at c.in-Some.white.slot MarkWhite c.take-cell.result here c.take-cell.ensures.value ∙ sym c.bytes-bytes.ensures.size in
    (bytes_freed places cells c.take-cell.new.self c.self.inside.bytes at c.bytes-bytes.result c.self.invariant.bytes rows (At_inside places at c.in-Some.white.slot MarkWhite here) size).0

pub invariant_of-self : goal.invariant_of-self
invariant_of-self c =
    let places = c.self.inside.places.items in
    let cells = c.self.inside.cells in
    let live = c.self.inside.live in
    let after = c.swap_remove-entry.new.self in
    let at = c.swap_remove-entry.result.serial in
    let next : IsNextWhite places (serials live.items) c.in-Some.white.at c.in-Some.white.slot = subst (λ (xs : List Entry). IsNextWhite places (serials xs) c.in-Some.white.at c.in-Some.white.slot) c.deref.ensures.value c.in-Some.ensures.some in
    let read = serial_read live.items c.in-Some.white.at c.swap_remove-entry.result c.swap_remove-entry.ensures.value in
    let here = next_place places (serials live.items) c.in-Some.white.at c.in-Some.white.slot at next read in
    let rows = freed_rows places cells c.take-cell.new.self c.self.inside.room _ c.self.inside.gray at c.in-Some.white.slot MarkWhite c.self.invariant.sound here c.take-cell.ensures.changed in
    let size = size_there places cells at c.in-Some.white.slot MarkWhite c.take-cell.result here c.take-cell.ensures.value ∙ sym c.bytes-bytes.ensures.size in
    let within = At_inside places at c.in-Some.white.slot MarkWhite here in
    let bytes = bytes_freed places cells c.take-cell.new.self c.self.inside.bytes at c.bytes-bytes.result c.self.invariant.bytes rows within size in
    let without = serials_without live.items after.items c.in-Some.white.at
    (swapped live.items after.items c.in-Some.white.at live.len after.len live.ok.0 after.ok.0 c.swap_remove-entry.ensures.len (omega (arith, next.below, length_serials live.items)) c.swap_remove-entry.ensures.by_index) in
    rw c.take.ensures (record {
      sound = freed places cells c.take-cell.new.self c.self.inside.room _ c.self.inside.gray at c.in-Some.white.slot c.take-cell.result c.self.invariant.sound here c.take-cell.ensures.value c.take-cell.ensures.changed c.take-cell.ensures.count c.take-cell.ensures.capacity;
      bytes = bytes.1 (c.self.inside.bytes - c.bytes-bytes.result) (omega (arith, bytes.0));
      listed = rw (next_serial places (serials live.items) c.in-Some.white.at c.in-Some.white.slot at next read) (listed_freed places (serials live.items) (serials after.items) _ c.in-Some.white.at c.in-Some.white.slot c.self.invariant.listed next without);
      reserved = omega (arith, c.swap_remove-entry.ensures.capacity, c.self.invariant.reserved);
      last = last_set places c.self.inside.last at Empty c.self.invariant.last within refl;
    })

pub returns-in-Some-clause-freed : goal.returns-in-Some-clause-freed
returns-in-Some-clause-freed c =
    let places = c.self.inside.places.items in
    let at = c.swap_remove-entry.result.serial in
    let next : IsNextWhite places (serials c.self.inside.live.items) c.in-Some.white.at c.in-Some.white.slot = subst (λ (xs : List Entry). IsNextWhite places (serials xs) c.in-Some.white.at c.in-Some.white.slot) c.deref.ensures.value c.in-Some.ensures.some in
    let here = next_place places (serials c.self.inside.live.items) c.in-Some.white.at c.in-Some.white.slot at next (serial_read c.self.inside.live.items c.in-Some.white.at c.swap_remove-entry.result c.swap_remove-entry.ensures.value) in
    let placed = c.self.invariant.sound.placed at c.in-Some.white.slot MarkWhite here in
    let one : c.take-cell.result ≡ placed.cell = same_cell (sym c.take-cell.ensures.value ∙ placed.there) in
    rw c.take.ensures
    (taken_away _ _ places c.self.inside.cells c.take-cell.new.self _ c.self.inside.gray c.args.self.now at c.in-Some.white.slot c.take-cell.result _ c.self.invariant.sound c.self.view_is here
    c.take-cell.ensures.value c.take-cell.ensures.changed (ap (λ (x : Cell). x.serial.0) one ∙ placed.serial_is) refl c.bytes-bytes.ensures.size)
