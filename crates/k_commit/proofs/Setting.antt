-- A register that is set with its pin.
use Rattle.std.proofs.Common.{◌≡◌, ◌+◌, ◌-◌, ◌<◌, ◌==◌, ◌^◌, ℕ, refl, sym, ap, subst, ◌∙◌, List, length, Option, Some, None, IsFalse, arith}
use Rattle.std.proofs.lemmas.List.{length-map}
use Rattle.k_types.specs.declared.names.Heap.{Heap}
use Rattle.k_types.specs.declared.names.Heap.TheVariants.{User}
use Rattle.k_types.specs.declared.names.Name.{Name}
use Rattle.k_types.specs.Agree.{book_shown_by}
use Rattle.k_types.specs.Cells.{BookPart, ProcessPart, ShownPart, part}
use Rattle.k_types.specs.Counted.{Counted, counted}
use Rattle.k_types.specs.Names.{among, heap_eq}
use Rattle.k_types.specs.Numbers.{numbers_below}
use Rattle.k_types.specs.Owners.{owner_of, user}
use Rattle.k_types.specs.State.{State}
use Rattle.k_types.specs.Steps.{state_after}
use Rattle.k_types.specs.Trace.{process_count, segment_count}
use Rattle.k_types.proofs.Lists.{numbers_length}
use Rattle.k_types.proofs.NameTests.{heap_eq_refl, heap_eq-true}
use Rattle.k_types.proofs.Tests.{same_test}
use Rattle.k_book.proofs.Means.{is_own_if, own_is}
use Rattle.k_book.specs.k_entry.Entries.{AreEntries}
use Rattle.k_book.specs.Books.{BookRecord, book_pins}
use Rattle.k_book.specs.Calls.{ChangesPins}
use Rattle.k_book.proofs.OnPart.{moved_on}
use Rattle.k_book.specs.k_laws.BookChanges.{owner_in, with_pin_moved}
use Rattle.k_book.proofs.Laws.{the_book_tells_the_owners}
use Rattle.k_laws.specs.PartUpdates.{held_in}
use Rattle.k_heap.specs.Heaps.{HeapRecord, has_ended_in}
use Rattle.k_agree.proofs.SquaresLaws.{what_is_let_go_is_counted-pins}
use Rattle.k_commit.specs.Changed.{CanSetRegister}
use Rattle.k_commit.specs.Met.{Before, HaveMet}
use Rattle.k_commit.specs.Owning.{IsOwnBySegment}
use Rattle.k_commit.proofs.Fitting.{pins_have_room, pins_small}

module _ (b t l : BookRecord) (first : ChangesPins b t) (second : ChangesPins t l) where
  pub pins_alone : l ≡ record b { value = record b.value { pins = l.value.pins } }
  pins_alone = second ∙ ap (λ (k : BookRecord). record k { value = record k.value { pins = l.value.pins } }) first

  pub pins_moved : (own : ℕ → Heap) (p : ℕ) (held value : Option Name) →
      book_shown_by t.value ≡ with_pin_moved own p None value (book_shown_by b.value) →
      book_shown_by l.value ≡ with_pin_moved own p held None (book_shown_by t.value) →
      book_shown_by l.value ≡ with_pin_moved own p held value (book_shown_by b.value)
  pins_moved own p held value taken gone = gone ∙ ap (with_pin_moved own p held None) taken ∙ moved_on own p held value (book_shown_by b.value)

-- what a process whose cell has met owns
module _ (before : Before) (m : HaveMet before) where
  abbrev now : State
  now = state_after before.trace before.book.journal.list

  abbrev own : ℕ → Heap
  own = owner_in before.trace (book_shown_by before.book.value)

  pub owners : own ≡ owner_of before.trace now
  owners = ap (owner_in before.trace) m.book.agrees.shows.part ∙ the_book_tells_the_owners before.trace now

  process_is : before.cell.value.process ≡ (part before.trace now (User before.cell.pid)).process
  process_is = ap (λ (s : ShownPart). s.process) m.after.shows.part

  pub process_known : before.cell.pid.0 < process_count before.trace
  process_known = m.after.met.there

  pub process_lives : IsFalse (among before.cell.pid.0 now.ended)
  unfolding part
  process_lives = sym (ap has_ended_in process_is) ∙ m.heap.lives

  pub fits_segment : before.cell.pid.0 + 1 < 2 ^ 32
  fits_segment = let few = m.book.keeps.processes in omega (arith, process_known, few)

  pub own_by_segment : (x : Option Name) → IsOwnBySegment own before.cell.pid.0 x
  own_by_segment x n is =
      ap (λ (o : ℕ → Heap). heap_eq (user before.cell.pid.0) (o n.seg.0)) owners
      ∙ same_test (heap_eq (user before.cell.pid.0) (owner_of before.trace now n.seg.0)) (n.seg.0 == before.cell.pid.0 + 1)
      (λ mine. is_own_if before.trace now before.cell.pid.0 n (sym (heap_eq-true (user before.cell.pid.0) (owner_of before.trace now n.seg.0) mine)))
      (λ here. ap (heap_eq (user before.cell.pid.0)) (own_is before.trace now before.cell.pid.0 n process_known process_lives here) ∙ heap_eq_refl (user before.cell.pid.0))

  homes_enough : length before.book.value.homes ≡ segment_count before.trace
  homes_enough =
      ap length m.book.agrees.shows.homes
      ∙ length-map (numbers_below (segment_count before.trace)) (owner_of before.trace now)
      ∙ numbers_length 0 (segment_count before.trace)

  pub at_home : (homes : List Heap) → homes ≡ before.book.value.homes → (n : Name) → n.seg.0 < segment_count before.trace → n.seg.0 < length homes
  at_home homes same n there = subst (λ k. n.seg.0 < k) (sym homes_enough ∙ sym (ap length same)) there

  pub pin_there : (r : ℕ) (n : Name) → held_in before.cell.value.process r ≡ Some n → IsFalse (heap_eq (user before.cell.pid.0) (own n.seg.0)) → 0 < counted before.book.value.pins n
  pin_there r n held foreign =
      let counted_there = (what_is_let_go_is_counted-pins before.trace now before.cell.pid.0 process_known).one r n
      (ap (λ (p : Option ProcessPart). held_in p r) (sym process_is) ∙ held)
      (ap (λ (k : BookPart). heap_eq (user before.cell.pid.0) (owner_in before.trace k n.seg.0)) (sym m.book.agrees.shows.part) ∙ foreign) in
      subst (λ (k : BookPart). 0 < k.pins n) (sym m.book.agrees.shows.part) counted_there

module _ (before : Before) (c : HeapRecord) (b : BookRecord) (r : ℕ) (value : Option Name) (can : CanSetRegister before c b r value) where
  pub value_at_home : (n : Name) → value ≡ Some n → n.seg.0 < length b.value.homes
  value_at_home n is = at_home before can.have_met b.value.homes can.owners.homes n (can.there n is)

  -- the pins as they were when the cell met
  pub pins_have_room_now : AreEntries (book_pins b) → length b.value.pins < b.pin_room
  pins_have_room_now items =
      let then = pins_have_room before can.have_met (subst AreEntries pins_same items) in
      omega (arith, then, ap (λ (l : List Counted). length l) can.pins, can.pin_room)
    where
      pins_same : book_pins b ≡ book_pins before.book
      pins_same = rw (can.pins, can.owners.homes, can.pin_room) refl

  pub pins_small_now : (n : Name) → counted b.value.pins n < 2 ^ 32 - 1
  pins_small_now n = subst (λ (l : List Counted). counted l n < 2 ^ 32 - 1) (sym can.pins) (pins_small before can.have_met n)

  pub held_then : held_in c.value.process r ≡ held_in before.cell.value.process r
  held_then = ap (λ (p : Option ProcessPart). held_in p r) can.process

  pub pin_there_now : (n : Name) → held_in c.value.process r ≡ Some n →
      IsFalse (heap_eq (user before.cell.pid.0) (owner_in before.trace (book_shown_by before.book.value) n.seg.0)) → 0 < counted b.value.pins n
  pin_there_now n held foreign =
      subst (λ (l : List Counted). 0 < counted l n) (sym can.pins) (pin_there before can.have_met r n (sym held_then ∙ held) foreign)
