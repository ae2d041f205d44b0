-- Counts and bytes of cells and book that have met fit their numbers.
use Rattle.std.proofs.Common.{◌≡◌, ◌+◌, ◌-◌, ◌*◌, ◌<◌, ◌≤◌, ◌^◌, Bool, true, false, ℕ, zero, suc, refl, ap, ◌∙◌, List, [], ◌∷◌, length, map, arith, get_or, if◌then◌else◌}
use Rattle.std.proofs.lemmas.List.{length-append, length-map}
use Rattle.k_types.specs.declared.event.Event.{Event}
use Rattle.k_types.specs.declared.names.Heap.{Heap}
use Rattle.k_types.specs.declared.names.Name.{Name}
use Rattle.k_types.specs.declared.setup.LimitRow.{LimitRow}
use Rattle.k_types.specs.Agree.{BookValue, CellValue}
use Rattle.k_types.specs.Cells.{BookPart, Cell, ShownPart, book_part, entries, part, pins}
use Rattle.k_types.specs.Counted.{counted}
use Rattle.k_types.specs.Limits.{direct_by, limits_in, with_maxima}
use Rattle.k_types.specs.Names.{heap_eq}
use Rattle.k_types.specs.Numbers.{numbers_below}
use Rattle.k_types.specs.Owners.{bytes_by, bytes_of, charge_of, object_bytes, owner_of, shared, user}
use Rattle.k_types.specs.State.{State, has_exit}
use Rattle.k_types.specs.Steps.{IsLegalHistory, state_after}
use Rattle.k_types.specs.Totals.{total}
use Rattle.k_types.specs.Trace.{Trace, limit_of, process_count}
use Rattle.k_types.specs.TraceRules.{AreLimits}
use Rattle.k_types.proofs.Charges.{direct_within}
use Rattle.k_types.proofs.Lists.{get_mapped, numbers_length}
use Rattle.k_types.proofs.Sums.{ones, total_at_most}
use Rattle.k_laws.proofs.Sizes.{history_sized}
use Rattle.k_laws.specs.PartUpdates.{done_in}
use Rattle.k_laws.specs.Counts.{has_allocated, is_operation}
use Rattle.k_laws.proofs.Counting.{count_low, total_fewer}
use Rattle.k_laws.proofs.Distinct.{pins_few}
use Rattle.k_laws.proofs.Dones.{dones_at_most}
use Rattle.k_laws.proofs.BoundsLaws.{objects_are_at_most_the_allocations}
use Rattle.k_laws.proofs.Fitting.{objects_bounded}
use Rattle.k_laws.proofs.KnownMaxima.{max_small}
use Rattle.k_agree.specs.Meaning.{heaps_of}
use Rattle.k_book.specs.k_agree.Agreement.{BookShows, Shows}
use Rattle.k_book.proofs.LawsLaws.{entered_objects_are_counted-entries}
use Rattle.k_book.proofs.SoundSteps.{legal_sound}
use Rattle.k_book.specs.k_entry.Entries.{AreEntries, objects}
use Rattle.k_book.proofs.WholeWalks.{all_distinct, few_items}
use Rattle.k_book.specs.Books.{book_pins}
use Rattle.k_commit.specs.Met.{Before, BeforeWith, HaveMet, HaveMetWith}
use Rattle.k_commit.specs.Rooms.{HasEventRoom}

-- what is read of a list of small numbers is small
pub read_low : {A : Type 0} (f : A → ℕ) (xs : List A) (i most : ℕ) → ((x : A) → f x ≤ most) → get_or (map f xs) i 0 ≤ most
read_low f [] i most low = omega arith
read_low f (x ∷ xs) zero most low = low x
read_low f (x ∷ xs) (suc i) most low = read_low f xs i most low

one_at_most : (b : Bool) → (if b then 1 else 0) ≤ 1
one_at_most true = omega arith
one_at_most false = omega arith

-- there is a heap for the kernel, for each process and for each shared heap
heap_count : (trace : Trace) → length (heaps_of trace) ≡ 1 + (process_count trace + trace.shared_heaps)
heap_count trace =
    let both = length-append (map user (numbers_below (process_count trace))) (map shared (numbers_below trace.shared_heaps)) in
    let users = length-map (numbers_below (process_count trace)) user ∙ numbers_length 0 (process_count trace) in
    let heaps = length-map (numbers_below trace.shared_heaps) shared ∙ numbers_length 0 trace.shared_heaps in
    omega (arith, both, users, heaps)

module _ (before : Before) (m : HaveMet before) where
  abbrev now : State
  now = state_after before.trace before.book.journal.list

  done_is : done_in before.cell.value.process ≡ get_or now.done before.cell.pid.0 0
  unfolding part
  done_is = ap (λ (s : ShownPart). done_in s.process) m.after.shows.part

  pub done_low : done_in before.cell.value.process ≤ length before.book.journal.list
  done_low =
      let most = dones_at_most before.trace before.book.journal.list before.cell.pid.0 in
      omega (arith, done_is, most, count_low is_operation before.book.journal.list)

  pub done_small : HasEventRoom before.book → done_in before.cell.value.process < 2 ^ 64 - 1
  done_small room = let few = m.few in omega (arith, done_low, room, few)

  pins_are : (n : Name) → counted before.book.value.pins n ≡ pins before.trace now n
  unfolding book_part
  pins_are n = ap (λ (b : BookPart). b.pins n) m.book.agrees.shows.part

  entries_are : (n : Name) → counted before.book.value.entries n ≡ entries now n
  unfolding book_part
  entries_are n = ap (λ (b : BookPart). b.entries n) m.book.agrees.shows.part

  pub pins_small : (n : Name) → counted before.book.value.pins n < 2 ^ 32 - 1
  pins_small n =
      let most = pins_few before.trace now (history_sized before.trace before.book.journal.list) (n ∷ []) (refl, tt) in
      let few = m.book.keeps.processes in
      omega (arith, pins_are n, most, few)

  -- each heap has at most one exit item to the object
  pub entries_small : (n : Name) → counted before.book.value.entries n < 2 ^ 32 - 1
  entries_small n =
      let sound = legal_sound before.trace before.book.journal.list m.book.keeps.limits m.book.agrees.legal in
      let by_heap = entered_objects_are_counted-entries before.trace now n sound in
      let most = total_at_most (λ (h : Heap). if has_exit now.exits h n then 1 else 0) (λ (h : Heap). 1) (λ (h : Heap). one_at_most (has_exit now.exits h n)) (heaps_of before.trace) in
      let all = ones (heaps_of before.trace) in
      let heaps = heap_count before.trace in
      let processes = m.book.keeps.processes in
      let shared_heaps = m.book.keeps.shared in
      omega (arith, entries_are n, by_heap, most, all, heaps, processes, shared_heaps)

  pub pins_have_room : AreEntries (book_pins before.book) → length before.book.value.pins < before.book.pin_room
  pins_have_room items =
      let names = objects before.book.value.pins in
      let distinct = all_distinct (book_pins before.book) items in
      let each = few_items (book_pins before.book) items in
      let same = same_totals names in
      let most = pins_few before.trace now (history_sized before.trace before.book.journal.list) names distinct in
      let room = m.book.pins in
      omega (arith, each, same, most, room)
    where
      same_totals : (names : List Name) → total (counted before.book.value.pins) names ≡ total (pins before.trace now) names
      same_totals [] = refl
      same_totals (n ∷ names) = omega (arith, pins_are n, same_totals names)

  -- all objects together
  all_bytes : total object_bytes now.objects ≤ 144 * (1 + length before.book.journal.list)
  all_bytes =
      let limits = m.book.keeps.limits in
      let fit = objects_bounded before.trace before.book.journal.list limits (record { types = m.book.keeps.fields; directory = m.book.keeps.directory }) m.book.agrees.legal in
      let objects = objects_are_at_most_the_allocations before.trace before.book.journal.list in
      let events = count_low has_allocated before.book.journal.list in
      let bytes = fit.bytes in
      omega (arith, bytes, objects, events)

  heap_bytes : (h : Heap) → bytes_of before.trace now h ≤ 144 * (1 + length before.book.journal.list)
  unfolding bytes_by
  heap_bytes h =
      let fewer = total_fewer object_bytes (λ o. heap_eq (owner_of before.trace now o.name.seg.0) h) now.objects in
      omega (arith, fewer, all_bytes)

  objects_are : (c : Cell) (v : CellValue) → Shows before.trace now c v → total object_bytes v.objects ≡ bytes_of before.trace now c
  unfolding part bytes_by
  objects_are c v shows = ap (λ (s : ShownPart). total object_bytes s.objects) shows.part

  pub bytes_small : HasEventRoom before.book → (c : Cell) (v : CellValue) → Shows before.trace now c v → total object_bytes v.objects + 144 < 2 ^ 64
  bytes_small room c v shows =
      let few = m.few in
      omega (arith, objects_are c v shows, heap_bytes c, room, few)

  shared_are : before.book.value.shared_bytes ≡ map (λ s. bytes_of before.trace now (shared s)) (numbers_below before.trace.shared_heaps)
  unfolding book_part
  shared_are = ap (λ (b : BookPart). b.shared_bytes) m.book.agrees.shows.part

  pub charged_small : HasEventRoom before.book → (s : ℕ) → get_or before.book.value.shared_bytes s 0 + 144 < 2 ^ 64
  charged_small room s =
      let few = m.few in
      let same = ap (λ (bytes : List ℕ). get_or bytes s 0) shared_are in
      let low = read_low (λ t. bytes_of before.trace now (shared t)) (numbers_below before.trace.shared_heaps) s (144 * (1 + length before.book.journal.list)) (λ t. heap_bytes (shared t)) in
      omega (arith, same, low, room, few)

pub other_bytes_small : (before : BeforeWith) → HaveMetWith before → HasEventRoom before.own.book → total object_bytes before.other.held.value.objects + 144 < 2 ^ 64
other_bytes_small before m room = bytes_small before.own m.own room before.other.cell before.other.held.value m.after.shows

some_rows : (rows : List LimitRow) (maxima : List ℕ) → 0 < length rows → 0 < length (with_maxima rows maxima)
some_rows [] maxima some = absurd (omega (arith, some))
some_rows (row ∷ rows) [] some = some
some_rows (row ∷ rows) (max ∷ maxima) some = omega arith

-- what is charged directly at the limit of a process is within its maximum
module _ (trace : Trace) (history : List Event) (b : BookValue) (limits : AreLimits trace) (legal : IsLegalHistory trace history) (shows : BookShows trace (state_after trace history) b)
    (p : ℕ) (known : p < process_count trace) where
  abbrev st : State
  st = state_after trace history

  direct_is : get_or b.direct (limit_of trace p) 0 ≡ direct_by trace (charge_of trace st) (limit_of trace p)
  unfolding book_part
  direct_is =
      ap (λ (x : BookPart). get_or x.direct (limit_of trace p) 0) shows.part
      ∙ get_mapped (direct_by trace (charge_of trace st)) 0 (length trace.limits) (limit_of trace p) (limits.limited p known)
      ∙ ap (direct_by trace (charge_of trace st)) (none_more (limit_of trace p))
    where
      none_more : (m : ℕ) → 0 + m ≡ m
      none_more m = omega arith

  pub direct_low : get_or b.direct (limit_of trace p) 0 < 2 ^ 40
  direct_low =
      let m = limit_of trace p in
      let limited = limits.limited p known in
      let within = direct_within (limits_in trace st) (direct_by trace (charge_of trace st)) (length (limits_in trace st)) m (some_rows trace.limits st.maxima (omega (arith, limited))) in
      let fits = (legal_sound trace history limits legal).uses m limited in
      let low = max_small trace history limits legal m limited in
      omega (arith, direct_is, within, fits, low)
