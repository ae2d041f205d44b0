-- The numbers of the end of a collection fit, and what it credits is charged.
use Rattle.std.proofs.Common.{◌≡◌, ◌+◌, ◌-◌, ◌*◌, ◌<◌, ◌≤◌, ◌^◌, ◌&&◌, not, Bool, true, false, cond, ℕ, ap, List, ◌++◌, length, arith, get_or, IsFalse}
use Rattle.std.proofs.lemmas.List.{length-append}
use Rattle.k_types.specs.Agree.{BookValue, CellValue}
use Rattle.k_types.specs.Cells.{BookPart, Cell, ShownPart, book_part, part}
use Rattle.k_types.specs.Names.{among, heap_eq, name_among}
use Rattle.k_types.specs.Numbers.{numbers_below}
use Rattle.k_types.specs.Owners.{object_bytes, objects_of, owner_of, user}
use Rattle.k_types.specs.Sound.{IsSound}
use Rattle.k_types.specs.State.{State, has_share}
use Rattle.k_types.specs.Steps.{IsLegalHistory, state_after}
use Rattle.k_types.specs.Totals.{total}
use Rattle.k_types.specs.Trace.{Trace, limit_of, process_count}
use Rattle.k_types.specs.TraceRules.{KeepsRules}
use Rattle.k_types.specs.declared.event.Event.{Event}
use Rattle.k_types.proofs.Lists.{length-kept}
use Rattle.k_types.proofs.Sums.{total_at_most}
use Rattle.k_laws.specs.Counts.{has_allocated}
use Rattle.k_laws.proofs.Counting.{count_low, total_fewer}
use Rattle.k_laws.proofs.BoundsLaws.{objects_are_at_most_the_allocations}
use Rattle.k_laws.proofs.Fitting.{objects_bounded}
use Rattle.k_tie.specs.Values.{NoteValue}
use Rattle.k_agree.specs.Agreement.{Agrees, BookShows, Shows}
use Rattle.k_agree.specs.Ending.{bytes_unshared, freed_bytes, freed_objects, keeps_way}
use Rattle.k_laws.proofs.SquaresLaws.{what_is_let_go_is_counted-charges}
use Rattle.k_collect.specs.Collecting.{HasFewObjects}

-- each event makes at most one object, beside the directory
pub objects_few : (trace : Trace) (history : List Event) → length (state_after trace history).objects ≤ 1 + length history
objects_few trace history =
    let objects = objects_are_at_most_the_allocations trace history in
    let events = count_low has_allocated history in
    omega (arith, objects, events)

module _ (trace : Trace) (history : List Event) (keeps : KeepsRules trace) (legal : IsLegalHistory trace history) where
  abbrev now : State
  now = state_after trace history

  bytes_few : total object_bytes now.objects ≤ 144 * (1 + length history)
  bytes_few =
      let fit = objects_bounded trace history keeps.limits (record { types = keeps.fields; directory = keeps.directory }) legal in
      let bytes = fit.bytes in
      let objects = objects_few trace history in
      omega (arith, bytes, objects)

  module _ (cell : Cell) (v : CellValue) (shows : Shows trace now cell v) where
    objects_are : v.objects ≡ objects_of (owner_of trace now) cell now.objects
    unfolding part
    objects_are = ap (λ (s : ShownPart). s.objects) shows.part

    pub held_few : length v.objects ≤ length now.objects
    held_few =
        let own = ap length objects_are in
        let mine = length-kept (λ o. heap_eq (owner_of trace now o.name.seg.0) cell) now.objects in
        omega (arith, own, mine)

    pub freed_few : freed_objects v ≤ length v.objects
    freed_few = length-kept (λ o. not (name_among o.name v.black)) v.objects

    pub freed_own : freed_bytes v ≤ total object_bytes v.objects
    freed_own = total_fewer object_bytes (λ o. not (name_among o.name v.black)) v.objects

    pub freed_light : freed_bytes v ≤ 144 * (1 + length history)
    freed_light =
        let own = ap (total object_bytes) objects_are in
        let mine = total_fewer object_bytes (λ o. heap_eq (owner_of trace now o.name.seg.0) cell) now.objects in
        omega (arith, freed_own, own, mine, bytes_few)

-- a cell that has seen few events has few objects
pub few_held : (trace : Trace) (cell : Cell) (note : NoteValue) (v : CellValue) → KeepsRules trace → Agrees trace cell note v → length note.list + length v.tail < 2 ^ 32 - 1 → HasFewObjects v
few_held trace cell note v keeps agrees short =
    let held = held_few trace (note.list ++ v.tail) keeps agrees.legal cell v agrees.shows in
    let most = objects_few trace (note.list ++ v.tail) in
    let both = length-append note.list v.tail in
    omega (arith, held, most, both, short)

less_lost : (a b : Bool) (n : ℕ) → cond (a && not b) n 0 ≤ cond (a && true) n 0
less_lost true true n = omega arith
less_lost true false n = omega arith
less_lost false b n = omega arith

-- what the end of the collection credits is charged at the limit
pub credit_is_charged : (trace : Trace) (st : State) (p : ℕ) (v : CellValue) (b : BookValue) → KeepsRules trace → IsSound trace st → p < process_count trace → IsFalse (among p st.ended) →
    BookShows trace st b → Shows trace st (user p) v → freed_bytes v ≤ total object_bytes v.objects →
    freed_bytes v + bytes_unshared trace (owner_of trace st) b v p ≤ get_or b.direct (limit_of trace p) 0
unfolding book_part part
credit_is_charged trace st p v b keeps sound known lives seen shows freed =
    let whole = (what_is_let_go_is_counted-charges trace st p keeps.limits sound known lives).whole in
    let own = ap (λ (s : ShownPart). total object_bytes s.objects) shows.part in
    let direct = ap (λ (k : BookPart). get_or k.direct (limit_of trace p) 0) seen.part in
    let lost = total_at_most (λ t. cond (has_share b.shares p t && not (keeps_way (owner_of trace st) b v p t)) (get_or b.shared_bytes t 0) 0) (λ t. cond (has_share b.shares p t && true) (get_or b.shared_bytes t 0) 0)
    (λ t. less_lost (has_share b.shares p t) (keeps_way (owner_of trace st) b v p t) (get_or b.shared_bytes t 0)) (numbers_below trace.shared_heaps) in
    let same = ap (λ (k : BookPart). total (λ t. cond (k.shares p t && true) (get_or k.shared_bytes t 0) 0) (numbers_below trace.shared_heaps)) seen.part in
    omega (arith, whole, own, direct, lost, same, freed)
