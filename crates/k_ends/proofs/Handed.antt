-- What is kept back for the ends of processes serves for the end of each, and what is left of it for the others.
use Rattle.std.proofs.Common.{◌≡◌, ◌+◌, ◌<◌, ◌≤◌, ◌^◌, ◌++◌, ◌∷◌, [], List, sym, ap, ◌∙◌, subst, length, append-nil, arith, IsFalse}
use Rattle.k_types.specs.declared.event.Event.{Event}
use Rattle.k_types.specs.declared.event.Event.TheVariants.{Ended}
use Rattle.k_types.specs.declared.names.CellPhase.{CellPhase}
use Rattle.k_types.specs.declared.names.CellPhase.TheVariants.{Begun, Idle, Marked}
use Rattle.k_types.specs.declared.names.Heap.{Heap}
use Rattle.k_types.specs.declared.names.Heap.TheVariants.{Kernel, User}
use Rattle.k_types.specs.declared.names.Pid.{Pid}
use Rattle.k_types.specs.Agree.{CellValue}
use Rattle.k_types.specs.Cells.{ShownPart, part}
use Rattle.k_types.specs.Names.{among}
use Rattle.k_types.specs.Owners.{user}
use Rattle.k_types.specs.State.{State, opening}
use Rattle.k_types.specs.Steps.{IsLegalHistory, IsPossible, state_after}
use Rattle.k_types.specs.Trace.{Trace, process_count}
use Rattle.k_types.specs.Distinct.{AreDistinctNames}
use Rattle.k_laws.specs.Counts.{exit_count}
use Rattle.k_laws.proofs.Histories.{legal_rest}
use Rattle.k_agree.specs.Agreement.{Agrees, BookAgrees, Shows}
use Rattle.k_agree.specs.Meeting.{Fits}
use Rattle.k_agree.proofs.Meetings.{meeting}
use Rattle.k_book.specs.Books.{BookRecord}
use Rattle.k_book.specs.Objects.{made_by, objects_after}
use Rattle.k_cell.specs.Holdings.{HoldingsValue}
use Rattle.k_calls.specs.k_collect.Settling.{AreEnds, IsTheEnd}
use Rattle.k_heap.specs.Heaps.{HeapRecord, has_ended_in}
use Rattle.k_calls.specs.k_guests.Reserve.{Spares}
use Rattle.k_calls.specs.k_guests.Serving.{Basis, BookServes, HasFewObjectsIn, HasReserveAt}
use Rattle.k_calls.proofs.Reserve.{appended_kept, published_kept}
use Rattle.k_calls.proofs.ReserveShown.{exits_shown, fit_beside, own_shown}
use Rattle.k_calls.proofs.Going.{book_goes_on}
use Rattle.k_calls.proofs.Objects.{appended_counts, published_counts}

-- the cell of a process shows whether it has ended
ended_shown : (trace : Trace) (st : State) (pid : Pid) (value : CellValue) → Shows trace st (User pid) value → has_ended_in value.process ≡ among pid.0 st.ended
unfolding part
ended_shown trace st pid value shows = ap (λ (s : ShownPart). has_ended_in s.process) shows.part

module _ (basis : Basis) (b : BookRecord) (book : BookServes basis b) where
  abbrev now : State
  now = state_after basis.trace b.journal.list

  -- behind one event that takes none of it the book serves still
  pub book_appended : (l : BookRecord) (event : Event) → l ≡ record b { journal = l.journal; value = l.value } → BookAgrees basis.trace l.journal l.value → l.journal.list ≡ b.journal.list ++ event ∷ [] → IsPossible basis.trace now event →
      Spares basis.trace basis.rooms.exits basis.rooms.kernel_exits now event → made_by event ≡ 0 → BookServes basis l
  book_appended l event is agrees journal may spares none =
      book_goes_on basis b l book is agrees
      (subst (λ history. HasReserveAt basis (state_after basis.trace history)) (sym journal)
      (appended_kept basis.trace basis.rooms.exits basis.rooms.kernel_exits b.journal.list event may spares book.reserve))
      few_then
    where
      then_is : objects_after basis.trace l.journal.list ≡ objects_after basis.trace (b.journal.list ++ event ∷ [])
      then_is = ap (objects_after basis.trace) journal

      few_then : HasFewObjectsIn basis l
      few_then = let one = appended_counts basis.trace b.journal.list event may in let few = book.few in omega (arith, one, then_is, none, few)

  -- a process that has nothing unpublished has no more exit items than are kept back for it
  pub own_few : (c : HeapRecord) → Agrees basis.trace (User c.pid) c.note c.value → c.value.tail ≡ [] → Fits b.journal c.note → AreDistinctNames c.value.exits → length c.value.exits ≤ c.exit_room → c.exit_room ≡ basis.rooms.exits →
      exit_count now.exits (user c.pid.0) ≤ basis.rooms.exits
  own_few c agrees settled fits distinct few room =
      own_shown basis.trace b.journal b.value book.stands.keeps.limits book.stands.agrees basis.rooms.exits c.pid c.note c.value agrees settled fits distinct (omega (arith, few, room))

  -- its exit items fit beside the kernel's while it lives
  pub exits_fit : (c : HeapRecord) (k : HoldingsValue) → c.pid.0 < process_count basis.trace → IsFalse (among c.pid.0 now.ended) → length c.value.exits ≤ c.exit_room → c.exit_room ≡ basis.rooms.exits →
      Agrees basis.trace Kernel k.note k.value → k.exit_room ≡ basis.rooms.kernel_exits → AreDistinctNames k.value.exits → Fits b.journal k.note → length c.value.exits + length k.value.exits ≤ k.exit_room
  exits_fit c k known lives few own_room kernel_agrees room kernel_distinct kernel_fits =
      let others = exits_shown basis.trace b.journal b.value book.stands.keeps.limits book.stands.agrees Kernel k.note k.value kernel_agrees kernel_agrees.tail kernel_fits kernel_distinct in
      let fit = fit_beside basis.trace b.journal b.value book.stands.keeps.limits book.stands.agrees basis.rooms.exits basis.rooms.kernel_exits c.pid c.value k.value known lives
      (omega (arith, few, own_room)) others book.reserve in
      omega (arith, fit, room)

  -- a process that lives by its cell, which fits the journal, lives in the machine
  pub lives_now : (c : HeapRecord) → Agrees basis.trace (User c.pid) c.note c.value → c.value.tail ≡ [] → Fits b.journal c.note → IsFalse (has_ended_in c.value.process) → IsFalse (among c.pid.0 now.ended)
  lives_now c agrees settled fits lives =
      sym (ended_shown basis.trace now c.pid c.value ((meeting basis.trace b.journal b.value (User c.pid) c.note c.value agrees book.stands.agrees fits).shows settled)) ∙ lives

  -- what a process publishes makes no object
  pub few_published : (c : HeapRecord) → Agrees basis.trace (User c.pid) c.note c.value → IsLegalHistory basis.trace (b.journal.list ++ c.value.tail) → objects_after basis.trace (b.journal.list ++ c.value.tail) < 2 ^ 32
  few_published c agrees legal = let same = published_counts basis.trace b.journal.list c.pid c.note c.value agrees legal in let few = book.few in omega (arith, same, few)

  -- what a process publishes takes none of it
  pub kept_published : (c : HeapRecord) → Agrees basis.trace (User c.pid) c.note c.value → Fits b.journal c.note → HasReserveAt basis (state_after basis.trace (b.journal.list ++ c.value.tail))
  kept_published c agrees fits = published_kept basis.trace basis.rooms.exits basis.rooms.kernel_exits b.journal b.value c.pid c.note c.value agrees book.stands.agrees fits book.reserve

module _ (basis : Basis) (heap : Heap) (history last : List Event) (legal : IsLegalHistory basis.trace (history ++ last)) (kept : HasReserveAt basis (state_after basis.trace history)) where
  end_takes_none : IsTheEnd heap last → HasReserveAt basis (state_after basis.trace (history ++ last))
  end_takes_none one =
      let may = (legal_rest basis.trace (opening basis.trace) history (Ended heap one.objects one.bytes one.exits one.shares ∷ []) (subst (λ l. IsLegalHistory basis.trace (history ++ l)) one.is legal)).0 in
      subst (λ l. HasReserveAt basis (state_after basis.trace (history ++ l))) (sym one.is)
      (appended_kept basis.trace basis.rooms.exits basis.rooms.kernel_exits history (Ended heap one.objects one.bytes one.exits one.shares) may tt kept)

  -- nor does the end of what is open
  pub ends_take_none : (phase : CellPhase) → AreEnds heap phase last → HasReserveAt basis (state_after basis.trace (history ++ last))
  ends_take_none Idle none = subst (λ events. HasReserveAt basis (state_after basis.trace events)) (sym (ap (λ l. history ++ l) none ∙ append-nil history)) kept
  ends_take_none Begun one = end_takes_none one
  ends_take_none Marked one = end_takes_none one

-- nor does it make an object
module _ (basis : Basis) (heap : Heap) (history last : List Event) (legal : IsLegalHistory basis.trace (history ++ last)) (few : objects_after basis.trace history < 2 ^ 32) where
  end_makes_none : IsTheEnd heap last → objects_after basis.trace (history ++ last) < 2 ^ 32
  end_makes_none one =
      let end = Ended heap one.objects one.bytes one.exits one.shares in
      let may = (legal_rest basis.trace (opening basis.trace) history (end ∷ []) (subst (λ l. IsLegalHistory basis.trace (history ++ l)) one.is legal)).0 in
      let counts = appended_counts basis.trace history end may in
      subst (λ l. objects_after basis.trace (history ++ l) < 2 ^ 32) (sym one.is) (omega (arith, counts, few))

  pub ends_make_none : (phase : CellPhase) → AreEnds heap phase last → objects_after basis.trace (history ++ last) < 2 ^ 32
  ends_make_none Idle none = subst (λ events. objects_after basis.trace events < 2 ^ 32) (sym (ap (λ l. history ++ l) none ∙ append-nil history)) few
  ends_make_none Begun one = end_makes_none one
  ends_make_none Marked one = end_makes_none one
