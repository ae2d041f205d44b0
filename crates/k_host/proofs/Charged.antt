-- What a process is charged, by its cell and the book, is what the machine charges it.
use Rattle.std.proofs.Common.{◌≡◌, ℕ, ◌+◌, ◌-◌, ◌<◌, ◌≤◌, ◌^◌, ◌&&◌, ◌==◌, Bool, true, false, cond, refl, sym, ap, ap₂, ◌∙◌, subst, List, ◌++◌, filter, length, map, get_or, Some, slice_get, arith, IsFalse}
use Rattle.k_types.specs.declared.event.Event.{Event}
use Rattle.k_types.specs.declared.names.Heap.{Heap}
use Rattle.k_types.specs.Agree.{BookValue, CellValue}
use Rattle.k_types.specs.Cells.{BookPart, ShownPart, book_part, part}
use Rattle.k_types.specs.Names.{among}
use Rattle.k_types.specs.Numbers.{numbers_below}
use Rattle.k_types.specs.Owners.{bytes_by, bytes_of, charge_of, object_bytes, owner_of, shared, user}
use Rattle.k_types.specs.Sound.{IsSound}
use Rattle.k_types.specs.State.{Sharing, State, has_share}
use Rattle.k_types.specs.Steps.{IsLegalHistory, state_after}
use Rattle.k_types.specs.Totals.{total}
use Rattle.k_types.specs.Trace.{Trace, process_count, segment_count}
use Rattle.k_types.specs.TraceRules.{KeepsRules}
use Rattle.k_types.proofs.Sums.{sum_same, zeros}
use Rattle.k_laws.proofs.SoundSteps.{legal_sound}
use Rattle.k_laws.proofs.EndsOnBook.{charge_told}
use Rattle.k_laws.proofs.OnBook.{owner_told}
use Rattle.k_laws.specs.BookChanges.{owner_in, shared_by}
use Rattle.k_agree.specs.Agreement.{BookShows, Shows}
use Rattle.k_agree.specs.GivingOnTheBook.{charged}
use Rattle.k_agree.specs.Meeting.{Fits, ShowsTheJournal}
use Rattle.k_agree.proofs.GivenOnTheBook.{charge_as_told}
use Rattle.k_agree.proofs.Meetings.{meeting}
use Rattle.k_book.specs.Books.{BookRecord}
use Rattle.k_heap.specs.Heaps.{has_ended_in}
use Rattle.k_solo.proofs.Known.{charge_small}
use Rattle.k_ends.specs.k_guests.declared.guest.Guest.{Guest}
use Rattle.k_ends.specs.k_guests.Serving.{Basis, BookServes, GuestServes, HasTailRoom}
use Rattle.k_host.proofs.Hosts.{KeepsRoom}
use Rattle.k_host.specs.Asked.{charge_told as told_charge}
use Rattle.k_host.specs.Calls.{HasMetTheJournal}
use Rattle.k_host.specs.Hosts.{HostServes, HostValue}
use Rattle.k_host.proofs.InsideCharges.{inside_is_free}
use Rattle.k_types.proofs.Totals.{total_more, total_rises}

-- what the process is charged for the shared heap of that number, by the book
abbrev pub for_heap : BookValue → ℕ → ℕ → ℕ
for_heap book p t = cond (has_share book.shares p t) (get_or book.shared_bytes t 0) 0

-- what it is charged for its own objects and for so many shared heaps, the first ones
abbrev pub so_far : BookValue → CellValue → ℕ → ℕ → ℕ
so_far book value p heaps = total object_bytes value.objects + total (for_heap book p) (numbers_below heaps)

-- one heap more
pub goes_on : (book : BookValue) (value : CellValue) (p id bytes here : ℕ) → bytes ≡ so_far book value p id → here ≡ for_heap book p id → bytes + here ≡ so_far book value p (id + 1)
goes_on book value p id bytes here is same = let more = total_more (for_heap book p) id in omega (arith, is, same, more)

-- what is charged for the first heaps is at most what is charged for all
pub at_most : (book : BookValue) (value : CellValue) (p k n : ℕ) → k ≤ n → so_far book value p k ≤ so_far book value p n
at_most book value p k n within =
    let grows = total_rises (for_heap book p) k (n - k) in
    let same = ap (λ m. total (for_heap book p) (numbers_below m)) (back k n within) in
    omega (arith, grows, same)
  where
    back : (a b : ℕ) → a ≤ b → a + (b - a) ≡ b
    back a b le = omega (arith, le)

-- whether the process has ended is told by its cell
ended_told : (trace : Trace) (st : State) (p : ℕ) (value : CellValue) → Shows trace st (user p) value → has_ended_in value.process ≡ among p st.ended
unfolding part
ended_told trace st p value shows = ap (λ (s : ShownPart). has_ended_in s.process) shows.part

-- what a cell and a book that show the state tell is the machine's charge
pub charge_is : (trace : Trace) (st : State) (p : ℕ) (value : CellValue) (book : BookValue) → IsSound trace st → Shows trace st (user p) value → BookShows trace st book →
    cond (has_ended_in value.process) 0 (charged trace book value p) ≡ charge_of trace st p
charge_is trace st p value book sound shows booked = ap (λ b. cond b 0 (charged trace book value p)) (ended_told trace st p value shows) ∙ go (among p st.ended) refl
  where
    ended_charge : among p st.ended ≡ true → charge_of trace st p ≡ 0
    ended_charge gone = ap (λ b. cond b 0 (bytes_of trace st (user p) + total (λ (e : Sharing). bytes_of trace st (shared e.heap)) (filter (λ e. e.process == p) st.shares))) gone

    go : (b : Bool) → among p st.ended ≡ b → cond b 0 (charged trace book value p) ≡ charge_of trace st p
    go true gone = sym (ended_charge gone)
    go false lives = charge_as_told trace st p value book booked shows ∙ sym (charge_told trace st p sound lives)

-- its own objects have fewer bytes than that where it lives, by its cell
objects_small : (trace : Trace) (history : List Event) (p : ℕ) (value : CellValue) → KeepsRules trace → IsLegalHistory trace history → p < process_count trace → Shows trace (state_after trace history) (user p) value →
    IsFalse (has_ended_in value.process) → total object_bytes value.objects < 2 ^ 40
unfolding part bytes_by
objects_small trace history p value rules legal known shows lives =
    let st = state_after trace history in
    let rest = total (λ (e : Sharing). bytes_of trace st (shared e.heap)) (filter (λ e. e.process == p) st.shares) in
    let own = ap (λ (s : ShownPart). total object_bytes s.objects) shows.part in
    let charge : charge_of trace st p ≡ bytes_of trace st (user p) + rest = ap (λ b. cond b 0 (bytes_of trace st (user p) + rest)) (sym (ended_told trace st p value shows) ∙ lives) in
    let small = charge_small trace history p rules legal known in
    omega (arith, own, charge, small)

-- and so have the shared heaps that it shares, by the book
shares_small : (trace : Trace) (history : List Event) (p : ℕ) (book : BookValue) → KeepsRules trace → IsLegalHistory trace history → p < process_count trace → BookShows trace (state_after trace history) book →
    total (for_heap book p) (numbers_below trace.shared_heaps) < 2 ^ 40
unfolding book_part
shares_small trace history p book rules legal known booked = go (among p st.ended) refl
  where
    st : State
    st = state_after trace history

    sound : IsSound trace st
    sound = legal_sound trace history rules.limits legal

    and_true : (b : Bool) → b ≡ (b && true)
    and_true true = refl
    and_true false = refl

    told : total (for_heap book p) (numbers_below trace.shared_heaps) ≡ shared_by trace (book_part trace st) p (λ t. true)
    told =
        sum_same (for_heap book p) (λ t. cond ((book_part trace st).shares p t && true) (get_or (book_part trace st).shared_bytes t 0) 0)
        (λ t. ap₂ (λ x bytes. cond x (get_or bytes t 0) 0)
        (ap (λ (x : BookPart). x.shares p t) booked.part ∙ and_true ((book_part trace st).shares p t))
        (ap (λ (x : BookPart). x.shared_bytes) booked.part))
        (numbers_below trace.shared_heaps)

    go : (b : Bool) → among p st.ended ≡ b → total (for_heap book p) (numbers_below trace.shared_heaps) < 2 ^ 40
    go true gone =
        let none = sum_same (for_heap book p) (λ t. 0) (λ t. ap (λ x. cond x (get_or book.shared_bytes t 0) 0) (ap (λ (x : BookPart). x.shares p t) booked.part ∙ sound.gone.shares p t gone)) (numbers_below trace.shared_heaps) in
        let zero = zeros (numbers_below trace.shared_heaps) in
        omega (arith, none, zero)
    go false lives =
        let charge = charge_told trace st p sound lives in
        let small = charge_small trace history p rules legal known in
        let same = told in
        omega (arith, charge, small, same)

-- what is told of a process that serves with the book fits 64 bits
module _ {basis : Basis} {b : BookRecord} {g : Guest} (guest : GuestServes basis b.journal.table g) (serves : BookServes basis b) where
  rules : KeepsRules basis.trace
  rules = serves.stands.keeps

  pub known : g.cell.pid.0 < process_count basis.trace
  known = guest.agrees.there

  pub process_there : g.cell.pid.0 < length b.procs
  process_there = let same = ap length serves.stands.of_trace.procs in let inside = known in omega (arith, same, inside)

  pub heaps_are : basis.trace.shared_heaps ≡ length b.value.phases
  unfolding book_part
  heaps_are = sym (ap (λ (x : BookPart). length x.phases) serves.stands.agrees.shows.part ∙ (legal_sound basis.trace b.journal.list rules.limits serves.stands.agrees.legal).shape.sized.phases)

  pub charge_fits : IsFalse (has_ended_in g.cell.value.process) → charged basis.trace b.value g.cell.value g.cell.pid.0 < 2 ^ 64
  charge_fits lives =
      let own = objects_small basis.trace (g.cell.note.list ++ g.cell.value.tail) g.cell.pid.0 g.cell.value rules guest.agrees.legal known guest.agrees.shows lives in
      let others = shares_small basis.trace b.journal.list g.cell.pid.0 b.value rules serves.stands.agrees.legal known serves.stands.agrees.shows in
      omega (arith, own, others)

-- what a host that serves tells
module _ (h : HostValue) (n : ℕ) (g : Guest) (serves : HostServes h) (there : slice_get h.guests n ≡ Some g) where
  guest : GuestServes h.basis h.book.journal.table g
  guest = serves.all.each n g there

  -- where the journal has nothing of the process that its cell does not know, it is the machine's charge after the journal and what the
  -- process has not published, and so after the journal
  module _ (fits : Fits h.book.journal g.cell.note) where
    abbrev pub st : State
    st = state_after h.basis.trace (h.book.journal.list ++ g.cell.value.tail)

    abbrev pub now : State
    now = state_after h.basis.trace h.book.journal.list

    met : ShowsTheJournal h.basis.trace h.book.journal (user g.cell.pid.0) g.cell.note g.cell.value
    met = meeting h.basis.trace h.book.journal h.book.value (user g.cell.pid.0) g.cell.note g.cell.value guest.agrees serves.rest.book.stands.agrees fits

    owners : owner_of h.basis.trace now ≡ owner_of h.basis.trace st
    owners = sym (owner_told h.basis.trace now) ∙ ap (owner_in h.basis.trace) (sym met.book) ∙ owner_told h.basis.trace st

    booked : BookShows h.basis.trace st h.book.value
    booked = record {
      part = serves.rest.book.stands.agrees.shows.part ∙ sym met.book;
      homes = serves.rest.book.stands.agrees.shows.homes ∙ ap (λ (own : ℕ → Heap). map own (numbers_below (segment_count h.basis.trace))) owners;
    }

    pub charge_of_machine : told_charge h g ≡ charge_of h.basis.trace st n
    charge_of_machine =
        charge_is h.basis.trace st g.cell.pid.0 g.cell.value h.book.value (legal_sound h.basis.trace (h.book.journal.list ++ g.cell.value.tail) serves.rest.book.stands.keeps.limits met.agrees.legal) met.agrees.shows booked
        ∙ ap (charge_of h.basis.trace st) (serves.all.placed n g there)

    pub charge_in_journal : told_charge h g ≡ charge_of h.basis.trace now n
    charge_in_journal =
        charge_of_machine
        ∙ inside_is_free h.basis.trace serves.rest.book.stands.keeps.limits g.cell.pid.0 n h.book.journal.list g.cell.value.tail met.agrees.legal serves.rest.book.stands.agrees.legal met.agrees.tail

-- a process whose cell has met the journal serves as before
pub met_serves : (basis : Basis) (g h : Guest) (b : BookRecord) → GuestServes basis b.journal.table g → BookServes basis b → HasMetTheJournal b g h → KeepsRoom basis g h b b
met_serves basis g h b guest book met = record {
  pair = record {
    guest = subst (GuestServes basis b.journal.table) (sym met.guest_is) (record {
      rules = guest.rules;
      agrees = (meeting basis.trace b.journal b.value (user g.cell.pid.0) g.cell.note g.cell.value guest.agrees book.stands.agrees met.fitted).agrees;
      table = guest.table;
      stock = guest.stock;
      exits = guest.exits;
      serials = guest.serials;
      tail = guest.tail;
    });
    book = book;
    same_table = refl;
    pid = ap (λ (x : Guest). x.cell.pid) met.guest_is;
    bodies = ap (λ (x : Guest). x.bodies) met.guest_is;
  };
  few = subst (HasTailRoom basis) (sym met.guest_is);
}
