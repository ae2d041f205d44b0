-- The end of a collection, as the cell's value shows it.
use Rattle.std.specs.Prelude.{◌≡◌, ℕ, ◌+◌, ◌-◌, ◌==◌, ◌&&◌, ◌||◌, not, slice_index_or, slice_set, List, Bool, [], filter, length, count_by, IsTrue, if◌then◌else◌}
use Rattle.std.specs.List.{list_any}
use Rattle.k_laws.specs.k_types.declared.names.Heap.{Heap}
use Rattle.k_laws.specs.k_types.declared.names.Name.{Name}
use Rattle.k_laws.specs.k_types.declared.names.CellPhase.TheVariants.{Idle}
use Rattle.k_laws.specs.k_types.Agree.{BookValue, CellValue}
use Rattle.k_laws.specs.k_types.Counted.{counted}
use Rattle.k_laws.specs.k_types.Cells.{Cell, part, book_part}
use Rattle.k_laws.specs.k_types.Effects.{after_ended, survives, exit_stays, share_stays}
use Rattle.k_laws.specs.k_types.Names.{heap_eq, name_among}
use Rattle.k_laws.specs.k_types.Numbers.{numbers_below}
use Rattle.k_laws.specs.k_types.Owners.{object_bytes, owner_of, phase_of, shared, user}
use Rattle.k_laws.specs.k_types.Replies.{is_populating}
use Rattle.k_laws.specs.k_types.State.{State, has_share, is_scanned}
use Rattle.k_laws.specs.k_types.Steps.{MayEnd}
use Rattle.k_laws.specs.k_types.Totals.{total}
use Rattle.k_laws.specs.k_types.Trace.{Trace, limit_of}
use Rattle.k_laws.specs.Counts.{one_if}
use Rattle.k_laws.specs.BookChanges.{has_way_into, leads_into, registers_in}
use Rattle.k_agree.specs.Agreement.{Shows}

-- the cell with its black objects and exit items alone, and no marks
abbrev pub swept : CellValue → CellValue
swept value = record value {
  objects = filter (λ o. name_among o.name value.black) value.objects;
  exits = filter (λ n. name_among n value.black_exits) value.exits;
  collection = Idle;
  gray = [];
  black = [];
  black_exits = [];
}

-- how many objects go
abbrev pub freed_objects : CellValue → ℕ
freed_objects value = length (filter (λ o. not (name_among o.name value.black)) value.objects)

-- the bytes of the objects that go
abbrev pub freed_bytes : CellValue → ℕ
freed_bytes value = total object_bytes (filter (λ o. not (name_among o.name value.black)) value.objects)

-- the targets of the exit items that go
abbrev pub dropped : CellValue → List Name
dropped value = filter (λ n. not (name_among n value.black_exits)) value.exits

-- how many these are
abbrev pub dropped_exits : CellValue → ℕ
dropped_exits value = length (dropped value)

-- the marked cell shows the state after the end of its collection once it is swept, and three of the numbers of the event are its
-- own: what it frees and what it drops
pub record ShowsItsEnd (trace : Trace) (st : State) (cell : Cell) (value : CellValue) : Type 0 where
  pub scanned : IsTrue (is_scanned st.scans cell)
  pub shows : Shows trace (after_ended trace cell st) cell (swept value)
  pub objects : freed_objects value ≡ length (filter (λ o. not (survives trace st cell o.name)) st.objects)
  pub bytes : freed_bytes value ≡ total object_bytes (filter (λ o. not (survives trace st cell o.name)) st.objects)
  pub exits : dropped_exits value ≡ count_by (λ e. not (exit_stays trace st cell e)) st.exits

-- once its cell is swept the process still has a way into the shared heap: a register, an exit item, or it populates the heap
abbrev pub keeps_way : (ℕ → Heap) → BookValue → CellValue → ℕ → ℕ → Bool
keeps_way own book value p t =
    list_any (leads_into own t) (registers_in value.process)
    || list_any (λ n. heap_eq (own n.seg.0) (shared t)) (swept value).exits
    || is_populating (phase_of book.phases t) p

-- how many of the shares that the process has go
abbrev pub dropped_shares : Trace → (ℕ → Heap) → BookValue → CellValue → ℕ → ℕ
dropped_shares trace own book value p =
    total (λ t. if has_share book.shares p t then (if keeps_way own book value p t then 0 else 1) else 0) (numbers_below trace.shared_heaps)

-- the swept cell of a process and the book tell which shares go: those without a way by registers and the exit items that are left.
-- So the end of the collection is possible with the four numbers
pub record TellsItsShares (trace : Trace) (st : State) (p : ℕ) (value : CellValue) (book : BookValue) : Type 0 where
  pub ways : (t : ℕ) → keeps_way (owner_of trace st) book value p t ≡ has_way_into (owner_of trace st) (book_part trace st) (part trace st (user p)) p t
  pub shares : dropped_shares trace (owner_of trace st) book value p ≡ count_by (λ e. not (share_stays trace st (user p) e)) st.shares
  pub possible : MayEnd trace st (user p) (freed_objects value) (freed_bytes value) (dropped_exits value) (dropped_shares trace (owner_of trace st) book value p)

-- the bytes of the shared heaps whose shares go, each in full
abbrev pub bytes_unshared : Trace → (ℕ → Heap) → BookValue → CellValue → ℕ → ℕ
bytes_unshared trace own book value p =
    total (λ t. if has_share book.shares p t && not (keeps_way own book value p t) then slice_index_or book.shared_bytes t 0 else 0) (numbers_below trace.shared_heaps)

-- each of these objects is entered once less, and no other
abbrev pub HasLeft : List Name → BookValue → BookValue → Type 0
HasLeft gone before after = (n : Name) → counted after.entries n + one_if (name_among n gone) ≡ counted before.entries n

-- the book after the end of the collection of a process's heap: it has left the dropped exit items one by one, dropped the shares
-- without a way, and credited the freed bytes and those of the dropped shares; all else is as it was
pub record HasSettledWith (trace : Trace) (own : ℕ → Heap) (p : ℕ) (value : CellValue) (before after : BookValue) : Type 0 where
  pub entries : HasLeft (dropped value) before after
  pub shares : (q t : ℕ) → has_share after.shares q t ≡ (has_share before.shares q t && (not (q == p) || keeps_way own before value p t))
  pub direct : after.direct ≡ slice_set before.direct (limit_of trace p)
      (slice_index_or before.direct (limit_of trace p) 0 - (freed_bytes value + bytes_unshared trace own before value p))
  pub rest : after ≡ record before { shares = after.shares; direct = after.direct; entries = after.entries }
