-- Stores and loads that are due: where the object is, what the registers hold, and what has changed at the end.
use Rattle.std.proofs.Common.{◌≡◌, ◌+◌, ◌-◌, ◌==◌, ◌<◌, ◌^◌, ℕ, Bool, true, false, refl, sym, ap, subst, ◌∙◌, Option, Some, None, IsTrue, IsFalse, is_some, not, length, arith}
use Rattle.std.proofs.lemmas.Bool.{false≢true, ltb-true}
use Rattle.k_types.specs.declared.event.Fault.TheVariants.{Segv}
use Rattle.k_types.specs.declared.event.Reply.TheVariants.{Done as DoneReply, Loaded, Refused}
use Rattle.k_types.specs.declared.names.Heap.{Heap}
use Rattle.k_types.specs.declared.names.Heap.TheVariants.{User}
use Rattle.k_types.specs.declared.names.Kind.TheVariants.{User as UserKind}
use Rattle.k_types.specs.declared.names.Name.{Name}
use Rattle.k_types.specs.declared.names.Reg.{Reg}
use Rattle.k_types.specs.declared.op.Op.{Op}
use Rattle.k_types.specs.declared.op.Op.TheVariants.{New, KNew, SNew, Store, Load, Move, Clear, Dir, Put, Get, Collect, KCollect, Share, Freeze, Attach, Exit, Kill, Resize}
use Rattle.k_types.specs.Agree.{BookValue, CellValue, book_shown_by}
use Rattle.k_types.specs.Barrier.{legal_store}
use Rattle.k_types.specs.Cells.{BookPart, CellPart}
use Rattle.k_types.specs.Counted.{counted}
use Rattle.k_types.specs.Local.{is_own}
use Rattle.k_types.specs.Names.{heap_eq, kind_of, name_among}
use Rattle.k_types.specs.Replies.{is_ref, reference}
use Rattle.k_types.specs.State.{Content, Holds, Refers}
use Rattle.k_types.specs.Steps.{in_range, state_after}
use Rattle.k_types.proofs.NameTests.{heap_eq-true}
use Rattle.k_commit.specs.k_book.Books.{BookRecord}
use Rattle.k_commit.specs.k_cell.Changes.{with_exit_item, with_field}
use Rattle.k_commit.specs.k_cell.Looks.{field_among}
use Rattle.k_laws.specs.BookChanges.{owner_in, with_entry}
use Rattle.k_laws.specs.CellChanges.{with_exit_to}
use Rattle.k_entry.specs.Entries.{home_of}
use Rattle.k_laws.specs.PartUpdates.{held_in, with_done, with_written}
use Rattle.k_commit.specs.k_heap.Heaps.{HeapRecord}
use Rattle.k_commit.specs.k_agree.Moves.{GivesAlone}
use Rattle.k_commit.specs.k_agree.Shown.{idle_part}
use Rattle.k_commit.proofs.Changed.{exit_shown}
use Rattle.k_laws.specs.Answers.{field_in}
use Rattle.k_laws.specs.Locals.{is_local_in, is_local_load_in, is_local_store_in}
use Rattle.k_laws.specs.Touches.{other_cells_in}
use Rattle.k_commit.specs.Changed.{CanSetRegister, HasChanged, HasSetRegister}
use Rattle.k_commit.specs.Met.{Before}
use Rattle.k_commit.proofs.Changing.{values_changed}
use Rattle.k_commit.proofs.Fitting.{entries_small}
use Rattle.k_commit.proofs.Placed.{field_is_placed, home_is_owner, homes_count, sound_now}
use Rattle.k_commit.proofs.Setting.{own_by_segment}
use Rattle.k_own.specs.Elsewhere.{IsAway, base_of}
use Rattle.k_own.specs.Own.{IsDue}
use Rattle.k_own.proofs.Across.{GoesOut, goes_out, load_done, store_done, store_refused}
use Rattle.k_own.proofs.Away.{kept_changed, some_if_away}
use Rattle.k_own.proofs.Due.{can_set, due_values, held_before, held_there, load_below, set_alone, store_below}

-- the operations that are done here
abbrev pub is_done_here : Op → Bool
is_done_here (New r ty) = true
is_done_here (Store base i value) = true
is_done_here (Load r base i) = true
is_done_here (Move r from) = true
is_done_here (Clear r) = true
is_done_here (Dir r) = true
is_done_here (Put base i number) = true
is_done_here (Get base i) = true
is_done_here (Kill q) = true
is_done_here (Resize m max) = true
is_done_here _ = false

unrefused : (b : Bool) → not b ≡ false → b ≡ true
unrefused true e = refl
unrefused false e = absurd (false≢true (sym e))

-- a content with a reference to an object
refers_to : (content : Content) (n : Name) → reference content ≡ Some n → content ≡ Refers (Some n)
refers_to (Refers r) n is = ap Refers is
refers_to (Holds number) n is = absurd (cc is)

-- an operation that is due, of whose base the object is known
module _ (before : Before) (c : HeapRecord) (b : BookRecord) (op : Op) (due : IsDue before c b op) where
  pub held_then : (r : ℕ) (x : Name) → held_in c.value.process r ≡ Some x → held_in before.cell.value.process r ≡ Some x
  held_then r x is = sym (held_before before c b op due r) ∙ is

  pub seg_then : (x : Name) (t : Bool) → (x.seg.0 == c.pid.0 + 1) ≡ t → (x.seg.0 == before.cell.pid.0 + 1) ≡ t
  seg_then x t is = ap (λ (w : HeapRecord). x.seg.0 == w.pid.0 + 1) (sym due.cell_is) ∙ is

  pub away_by : (base : Reg) (x : Name) → base_of op ≡ Some base → base.0 < 16 → held_in c.value.process base.0 ≡ Some x → (x.seg.0 == c.pid.0 + 1) ≡ false → IsAway before c b op base
  away_by base x accesses small held refused = record {
    due = due;
    accesses = accesses;
    register = small;
    away = ap (is_own before.cell.pid.0) (held_then base.0 x held) ∙ seg_then x false refused;
  }

  pub owner_mine : (x : Name) → (x.seg.0 == c.pid.0 + 1) ≡ true → owner_in before.trace (book_shown_by before.book.value) x.seg.0 ≡ User before.cell.pid
  owner_mine x mine = sym (heap_eq-true (User before.cell.pid) (owner_in before.trace (book_shown_by before.book.value) x.seg.0) (own_by_segment before due.have_met (Some x) x refl ∙ seg_then x true mine))

  pub owner_other : (y : Name) → is_own before.cell.pid.0 (Some y) ≡ false → IsFalse (heap_eq (User before.cell.pid) (owner_in before.trace (book_shown_by before.book.value) y.seg.0))
  owner_other y refused = own_by_segment before due.have_met (Some y) y refl ∙ refused

  pub at_home : (r : ℕ) (y : Name) → held_in c.value.process r ≡ Some y → y.seg.0 < length b.value.homes
  at_home r y held =
      let there = held_there before c b op due r y held in
      let homes = homes_count before due.have_met in
      let same = ap (λ (k : BookRecord). length k.value.homes) due.book_is in
      omega (arith, there, homes, same)

  pub home_told : (r : ℕ) (y : Name) (h : Heap) → held_in c.value.process r ≡ Some y → h ≡ home_of b.value.homes y.seg.0 → h ≡ owner_in before.trace (book_shown_by before.book.value) y.seg.0
  home_told r y h held is =
      is ∙ ap (λ (k : BookRecord). home_of k.value.homes y.seg.0) due.book_is ∙ home_is_owner before due.have_met y.seg.0 (held_there before c b op due r y held)

module _ (before : Before) (c : HeapRecord) (b : BookRecord) (base : Reg) (i : ℕ) (value : Reg) (due : IsDue before c b (Store base i value)) where
  abbrev op : Op
  op = Store base i value

  abbrev part : CellPart
  part = idle_part before.cell.value

  abbrev shown_book : BookPart
  shown_book = book_shown_by before.book.value

  not_local : is_local_store_in part before.cell.pid.0 (held_in before.cell.value.process base.0) i (held_in before.cell.value.process value.0) ≡ false
  unfolding is_local_in
  not_local = due.own.not_local

  some_base : (held : Option Name) → is_local_store_in part before.cell.pid.0 held i (held_in before.cell.value.process value.0) ≡ false → is_some held ≡ true
  some_base None refused = absurd (false≢true (sym refused))
  some_base (Some x) refused = refl

  pub store_base_held : IsTrue (is_some (held_in c.value.process base.0))
  store_base_held = ap is_some (held_before before c b op due base.0) ∙ some_base (held_in before.cell.value.process base.0) not_local

  module _ (x : Name) (at_x : held_in c.value.process base.0 ≡ Some x) where
    pub store_away : (x.seg.0 == c.pid.0 + 1) ≡ false → IsAway before c b op base
    store_away refused = away_by before c b op due base x refl (store_below before base i value due.may).0 at_x refused

    module _ (mine : (x.seg.0 == c.pid.0 + 1) ≡ true) where
      out : GoesOut part x i × (is_own before.cell.pid.0 (held_in before.cell.value.process value.0) ≡ false)
      out =
          goes_out part before.cell.pid.0 x i (is_own before.cell.pid.0 (held_in before.cell.value.process value.0))
          (ap (λ (held : Option Name). is_local_store_in part before.cell.pid.0 held i (held_in before.cell.value.process value.0)) (sym (held_then before c b op due base.0 x at_x)) ∙ not_local)
          (seg_then before c b op due x true mine)

      pub store_value_held : IsTrue (is_some (held_in c.value.process value.0))
      store_value_held = ap is_some (held_before before c b op due value.0) ∙ some_if_away before.cell.pid.0 (held_in before.cell.value.process value.0) out.1

      pub store_kind : IsTrue (is_ref (field_among c.value.objects x i))
      store_kind = ap (λ (w : HeapRecord). is_ref (field_among w.value.objects x i)) due.cell_is ∙ unrefused (is_ref (field_among before.cell.value.objects x i)) out.0.kind

      module _ (y : Name) (at_y : held_in c.value.process value.0 ≡ Some y) where
        other : IsFalse (heap_eq (User before.cell.pid) (owner_in before.trace shown_book y.seg.0))
        other = owner_other before c b op due y (ap (is_own before.cell.pid.0) (sym (held_then before c b op due value.0 y at_y)) ∙ out.1)

        pub store_refuses : (h : Heap) → h ≡ home_of b.value.homes y.seg.0 → legal_store UserKind (kind_of h) false ≡ false → HasChanged before c b op (Refused Segv)
        store_refuses h is refused =
            kept_changed before c b op due (Refused Segv) refl
            (store_refused before.trace shown_book part before.cell.pid x i out.0 base value y (held_then before c b op due base.0 x at_x) (held_then before c b op due value.0 y at_y)
            (owner_mine before c b op due x mine) h (home_told before c b op due value.0 y h at_y is) other refused)

        pub store_entry_small : counted b.value.entries y < 2 ^ 32 - 1
        store_entry_small = subst (λ (k : BookRecord). counted k.value.entries y < 2 ^ 32 - 1) (sym due.book_is) (entries_small before due.have_met y)

        module _ (w : HeapRecord) (k : BookRecord) (w_is : w ≡ record c { value = with_field x i (Refers (Some y)) (with_exit_item y c.value) })
            (k_is : k ≡ record b { value = record b.value { entries = k.value.entries } })
            (entered : book_shown_by k.value ≡ with_entry (not (name_among y c.value.exits)) y (book_shown_by b.value)) where
          stored_part : idle_part w.value ≡ with_written x i (Refers (Some y)) (with_exit_to y part)
          stored_part =
              ap (λ (u : HeapRecord). idle_part u.value) w_is
              ∙ ap (with_written x i (Refers (Some y))) (exit_shown c.value y)
              ∙ ap (λ (u : HeapRecord). with_written x i (Refers (Some y)) (with_exit_to y (idle_part u.value))) due.cell_is

          stored_book : book_shown_by k.value ≡ with_entry (not (part.exits y)) y shown_book
          stored_book =
              entered
              ∙ ap (λ (u : HeapRecord). with_entry (not (name_among y u.value.exits)) y (book_shown_by b.value)) due.cell_is
              ∙ ap (λ (l : BookRecord). with_entry (not (name_among y before.cell.value.exits)) y (book_shown_by l.value)) due.book_is

          pub store_changes : (h : Heap) → h ≡ home_of b.value.homes y.seg.0 → legal_store UserKind (kind_of h) false ≡ true → HasChanged before w k op DoneReply
          store_changes h is passed = record {
            have_met = due.have_met;
            may = due.may;
            values =
                values_changed before op c w b k (due_values before c b op due refl)
                (w_is ∙ ap (λ (v : CellValue). record c { value = v }) (sym (ap (λ (u : HeapRecord). u.value) w_is)))
                (k_is ∙ ap (λ (v : BookValue). record b { value = v }) (sym (ap (λ (l : BookRecord). l.value) k_is)))
                (ap (λ (u : HeapRecord). u.value.tail) w_is ∙ ap (λ (u : HeapRecord). u.value.tail) due.cell_is ∙ due.have_met.heap.settled)
                (ap (λ (u : HeapRecord). u.value.collection) w_is ∙ ap (λ (u : HeapRecord). u.value.collection) due.cell_is ∙ due.have_met.heap.idle)
                (record { homes = ap (λ (l : BookRecord). l.value.homes) k_is; owners = ap (λ (l : BookRecord). owner_in before.trace (book_shown_by l.value)) k_is });
            gives =
                subst (λ (u : CellPart). GivesAlone before.trace before.cell.pid op DoneReply part (with_done u) shown_book (book_shown_by k.value)) (sym stored_part)
                (subst (λ (l : BookPart). GivesAlone before.trace before.cell.pid op DoneReply part (with_done (with_written x i (Refers (Some y)) (with_exit_to y part))) shown_book l) (sym stored_book)
                (store_done before.trace shown_book part before.cell.pid x i out.0 base value y (held_then before c b op due base.0 x at_x) (held_then before c b op due value.0 y at_y)
                (owner_mine before c b op due x mine) h (home_told before c b op due value.0 y h at_y is) other passed));
          }

  pub store_exit_room : length c.value.exits < c.exit_room
  store_exit_room = subst (λ (w : HeapRecord). length w.value.exits < w.exit_room) (sym due.cell_is) due.tables.exits

  pub store_entry_room : length b.value.entries < b.entry_room
  store_entry_room = subst (λ (k : BookRecord). length k.value.entries < k.entry_room) (sym due.book_is) due.tables.entries

module _ (before : Before) (c : HeapRecord) (b : BookRecord) (r base : Reg) (i : ℕ) (due : IsDue before c b (Load r base i)) where
  abbrev load_op : Op
  load_op = Load r base i

  load_not_local : is_local_load_in (idle_part before.cell.value) before.cell.pid.0 (held_in before.cell.value.process base.0) i (held_in before.cell.value.process r.0) ≡ false
  unfolding is_local_in
  load_not_local = due.own.not_local

  load_some : (held : Option Name) → is_local_load_in (idle_part before.cell.value) before.cell.pid.0 held i (held_in before.cell.value.process r.0) ≡ false → is_some held ≡ true
  load_some None refused = absurd (false≢true (sym refused))
  load_some (Some x) refused = refl

  pub load_base_held : IsTrue (is_some (held_in c.value.process base.0))
  load_base_held = ap is_some (held_before before c b load_op due base.0) ∙ load_some (held_in before.cell.value.process base.0) load_not_local

  module _ (x : Name) (at_x : held_in c.value.process base.0 ≡ Some x) where
    pub load_away : (x.seg.0 == c.pid.0 + 1) ≡ false → IsAway before c b load_op base
    load_away refused = away_by before c b load_op due base x refl (load_below before r base i due.may).1 at_x refused

    -- what the field refers to
    abbrev loaded_now : Option Name
    loaded_now = reference (field_among c.value.objects x i)

    abbrev loaded_then : Option Name
    loaded_then = reference (field_in (idle_part before.cell.value) x i)

    same_loaded : loaded_now ≡ loaded_then
    same_loaded = ap (λ (w : HeapRecord). reference (field_among w.value.objects x i)) due.cell_is

    pub load_can_set : (value : Option Name) → value ≡ loaded_now → CanSetRegister before c b r.0 value
    load_can_set value is =
        can_set before c b load_op due r.0 value (load_below before r base i due.may).0
        (λ n there. field_is_placed before.trace (state_after before.trace before.book.journal.list) (sound_now before due.have_met) (User before.cell.pid) before.cell.value due.have_met.after.shows x n i
        (refers_to (field_among before.cell.value.objects x i) n (sym same_loaded ∙ sym is ∙ there)))

    pub load_changes : (x.seg.0 == c.pid.0 + 1) ≡ true → (value : Option Name) → value ≡ loaded_now → (w : HeapRecord) (k : BookRecord) → HasSetRegister before c w b k r.0 value →
        HasChanged before w k load_op (Loaded value)
    load_changes mine value is w k s =
        let out = goes_out (idle_part before.cell.value) before.cell.pid.0 x i _
        (ap (λ (held : Option Name). is_local_load_in (idle_part before.cell.value) before.cell.pid.0 held i (held_in before.cell.value.process r.0)) (sym (held_then before c b load_op due base.0 x at_x)) ∙ load_not_local)
        (seg_then before c b load_op due x true mine) in
        let same = is ∙ same_loaded in
        subst (λ (v : Option Name). HasChanged before w k load_op (Loaded v)) (sym same)
        (set_alone before c b load_op due refl w k r.0 loaded_then (Loaded loaded_then)
        (subst (λ (v : Option Name). HasSetRegister before c w b k r.0 v) same s)
        (load_done before.trace (book_shown_by before.book.value) (idle_part before.cell.value) before.cell.pid x i out.0 r base (held_then before c b load_op due base.0 x at_x) (owner_mine before c b load_op due x mine)))

-- accesses to numbers are due only where the object is not the process's own
module _ (before : Before) (c : HeapRecord) (b : BookRecord) where
  pub put_away : (base : Reg) (i number : ℕ) → IsDue before c b (Put base i number) → IsAway before c b (Put base i number) base
  unfolding in_range is_local_in
  put_away base i number due = record { due = due; accesses = refl; register = ltb-true base.0 16 due.may.in_range; away = due.own.not_local }

  pub get_away : (base : Reg) (i : ℕ) → IsDue before c b (Get base i) → IsAway before c b (Get base i) base
  unfolding in_range is_local_in
  get_away base i due = record { due = due; accesses = refl; register = ltb-true base.0 16 due.may.in_range; away = due.own.not_local }

  -- an operation that touches another cell, or begins a collection, is not due
  pub never : (op : Op) → IsDue before c b op → IsTrue (is_done_here op)
  unfolding other_cells_in
  never (KNew r ty) due = absurd (cc due.own.alone)
  never (SNew r s ty) due = absurd (cc due.own.alone)
  never Collect due = absurd (false≢true (sym due.own.no_collection))
  never KCollect due = absurd (cc due.own.alone)
  never (Share s) due = absurd (cc due.own.alone)
  never (Freeze s root) due = absurd (cc due.own.alone)
  never (Attach r s) due = absurd (cc due.own.alone)
  never Exit due = absurd (cc due.own.alone)
  never _ due = refl
