-- Objects that a process makes in its own heap.
use Rattle.std.proofs.Common.{◌≡◌, ◌+◌, ◌<◌, ◌^◌, ℕ, sym, ap, subst, ◌∙◌, List, [], ◌∷◌, cond, drop, length, Some, None, arith, get_or, nat_lt}
use Rattle.std.proofs.lemmas.Bool.{and_parts, ltb-true}
use Rattle.std.proofs.lemmas.List.{length-map}
use Rattle.k_types.specs.declared.event.Fault.TheVariants.{LimitFull}
use Rattle.k_types.specs.declared.event.Reply.TheVariants.{Made, Refused}
use Rattle.k_types.specs.declared.names.CellPhase.TheVariants.{Idle}
use Rattle.k_types.specs.declared.names.Heap.{Heap}
use Rattle.k_types.specs.declared.names.Heap.TheVariants.{User}
use Rattle.k_types.specs.declared.names.LimitId.{LimitId}
use Rattle.k_types.specs.declared.names.Name.{Name}
use Rattle.k_types.specs.declared.names.Reg.{Reg}
use Rattle.k_types.specs.declared.names.TypeId.{TypeId}
use Rattle.k_types.specs.declared.op.Op.TheVariants.{New}
use Rattle.k_types.specs.Agree.{BookValue, CellValue, book_shown_by}
use Rattle.k_types.specs.Cells.{BookPart, CellPart, ShownPart, part}
use Rattle.k_types.specs.Names.{heap_eq}
use Rattle.k_types.specs.Owners.{object_bytes}
use Rattle.k_types.specs.State.{fresh}
use Rattle.k_types.specs.Steps.{in_range, state_after}
use Rattle.k_types.specs.Totals.{total}
use Rattle.k_types.specs.Trace.{kinds_of, limit_of, segment_count, segment_of, size_of_type}
use Rattle.k_types.specs.Types.{object_size}
use Rattle.k_types.proofs.Lists.{some_inside}
use Rattle.k_types.proofs.NameTests.{heap_eq_refl}
use Rattle.k_laws.proofs.OwnerOf.{owner_user}
use Rattle.k_space.specs.Objects.{BodyValue, new_body}
use Rattle.k_commit.specs.k_book.Books.{BookRecord}
use Rattle.k_commit.specs.k_cell.Changes.{next_in, with_body}
use Rattle.k_commit.specs.k_cell.Holdings.{HasObjectRoom}
use Rattle.k_laws.specs.BookChanges.{owner_in, with_charge, with_pin_moved}
use Rattle.k_laws.specs.CellChanges.{next_name_in, with_created}
use Rattle.k_laws.specs.PartUpdates.{held_in, with_done, with_register}
use Rattle.k_commit.specs.k_heap.Heaps.{HeapRecord, holdings_of, own_segment}
use Rattle.k_commit.specs.k_agree.Moves.{GivesAlone}
use Rattle.k_commit.specs.k_agree.Shown.{idle_part}
use Rattle.k_commit.proofs.Changed.{new_shown}
use Rattle.k_commit.proofs.Given.{new_alone, new_refused}
use Rattle.k_commit.specs.Changed.{CanSetRegister, ChangesValues, HasChanged, HasSetRegister, bodies_after}
use Rattle.k_laws.specs.Answers.{size_fault_in}
use Rattle.k_commit.specs.Charging.{HasCharged, IsFullFor}
use Rattle.k_commit.specs.Met.{Before}
use Rattle.k_commit.proofs.Fitting.{bytes_small}
use Rattle.k_commit.proofs.Setting.{process_known, process_lives}
use Rattle.k_own.specs.Own.{IsDue}
use Rattle.k_own.proofs.Away.{some_is}
use Rattle.k_own.proofs.Due.{set_last}

-- the first of the bodies and the others
abbrev first_of : {A : Type 0} → A → List A → A
first_of d [] = d
first_of d (x ∷ xs) = x

module _ (before : Before) (c : HeapRecord) (b : BookRecord) (r : Reg) (ty : TypeId) (due : IsDue before c b (New r ty)) where
  pub new_below : r.0 < 16
  unfolding in_range
  new_below = ltb-true r.0 16 (and_parts (nat_lt r.0 16) (nat_lt ty.0 (length before.trace.types)) due.may.in_range).0

  bodies_are : c.bodies ≡ new_body before.trace.types ty ∷ due.tables.body.rest
  bodies_are = ap (λ (w : HeapRecord). w.bodies) due.cell_is ∙ due.tables.body.first

  -- the process's segment is its heap's
  segment_made : get_or before.cell.value.made (own_segment before.cell.pid) None ≡ Some (get_or (state_after before.trace before.book.journal.list).made (own_segment before.cell.pid) 0)
  unfolding part
  segment_made =
      ap (λ (s : ShownPart). s.made (own_segment before.cell.pid)) due.have_met.after.shows.part
      ∙ ap (λ t. cond t (Some (get_or (state_after before.trace before.book.journal.list).made (own_segment before.cell.pid) 0)) None)
      (ap (λ (h : Heap). heap_eq h (User before.cell.pid)) (owner_user before.trace (state_after before.trace before.book.journal.list) before.cell.pid.0 (process_known before due.have_met) (process_lives before due.have_met))
      ∙ heap_eq_refl (User before.cell.pid))

  serial_left : HasObjectRoom (holdings_of before.cell) (own_segment before.cell.pid)
  serial_left = due.tables.serial (get_or (state_after before.trace before.book.journal.list).made (own_segment before.cell.pid) 0) segment_made

  pub bytes_fit : total object_bytes c.value.objects + 144 < 2 ^ 64
  bytes_fit =
      subst (λ (w : HeapRecord). total object_bytes w.value.objects + 144 < 2 ^ 64) (sym due.cell_is)
      (bytes_small before due.have_met due.may.room (User before.cell.pid) before.cell.value due.have_met.after.shows)

  pub a_body : 0 < length c.bodies
  a_body = let some = ap (λ (bodies : List BodyValue). length bodies) bodies_are in omega (arith, some)

  module _ (body : BodyValue) (left : List BodyValue) (taken : c.bodies ≡ body ∷ left) where
    pub body_is : body ≡ new_body before.trace.types ty
    body_is = ap (first_of body) (sym taken ∙ bodies_are)

    bodies_left : left ≡ bodies_after (New r ty) before.cell.bodies
    bodies_left = ap (drop 1) (sym taken) ∙ ap (λ (w : HeapRecord). drop 1 w.bodies) due.cell_is

    pub size_is : object_size (length body.fields) ≡ size_of_type before.trace ty
    size_is = ap (λ (x : BodyValue). object_size (length x.fields)) body_is ∙ ap object_size (length-map (kinds_of before.trace ty) fresh)

    -- the cell without the body, with that value
    pub values_at : (v : CellValue) → v.tail ≡ [] → v.collection ≡ Idle → (k : BookRecord) → k ≡ record b { value = record b.value { direct = k.value.direct } } →
        ChangesValues before (record c { value = v; bodies = left }) k (New r ty)
    values_at v tail idle k book_is = record {
      cell_is = ap (λ (w : HeapRecord). record w { value = v; bodies = left }) due.cell_is ∙ ap (λ (l : List BodyValue). record before.cell { value = v; bodies = l }) bodies_left;
      book_is =
          book_is ∙ ap (λ (x : BookRecord). record x { value = record b.value { direct = k.value.direct } }) due.book_is
          ∙ ap (λ (y : BookValue). record before.book { value = y }) (sym (ap (λ (x : BookRecord). x.value) book_is));
      settled = tail;
      idle = idle;
      owners = record {
        homes = ap (λ (x : BookRecord). x.value.homes) book_is ∙ ap (λ (x : BookRecord). x.value.homes) due.book_is;
        owners = ap (λ (x : BookRecord). owner_in before.trace (book_shown_by x.value)) book_is ∙ ap (λ (x : BookRecord). owner_in before.trace (book_shown_by x.value)) due.book_is;
      };
    }

    settled : c.value.tail ≡ []
    settled = ap (λ (w : HeapRecord). w.value.tail) due.cell_is ∙ due.have_met.heap.settled

    -- the cell without the body has a serial left
    pub serial_left_now : HasObjectRoom (holdings_of (record c { bodies = left })) (own_segment c.pid)
    serial_left_now =
        subst (λ (w : HeapRecord). HasObjectRoom (holdings_of (record w { bodies = left })) (own_segment w.pid)) (sym due.cell_is)
        (record { given = serial_left.given; room = serial_left.room; there = serial_left.there; can_give = serial_left.can_give; left = serial_left.left })

    pub idle : c.value.collection ≡ Idle
    idle = ap (λ (w : HeapRecord). w.value.collection) due.cell_is ∙ due.have_met.heap.idle

    abbrev new_name : Name
    new_name = next_in (own_segment c.pid) c.value

    abbrev first_name : Name
    first_name = next_name_in (segment_of before.trace (User before.cell.pid)) (idle_part before.cell.value)

    name_is : new_name ≡ first_name
    name_is = ap (λ (w : HeapRecord). next_in (own_segment w.pid) w.value) due.cell_is

    abbrev placed : CellValue
    placed = with_body (own_segment c.pid) body c.value

    placed_shown : idle_part placed ≡ with_created (segment_of before.trace (User before.cell.pid)) ty (kinds_of before.trace ty) (idle_part before.cell.value)
    placed_shown =
        ap (λ (x : BodyValue). idle_part (with_body (own_segment c.pid) x c.value)) body_is
        ∙ ap (λ (w : HeapRecord). idle_part (with_body (own_segment w.pid) (new_body before.trace.types ty) w.value)) due.cell_is
        ∙ new_shown before.cell.value (own_segment before.cell.pid) ty (kinds_of before.trace ty)
        (some_inside before.cell.value.made (own_segment before.cell.pid) _ segment_made)

    module _ (bytes : ℕ) (bytes_are : bytes ≡ size_of_type before.trace ty) (k : BookRecord) where
      pub refused_changed : (limit : LimitId) → IsFullFor before.trace b k before.cell.pid.0 bytes limit → HasChanged before (record c { bodies = left }) k (New r ty) (Refused (LimitFull limit))
      refused_changed limit full = record {
        have_met = due.have_met;
        may = due.may;
        values = values_at c.value settled idle k (full.book_is ∙ ap (λ (d : List ℕ). record b { value = record b.value { direct = d } }) (sym (ap (λ (x : BookRecord). x.value.direct) full.book_is)));
        gives =
            subst (λ (w : HeapRecord). GivesAlone before.trace before.cell.pid (New r ty) (Refused (LimitFull limit)) (idle_part before.cell.value) (with_done (idle_part w.value))
            (book_shown_by before.book.value) (book_shown_by k.value)) (sym due.cell_is)
            (subst (λ (x : BookRecord). GivesAlone before.trace before.cell.pid (New r ty) (Refused (LimitFull limit)) (idle_part before.cell.value) (with_done (idle_part before.cell.value))
            (book_shown_by before.book.value) (book_shown_by x.value)) (sym (full.book_is ∙ due.book_is))
            (new_refused before.trace (book_shown_by before.book.value) (idle_part before.cell.value) before.cell.pid r ty (LimitFull limit) full_there));
      }
        where
          full_there : size_fault_in before.trace (book_shown_by before.book.value) before.cell.pid.0 (size_of_type before.trace ty) ≡ Some (LimitFull limit)
          full_there =
              ap (λ (x : BookRecord). size_fault_in before.trace (book_shown_by x.value) before.cell.pid.0 (size_of_type before.trace ty)) (sym due.book_is)
              ∙ ap (λ n. size_fault_in before.trace (book_shown_by b.value) before.cell.pid.0 n) (sym bytes_are) ∙ full.full

      module _ (charged : HasCharged before.trace b k before.cell.pid.0 bytes) where
        pub can_set_new : CanSetRegister before (record c { value = placed; bodies = left }) k r.0 (Some new_name)
        can_set_new = record {
          have_met = due.have_met;
          pid = ap (λ (w : HeapRecord). w.pid) due.cell_is;
          process = ap (λ (w : HeapRecord). w.value.process) due.cell_is;
          pins = ap (λ (x : BookRecord). x.value.pins) charged.book_is ∙ ap (λ (x : BookRecord). x.value.pins) due.book_is;
          pin_room = ap (λ (x : BookRecord). x.pin_room) charged.book_is ∙ ap (λ (x : BookRecord). x.pin_room) due.book_is;
          owners = (values_at placed settled idle k charged.book_is).owners;
          register = new_below;
          there = λ n is. subst (λ (m : Name). m.seg.0 < segment_count before.trace) (some_is new_name n is) within;
        }
          where
            within : c.pid.0 + 1 < segment_count before.trace
            within = let known = due.have_met.after.met.there in let same = ap (λ (w : HeapRecord). w.pid.0) due.cell_is in omega (arith, known, same)

        charged_is : book_shown_by k.value ≡ with_charge (limit_of before.trace before.cell.pid.0) (size_of_type before.trace ty) (book_shown_by before.book.value)
        charged_is =
            charged.charged
            ∙ ap (λ n. with_charge (limit_of before.trace before.cell.pid.0) n (book_shown_by b.value)) bytes_are
            ∙ ap (λ (x : BookRecord). with_charge (limit_of before.trace before.cell.pid.0) (size_of_type before.trace ty) (book_shown_by x.value)) due.book_is

        fits_there : size_fault_in before.trace (book_shown_by before.book.value) before.cell.pid.0 (size_of_type before.trace ty) ≡ None
        fits_there =
            ap (λ (x : BookRecord). size_fault_in before.trace (book_shown_by x.value) before.cell.pid.0 (size_of_type before.trace ty)) (sym due.book_is)
            ∙ ap (λ n. size_fault_in before.trace (book_shown_by b.value) before.cell.pid.0 n) (sym bytes_are) ∙ charged.fits

        abbrev Gives : Name → CellPart → BookPart → Type 0
        Gives n part book =
            GivesAlone before.trace before.cell.pid (New r ty) (Made n) (idle_part before.cell.value) (with_done (with_register r.0 (Some n) part)) (book_shown_by before.book.value)
            (with_pin_moved (owner_in before.trace (book_shown_by before.book.value)) before.cell.pid.0 (held_in before.cell.value.process r.0) (Some n) book)

        gives : Gives new_name (idle_part placed) (book_shown_by k.value)
        gives =
            subst (λ (n : Name). Gives n (idle_part placed) (book_shown_by k.value)) (sym name_is)
            (subst (λ (x : CellPart). Gives first_name x (book_shown_by k.value)) (sym placed_shown)
            (subst (λ (x : BookPart). Gives first_name (with_created (segment_of before.trace (User before.cell.pid)) ty (kinds_of before.trace ty) (idle_part before.cell.value)) x) (sym charged_is)
            (new_alone before.trace (book_shown_by before.book.value) (idle_part before.cell.value) before.cell.pid r ty fits_there)))

        pub new_changed : (w : HeapRecord) (l : BookRecord) → HasSetRegister before (record c { value = placed; bodies = left }) w k l r.0 (Some new_name) → HasChanged before w l (New r ty) (Made new_name)
        new_changed w l s =
            set_last before (New r ty) (Made new_name) (record c { value = placed; bodies = left }) w k l r.0 (Some new_name) due.have_met due.may
            (values_at placed settled idle k charged.book_is) s gives
