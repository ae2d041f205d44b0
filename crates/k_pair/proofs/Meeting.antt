-- What an operation finds once both cells have met the journal.
use Rattle.std.proofs.Common.{◌≡◌, [], refl, sym, subst, ◌∙◌}
use Rattle.k_types.specs.declared.names.Heap.TheVariants.{User}
use Rattle.k_types.specs.declared.op.Op.{Op}
use Rattle.k_types.specs.Trace.{Trace}
use Rattle.k_agree.specs.Meeting.{Fits, met_note}
use Rattle.k_commit.specs.k_book.Books.{BookRecord}
use Rattle.k_commit.specs.k_heap.Heaps.{HeapRecord}
use Rattle.k_commit.specs.Met.{CanMeet, HeapHasMet, OtherHasMet}
use Rattle.k_commit.specs.Others.{OtherValue, with_note}
use Rattle.k_commit.specs.Rooms.{HasRoomFor}
use Rattle.k_commit.proofs.Meetings.{other_has_met, room_noted}
use Rattle.k_pair.specs.Operating.{CanStepWith, HaveMetFor, TouchesOther, as_they_are}

module _ (trace : Trace) (c : HeapRecord) (o : OtherValue) (b : BookRecord) (op : Op) (can : CanStepWith trace c o b op) where
  pub heap_can_meet : CanMeet trace (User c.pid) c.note c.value b
  heap_can_meet = record { agrees = can.can.heap_stands.agrees; book_agrees = can.can.book_stands.agrees; table = can.can.heap_stands.table }

  module _ (w : HeapRecord) (b1 : BookRecord) (h : HeapHasMet trace c w b b1) where
    pub other_can_meet : CanMeet trace o.cell o.held.note o.held.value b1
    other_can_meet =
        subst (λ (e : BookRecord). CanMeet trace o.cell o.held.note o.held.value e) (sym h.book_is)
        (record { agrees = can.can.other_stands.agrees; book_agrees = can.can.book_stands.agrees; table = can.can.other_stands.table })

    module _ (settled : o.held.value.tail ≡ []) (x : OtherValue) (b2 : BookRecord) (g : OtherHasMet trace o x b1 b2) where
      same_book : b ≡ b2
      same_book = sym (g.book_is ∙ h.book_is)

      other_fits : Fits b.journal o.held.note
      other_fits = subst (λ (e : BookRecord). Fits e.journal o.held.note) h.book_is g.told.fits

      room_met : HasRoomFor trace w.bodies x.held x.seg b2 op
      room_met =
          subst (λ (d : HeapRecord). HasRoomFor trace d.bodies x.held x.seg b2 op) (sym h.cell_is)
          (subst (λ (y : OtherValue). HasRoomFor trace c.bodies y.held y.seg b2 op) (sym g.other_is)
          (subst (λ (e : BookRecord). HasRoomFor trace c.bodies (with_note (met_note b1.journal o.held.note) o).held o.seg e op) same_book
          (room_noted trace c.bodies o.held (met_note b1.journal o.held.note) o.seg b op (can.can.room h.told.fits other_fits))))

      touches_met : TouchesOther trace w x.cell b2 op
      touches_met =
          subst (λ (d : HeapRecord). TouchesOther trace d x.cell b2 op) (sym h.cell_is)
          (subst (λ (y : OtherValue). TouchesOther trace c y.cell b2 op) (sym g.other_is)
          (subst (λ (e : BookRecord). TouchesOther trace c o.cell e op) same_book (can.touches h.told.fits other_fits)))

      pub met_for : HaveMetFor (as_they_are trace w x b2) w x b2 op
      met_for = record {
        same = refl;
        have_met = other_has_met trace c w b b1 h o x b2 can.can.book_stands can.can.heap_stands can.can.other_stands settled g;
        in_range = can.can.in_range;
        room = room_met;
        touches = touches_met;
      }
